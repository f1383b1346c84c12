use Rattle.std.proofs.Common.{true, false, sym, ◌∙◌}
use Rattle.std.proofs.lemmas.Bool.{or_left, or_right, or_from, both_ways}
use Rattle.hb_rules.specs.Marks.{decision, any_decision}
use Rattle.aba_core.proofs.aba.Aba.decided.Goals as goal

pub returns-then-self-clause-cast : goal.returns-then-self-clause-cast
returns-then-self-clause-cast c =
    rw (← c.self.view_is) (λ own heard stands. sym (stands.shows.cast (decision true) c.self.invariant.aba.sound.rounds.0) ∙ c.if-self.true)

pub returns-then-self-clause-none : goal.returns-then-self-clause-none
returns-then-self-clause-none c =
    rw (← c.self.view_is) (λ own heard stands. (
      (λ none. absurd (cc (none))),
      (λ empty. absurd (both_ways _ empty (sym (stands.shows.cast any_decision c.self.invariant.aba.sound.rounds.0) ∙ or_right c.self.inside.decisions.zero c.self.inside.decisions.one c.if-self.true))),
    ))

pub returns-then-self-2-clause-cast : goal.returns-then-self-2-clause-cast
returns-then-self-2-clause-cast c =
    rw (← c.self.view_is) (λ own heard stands. sym (stands.shows.cast (decision false) c.self.invariant.aba.sound.rounds.0) ∙ c.if-self-2.true)

pub returns-then-self-2-clause-none : goal.returns-then-self-2-clause-none
returns-then-self-2-clause-none c =
    rw (← c.self.view_is) (λ own heard stands. (
      (λ none. absurd (cc (none))),
      (λ empty. absurd (both_ways _ empty (sym (stands.shows.cast any_decision c.self.invariant.aba.sound.rounds.0) ∙ or_left c.self.inside.decisions.zero c.self.inside.decisions.one c.if-self-2.true))),
    ))

pub returns-else-self-2-clause-none : goal.returns-else-self-2-clause-none
returns-else-self-2-clause-none c =
    rw (← c.self.view_is) (λ own heard stands. (
      (λ none. sym (stands.shows.cast any_decision c.self.invariant.aba.sound.rounds.0) ∙ or_from c.self.inside.decisions.zero c.self.inside.decisions.one c.if-self-2.false c.if-self.false),
      (λ empty. cc),
    ))
