use Rattle.std.proofs.Common.{ℕ, List, Some, cond, sym, ap, ◌∙◌}
use Rattle.accuse.specs.declared.place.Place.{Place}
use Rattle.accuse.specs.Places.{same_place, first_at}
use Rattle.accuse.proofs.Same.{noted_new, noted_old}
use Rattle.accuse.proofs.firsts.Firsts.note.Goals as goal

pub returns-in-Some : goal.returns-in-Some
returns-in-Some c = noted_old c.args.self.now c.args.place c.args.post c.in-Some.field-0 (sym c.first.ensures ∙ c.in-Some.is)

pub returns-in_ok-insert-in-None : goal.returns-in_ok-insert-in-None
returns-in_ok-insert-in-None c =
    noted_new c.args.self.now c.insert.new.self.entries c.args.place c.args.post (sym c.first.ensures ∙ c.in-None.is)
    (λ q. c.in_ok-insert-in-None.ensures.updates.0 q
    ∙ ap (λ (entries : List (Place × ℕ)). cond (same_place c.args.place q) (Some c.args.post) (first_at entries q)) c.self.view_is)
