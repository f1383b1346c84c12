use Rattle.std.proofs.Common.{◌≡◌, ◌+◌, ◌&&◌, not, Bool, ap, sym, ◌∙◌, ℕ, List, Option, None, is_some, if◌then◌else◌}
use Rattle.std.specs.Option.{option_copied}
use Rattle.std.proofs.lemmas.Bool.{both_ways}
use Rattle.merkle_branch.specs.Branches.{is_branch}
use Rattle.rbc_core.specs.Due.{is_ready_by, is_delivery_by}
use Rattle.rbc_core.specs.Roots.{view_at, value_with}
use Rattle.rbc_core.proofs.Adding.{any_err}
use Rattle.rbc_core.proofs.Heard.{KeepsStanding-roots}
use Rattle.rbc_core.proofs.Unheeded.{unheeded_echo}
use Rattle.rbc_core.proofs.Votes.{Hears-echo, Hears-echo_again, votes_behind, votes_fit}
use Rattle.rbc_core.proofs.rbc.Rbc.hear_echo.Goals as goal

pub returns-then-not-is_valid-clause-ok : goal.returns-then-not-is_valid-clause-ok
returns-then-not-is_valid-clause-ok c =
    let at = c.args.self.now in
    unheeded_echo at c.args.from at.epoch c.args.root.now c.args.shard.now c.args.branch.now c.args.due.now.votes c.requires.from
    (λ _ valid. both_ways (is_branch c.args.root.now at.roots.config.n c.args.from c.args.shard.now c.args.branch.now)
    (sym c.requires.valid ∙ c.if-not-is_valid.true) valid)

pub returns-then-counts-clause-ok : goal.returns-then-counts-clause-ok
returns-then-counts-clause-ok c =
    let valid = sym (rw (← c.self.view_is) at c.requires.valid) ∙ c.if-not-is_valid.false in
    rw (← c.self.view_is) (Hears-echo_again _ c.args.from c.args.root.now c.args.shard.now c.args.branch.now c.args.due.now.votes
    (rw (← c.self.view_is) at c.requires.from) (rw (← c.self.view_is) at c.requires.few) valid c.counts-counts.ensures.sound
    (sym c.counts-counts.ensures.has_echoed ∙ c.if-counts.true))

pub returns-in_err-add_echo-clause-err : goal.returns-in_err-add_echo-clause-err
returns-in_err-add_echo-clause-err c =
    rw (← c.self.view_is) (any_err _ _ (KeepsStanding-roots _ c.add_echo.new.self c.in_err-add_echo.ensures.err))

pub cast-requires : goal.cast-requires
cast-requires c =
    votes_fit c.self.inside.epoch c.args.root.now c.in_ok-votes.votes.is_ready_due c.due_by-is_ready_due.result.1
    (option_copied c.as_ref.result) c.in_ok-votes.votes.delivery c.root_votes.new.due.spare c.in_ok-votes.ensures.delivery
    (rw c.in_ok-votes.ensures.ready c.in_ok-votes.ensures.room)

pub returns-clause-ok : goal.returns-clause-ok
returns-clause-ok c =
    let valid = sym (rw (← c.self.view_is) at c.requires.valid) ∙ c.if-not-is_valid.false in
    let copy : c.in_ok-shard.shard ≡ c.args.shard.now = c.in_ok-shard.ensures.cases in
    let ready = rw (← c.self.view_is) at c.due_by-is_ready_due.ensures.ready in
    let delivery = rw (← c.self.view_is) at c.due_by-is_ready_due.ensures.delivery in
    rw (← c.self.view_is, c.cast.ensures.state) (Hears-echo _ c.add_echo.new.self c.args.from c.args.root.now c.args.shard.now c.args.branch.now
    c.counts-counts.result.echoes c.counts-counts.result.readies c.in_ok-value.value
    c.in_ok-votes.votes.is_ready_due c.in_ok-votes.votes.delivered c.args.due.now.votes c.cast.new.due.votes
    (record {
      below = rw (← c.self.view_is) at c.requires.from;
      few = rw (← c.self.view_is) at c.requires.few;
      valid = valid;
      short = c.requires.short;
      is = c.counts-counts.ensures.sound;
      new = sym c.counts-counts.ensures.has_echoed ∙ c.if-counts.false;
    })
    (rw (← copy) c.in_ok-add_echo.ensures.ok)
    (record {
      echoed = c.counts-counts.ensures.echoes;
      readied = c.counts-counts.ensures.readies;
      is_rebuilt = c.in_ok-value.ensures ∙ ap (λ (s : List ℕ). value_with c.self.inside.roots.config c.args.root.now (view_at c.self.inside.roots c.args.root.now) c.args.from s) copy;
      is_due =
          c.in_ok-votes.ensures.ready ∙ ready
          ∙ ap (λ (b : Bool). not c.self.inside.is_ready_cast && is_ready_by c.self.inside.roots.config (c.counts-counts.result.echoes + 1) c.counts-counts.result.readies b) c.is_some.ensures;
      is_delivered =
          c.in_ok-votes.ensures.delivered
          ∙ ap (λ (o : Option (List ℕ)). if c.due_by-is_ready_due.result.1 then o else None) c.as_ref.ensures.value
          ∙ ap (λ (b : Bool). if b then c.in_ok-value.value else None) (delivery
          ∙ ap (λ (b : Bool). not (is_some c.self.inside.delivered) && is_delivery_by c.self.inside.roots.config c.counts-counts.result.readies b) c.is_some.ensures);
    })
    (votes_behind c.self.inside.epoch c.args.root.now c.in_ok-votes.votes.is_ready_due c.in_ok-votes.votes.delivery c.in_ok-votes.votes.delivered
    c.args.due.now.votes c.root_votes.new.due.votes c.cast.new.due.votes c.cast.ensures.votes c.root_votes.ensures.votes
    (c.in_ok-votes.ensures.delivery ∙ sym c.in_ok-votes.ensures.delivered)))
