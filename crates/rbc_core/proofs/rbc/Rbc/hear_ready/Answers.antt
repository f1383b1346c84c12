use Rattle.std.proofs.Common.{◌≡◌, ◌+◌, ◌&&◌, not, Bool, ap, sym, ◌∙◌, None, is_some, if◌then◌else◌, arith}
use Rattle.std.specs.Option.{option_copied}
use Rattle.hb_base.specs.Numbers.{Numbers}
use Rattle.rbc_core.specs.Due.{is_ready_by, is_delivery_by}
use Rattle.rbc_core.proofs.Adding.{any_err}
use Rattle.rbc_core.proofs.Heard.{KeepsStanding-roots}
use Rattle.rbc_core.proofs.Votes.{Hears-ready, Hears-ready_again, some_copied, votes_behind, votes_fit}
use Rattle.rbc_core.proofs.rbc.Rbc.hear_ready.Goals as goal

pub returns-then-counts-clause-ok : goal.returns-then-counts-clause-ok
returns-then-counts-clause-ok c =
    let n : c.n-n.result ≡ c.self.inside.roots.config.n = c.n-n.ensures.value ∙ ap (λ (v : Numbers). v.n) c.config.ensures in
    rw (← c.self.view_is) (Hears-ready_again _ c.args.from c.args.root.now c.args.due.now.votes
    (rw (← c.self.view_is) at c.requires) (omega (arith, n, c.n-n.ensures.bounds.1)) c.counts-counts.ensures.sound
    (sym c.counts-counts.ensures.is_ready ∙ c.if-counts.true))

pub returns-in_err-add_ready-clause-err : goal.returns-in_err-add_ready-clause-err
returns-in_err-add_ready-clause-err c =
    rw (← c.self.view_is) (any_err _ _ (KeepsStanding-roots _ c.add_ready.new.self c.in_err-add_ready.ensures.err))

pub cast-requires : goal.cast-requires
cast-requires c =
    votes_fit c.self.inside.epoch c.args.root.now c.in_ok-votes.votes.is_ready_due c.due_by-is_ready_due.result.1
    (option_copied c.value-value.result) c.in_ok-votes.votes.delivery c.root_votes.new.due.spare c.in_ok-votes.ensures.delivery
    (rw c.in_ok-votes.ensures.ready c.in_ok-votes.ensures.room)

pub returns-clause-ok : goal.returns-clause-ok
returns-clause-ok c =
    let n : c.n-n.result ≡ c.self.inside.roots.config.n = c.n-n.ensures.value ∙ ap (λ (v : Numbers). v.n) c.config.ensures in
    let some : c.is_some.result ≡ is_some (option_copied c.value-value.result) = c.is_some.ensures ∙ sym (some_copied c.value-value.result) in
    let ready = rw (← c.self.view_is) at c.due_by-is_ready_due.ensures.ready in
    let delivery = rw (← c.self.view_is) at c.due_by-is_ready_due.ensures.delivery in
    rw (← c.self.view_is, c.cast.ensures.state) (Hears-ready _ c.add_ready.new.self c.args.from c.args.root.now
    c.counts-counts.result.echoes c.counts-counts.result.readies (option_copied c.value-value.result)
    c.in_ok-votes.votes.is_ready_due c.in_ok-votes.votes.delivered c.args.due.now.votes c.cast.new.due.votes
    (record {
      below = rw (← c.self.view_is) at c.requires;
      few = omega (arith, n, c.n-n.ensures.bounds.1);
      is = c.counts-counts.ensures.sound;
      new = sym c.counts-counts.ensures.is_ready ∙ c.if-counts.false;
    })
    c.in_ok-add_ready.ensures.ok
    (record {
      echoed = c.counts-counts.ensures.echoes;
      readied = c.counts-counts.ensures.readies;
      is_rebuilt = c.value-value.ensures;
      is_due =
          c.in_ok-votes.ensures.ready ∙ ready
          ∙ ap (λ (b : Bool). not c.self.inside.is_ready_cast && is_ready_by c.self.inside.roots.config c.counts-counts.result.echoes (c.counts-counts.result.readies + 1) b) some;
      is_delivered =
          c.in_ok-votes.ensures.delivered
          ∙ ap (λ (b : Bool). if b then option_copied c.value-value.result else None) (delivery
          ∙ ap (λ (b : Bool). not (is_some c.self.inside.delivered) && is_delivery_by c.self.inside.roots.config (c.counts-counts.result.readies + 1) b) some);
    })
    (votes_behind c.self.inside.epoch c.args.root.now c.in_ok-votes.votes.is_ready_due c.in_ok-votes.votes.delivery c.in_ok-votes.votes.delivered
    c.args.due.now.votes c.root_votes.new.due.votes c.cast.new.due.votes c.cast.ensures.votes c.root_votes.ensures.votes
    (c.in_ok-votes.ensures.delivery ∙ sym c.in_ok-votes.ensures.delivered)))
