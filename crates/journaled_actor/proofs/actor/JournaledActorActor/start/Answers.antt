use Rattle.std.proofs.Common.{◌≡◌, ℕ, ◌+◌, true, List, [], refl, sym, ap, ◌∙◌, arith}
use Rattle.hb_base.specs.Outside.{Rose}
use Rattle.vote_journal.specs.Text.{text_of}
use Rattle.vote_journal.specs.Usable.{disk_of}
use Rattle.journaled_actor.specs.Folding.{IsReady}
use Rattle.hb_rules.specs.Actor.{Goes, IsUnfailed, OwesNothing}
use Rattle.hb_rules.specs.Terms.{Terms, cast_in, heard_got}
use Rattle.hb_wire.specs.declared.vote.Vote.{Vote}
use Rattle.journaled_actor.specs.Going.{SeatGoes}
use Rattle.journaled_actor.specs.Kept.{IsOpen, actor_view}
use Rattle.journaled_actor.proofs.Actors.{along, from, not_failed, when_ok, ok_is, err_is, if_fault, budget_draws, goes_by, few_none, few_within, kept_by}
use Rattle.journaled_actor.proofs.Heard.{seen_longer}
use Rattle.journaled_actor.proofs.actor.JournaledActorActor.start.Goals as goal

pub take_up-begun-requires : goal.take_up-begun-requires
take_up-begun-requires g c = record {
  seat = along (sym c.self.view_is) (λ a. g.B.Book.knows c.args.book.now a.seat) c.requires.seat;
  is = c.self.invariant.is;
  lawful = c.self.invariant.lawful;
  safe = c.self.invariant.safe;
}

pub invariant_of-self : goal.invariant_of-self
invariant_of-self g c =
    let b = g.B.Book in
    let d = g.D.Disk in
    let i = c.self.inside in
    let holds = c.self.invariant in
    let did = c.take_up-begun.ensures in
    let t = g.C.Core.terms i.core in
    let now = b.seen c.take_up-begun.new.seat in
    let journal = c.take_up-begun.new.journal in
    let fresh = holds.fresh (along (sym c.self.view_is) (λ a. a.fresh ≡ true) c.requires.fresh) in
    kept_by t (g.C.Core.terms c.take_up-begun.new.core) _ _ _ _ _ _ now (d.may_leave (disk_of journal)) (d.supply (disk_of journal))
    (λ (u : Terms). IsReady d.seen d.may_leave journal
    × IsOpen u now (text_of (d.seen (disk_of journal))) (g.C.Core.stands c.take_up-begun.new.core) (heard_got u now i.got.items))
    c.is_ok-self-inside.result i.got.items i.restarts did.terms holds.is did.seat.same holds.lawful did.safe
    (few_within t now (0 + 1) (1 + i.restarts) (omega arith) (did.few 0 (few_none t (b.seen i.seat) fresh.2)))
    (omega (arith, holds.bound, budget_draws i.restarts (d.supply (disk_of i.journal)) (d.supply (disk_of journal)) did.disk.draws))
    (seen_longer t (b.seen i.seat) now i.got.items did.seat.longer holds.received)
    (λ live.
    let ok = sym c.is_ok-self-inside.ensures.value ∙ live in (
      when_ok c.take_up-begun.result _ did.ready ok,
      along (sym fresh.0) (λ (got : List ℕ). IsOpen t now (text_of (d.seen (disk_of journal))) (g.C.Core.stands c.take_up-begun.new.core) (heard_got t now got))
          (when_ok c.take_up-begun.result _ did.opened ok),
    ))
    (λ live. (did.disk.unfailed (not_failed c.take_up-begun.result (sym c.is_ok-self-inside.ensures.value ∙ live))).power
    ∙ holds.fresh_on (along (sym c.self.view_is) (λ a. a.fresh ≡ true) c.requires.fresh))

pub returns : goal.returns
returns g c =
    let b = g.B.Book in
    let d = g.D.Disk in
    let t = g.C.Core.terms in
    let i = c.self.inside in
    let did = c.take_up-begun.ensures in
    let fresh = c.self.invariant.fresh (along (sym c.self.view_is) (λ a. a.fresh ≡ true) c.requires.fresh) in
    let seat = along c.self.view_is (λ a. SeatGoes b.config b.node b.actor b.seen b.knows b.moved (t a.core) a.seat c.take_up-begun.new.seat
    c.args.book.now c.take_up-begun.new.book c.args.out.now c.take_up-begun.new.out c.take_up-begun.result) did.seat in
    record {
      seat = seat.stays;
      same = seat.same;
      moved = seat.book;
      seen = seat.longer;
      goes = from (actor_view t d.supply d.faults) Goes c.self.view_is (goes_by _ _ did.terms did.disk.draws did.disk.no_fewer refl refl);
      live = ok_is c.take_up-begun.result c.is_ok-self-inside.result c.is_ok-self-inside.ensures.value;
      ended = err_is c.take_up-begun.result c.is_ok-self-inside.result c.is_ok-self-inside.ensures.value;
      told = seat.told;
      full = seat.full;
      journal = if_fault c.take_up-begun.result _ (λ is. (
        along c.self.view_is (λ a. Rose (d.faults a.disk) (d.faults (disk_of c.take_up-begun.new.journal))) (did.disk.failed is).0,
        g.met.D.Power.named (disk_of c.take_up-begun.new.journal) (did.disk.failed is).1,
      ));
      unfailed = λ well. from (actor_view t d.supply d.faults) IsUnfailed c.self.view_is
          (record {
            no_fault = (did.disk.unfailed well).no_fault;
            power = (did.disk.unfailed well).power;
            stops = did.disk.draws.kept (did.disk.unfailed well).power;
          });
      got = fresh.0;
      owed = λ idle.
          let empty = c.self.invariant.fresh_empty (along (sym c.self.view_is) (λ a. a.fresh ≡ true) c.requires.fresh)
          (d.seen (disk_of i.journal)) (g.met.D.Disk.seen_may_stay (disk_of i.journal)) in
          let idle_at_first = along (sym c.self.view_is) (λ a. OwesNothing (t a.core) (b.seen a.seat) []) idle in
          let none = did.nothing empty (sym (ap (λ (votes : List Vote). (t i.core).owed votes []) fresh.2) ∙ idle_at_first) in (
            none.not_full,
            along c.self.view_is (λ a. cast_in (t a.core) (b.seen c.take_up-begun.new.seat) ≡ cast_in (t a.core) (b.seen a.seat)) none.cast,
          );
      restarts = along c.self.view_is (λ a. i.restarts ≡ a.restarts) refl;
    }
