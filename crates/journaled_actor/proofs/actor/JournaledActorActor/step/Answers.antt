use Rattle.std.proofs.Common.{OnOk, ◌≡◌, ℕ, ◌+◌, ◌⊎◌, true, List, [], ◌∷◌, ◌++◌, refl, sym, ap, ◌∙◌, arith}
use Rattle.hb_base.specs.Numbers.{Numbers}
use Rattle.hb_base.specs.Outside.{Rose}
use Rattle.vote_journal.specs.Text.{text_of}
use Rattle.vote_journal.specs.Usable.{disk_of}
use Rattle.journaled_actor.specs.Folding.{IsReady}
use Rattle.hb_rules.specs.Actor.{Goes, IsUnfailed, ReachesActor, OwesNothing}
use Rattle.hb_rules.specs.Terms.{Terms, heard_got}
use Rattle.journaled_actor.specs.Going.{SeatGoes}
use Rattle.journaled_actor.specs.Kept.{IsOpen, actor_view}
use Rattle.journaled_actor.proofs.Actors.{along, from, alone_from, not_failed, when_ok, ok_is, err_is, if_fault, budget_draws, goes_by, kept_by, seen_either}
use Rattle.journaled_actor.proofs.Posted.{at_terms}
use Rattle.journaled_actor.proofs.actor.JournaledActorActor.step.Goals as goal

pub advance-heard-requires : goal.advance-heard-requires
advance-heard-requires g c =
    let b = g.B.Book in
    let i = c.self.inside in
    let holds = c.self.invariant in
    let live = holds.live (along (sym c.self.view_is) (λ a. a.live ≡ true) c.requires.live) in
    record {
      seat = along (sym c.self.view_is) (λ a. b.knows c.args.book.now a.seat) c.requires.seat;
      is = holds.is;
      lawful = holds.lawful;
      post = at_terms (g.C.Core.terms i.core) (b.config i.seat) (b.node i.seat) (b.actor i.seat) holds.is
          (λ (d : Numbers) (j x : ℕ). ReachesActor d (b.seen i.seat) j x c.args.k)
          (along (sym c.self.view_is) (λ a. ReachesActor (b.config a.seat) (b.seen a.seat) (b.node a.seat) (b.actor a.seat) c.args.k) c.requires.post);
      ready = live.0;
      got = holds.received;
      opened = live.1;
    }

pub invariant_of-self : goal.invariant_of-self
invariant_of-self g c =
    let b = g.B.Book in
    let d = g.D.Disk in
    let i = c.self.inside in
    let holds = c.self.invariant in
    let did = c.advance-heard.ensures in
    let t = g.C.Core.terms i.core in
    let now = b.seen c.advance-heard.new.seat in
    let journal = c.advance-heard.new.journal in
    let got = c.advance-heard.new.got.items in
    let there = at_terms t (b.config i.seat) (b.node i.seat) (b.actor i.seat) holds.is
    (λ (d : Numbers) (j x : ℕ). ReachesActor d (b.seen i.seat) j x c.args.k)
    (along (sym c.self.view_is) (λ a. ReachesActor (b.config a.seat) (b.seen a.seat) (b.node a.seat) (b.actor a.seat) c.args.k) c.requires.post) in
    kept_by t (g.C.Core.terms c.advance-heard.new.core) _ _ _ _ _ _ now (d.may_leave (disk_of journal)) (d.supply (disk_of journal))
    (λ (u : Terms). IsReady d.seen d.may_leave journal
    × IsOpen u now (text_of (d.seen (disk_of journal))) (g.C.Core.stands c.advance-heard.new.core) (heard_got u now got))
    c.is_ok-self-inside.result got i.restarts did.terms holds.is did.seat.same holds.lawful did.safe
    (did.few (1 + i.restarts) (omega arith) holds.few)
    (omega (arith, holds.bound, budget_draws i.restarts (d.supply (disk_of i.journal)) (d.supply (disk_of journal)) did.disk.draws))
    (seen_either t (b.seen i.seat) now i.got.items got c.args.k did.seat.longer holds.received there did.kept)
    (λ live.
    let ok = sym c.is_ok-self-inside.ensures.value ∙ live in (
      when_ok c.advance-heard.result _ did.ready ok,
      along (sym (when_ok c.advance-heard.result _ did.got ok))
          (λ (ks : List ℕ). IsOpen t now (text_of (d.seen (disk_of journal))) (g.C.Core.stands c.advance-heard.new.core) (heard_got t now ks))
          (when_ok c.advance-heard.result _ did.opened ok),
    ))
    (λ live. (did.disk.unfailed (not_failed c.advance-heard.result (sym c.is_ok-self-inside.ensures.value ∙ live))).power
    ∙ holds.live_on (along (sym c.self.view_is) (λ a. a.live ≡ true) c.requires.live))

pub returns : goal.returns
returns g c =
    let b = g.B.Book in
    let d = g.D.Disk in
    let t = g.C.Core.terms in
    let i = c.self.inside in
    let did = c.advance-heard.ensures in
    let got = c.advance-heard.new.got.items in
    let seat = along c.self.view_is (λ a. SeatGoes b.config b.node b.actor b.seen b.knows b.moved (t a.core) a.seat c.advance-heard.new.seat
    c.args.book.now c.advance-heard.new.book c.args.out.now c.advance-heard.new.out c.advance-heard.result) did.seat in
    record {
      seat = seat.stays;
      same = seat.same;
      moved = seat.book;
      seen = seat.longer;
      goes = from (actor_view t d.supply d.faults) Goes c.self.view_is (goes_by _ _ did.terms did.disk.draws did.disk.no_fewer refl refl);
      live = ok_is c.advance-heard.result c.is_ok-self-inside.result c.is_ok-self-inside.ensures.value;
      ended = err_is c.advance-heard.result c.is_ok-self-inside.result c.is_ok-self-inside.ensures.value;
      told = seat.told;
      full = seat.full;
      journal = if_fault c.advance-heard.result _ (λ is. (
        along c.self.view_is (λ a. Rose (d.faults a.disk) (d.faults (disk_of c.advance-heard.new.journal))) (did.disk.failed is).0,
        g.met.D.Power.named (disk_of c.advance-heard.new.journal) (did.disk.failed is).1,
      ));
      unfailed = λ well. from (actor_view t d.supply d.faults) IsUnfailed c.self.view_is
          (record {
            no_fault = (did.disk.unfailed well).no_fault;
            power = (did.disk.unfailed well).power;
            stops = did.disk.draws.kept (did.disk.unfailed well).power;
          });
      got = along c.self.view_is (λ a. OnOk c.advance-heard.result (got ≡ a.got ++ c.args.k ∷ [])) did.got;
      kept = along c.self.view_is (λ a. (got ≡ a.got) ⊎ (got ≡ a.got ++ c.args.k ∷ [])) did.kept;
      unheard = λ same.
          let none = did.unheard (along (sym c.self.view_is) (λ a. got ≡ a.got) same) in (
            none.0,
            none.1,
            alone_from t d.supply d.faults b.seen c.self.view_is (record {
              cast = none.3;
              supply = ap (λ j. d.supply (disk_of j)) none.2;
              faults = ap (λ j. d.faults (disk_of j)) none.2;
            }),
          );
      owed = λ idle.
          let none = did.owed (along (sym c.self.view_is) (λ a. OwesNothing (t a.core) (b.seen a.seat) (a.got ++ c.args.k ∷ [])) idle) in (
            none.0,
            alone_from t d.supply d.faults b.seen c.self.view_is (record {
              cast = none.2;
              supply = ap (λ j. d.supply (disk_of j)) none.1;
              faults = ap (λ j. d.faults (disk_of j)) none.1;
            }),
          );
      restarts = along c.self.view_is (λ a. i.restarts ≡ a.restarts) refl;
    }
