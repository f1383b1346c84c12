use Rattle.std.proofs.Common.{◌≡◌, ℕ, ◌+◌, ◌≤◌, inl, inr, true, false, List, [], OnOk, ap, refl, sym, ◌∙◌, arith}
use Rattle.hb_base.specs.Outside.{Rose}
use Rattle.std.proofs.lemmas.Result.{err_from_is_err_and}
use Rattle.vote_journal.specs.Text.{text_of}
use Rattle.vote_journal.specs.Usable.{disk_of}
use Rattle.journaled_actor.specs.Folding.{IsReady}
use Rattle.disk_model.specs.Supply.{Supply, Draws}
use Rattle.hb_rules.specs.Actor.{AreSeen, Goes, IsStillOff, IsOnAgain, IsUnfailedAgain, AreCastAgain, budget}
use Rattle.hb_base.specs.Limits.{most_stops}
use Rattle.hb_rules.specs.Ledger.{IsPrefix}
use Rattle.hb_rules.specs.Terms.{Terms, heard_got}
use Rattle.journaled_actor.specs.Going.{SeatGoes}
use Rattle.journaled_actor.specs.Kept.{IsSafe, IsOpen, actor_view}
use Rattle.journaled_actor.proofs.Actors.{along, from, not_failed, when_ok, ok_is, err_is, if_fault, budget_again, goes_by, goes_again, few_within, safe_back, kept_by}
use Rattle.vote_journal.proofs.Moments.{draws_same}
use Rattle.journaled_actor.proofs.Left.{always_ok}
use Rattle.journaled_actor.proofs.Posted.{prefix_refl}
use Rattle.journaled_actor.proofs.actor.JournaledActorActor.restart.Goals as goal

pub switch_on-requires : goal.switch_on-requires
switch_on-requires g c = along (sym c.self.view_is) (λ a. (g.D.Disk.supply a.disk).off ≡ true) c.requires.off

pub invariant_of-self : goal.invariant_of-self
invariant_of-self g c =
    let b = g.B.Book in
    let d = g.D.Disk in
    let i = c.self.inside in
    let holds = c.self.invariant in
    let t = g.C.Core.terms i.core in
    let now = b.seen i.seat in
    let same = c.in_err-switch_on.ensures.refused in
    kept_by t t _ _ _ _ _ _ now (d.may_leave (disk_of c.switch_on.new.self)) (d.supply (disk_of c.switch_on.new.self))
    (λ (u : Terms). IsReady d.seen d.may_leave c.switch_on.new.self
    × IsOpen u now (text_of (d.seen (disk_of c.switch_on.new.self))) (g.C.Core.stands i.core) (heard_got u now i.got.items))
    false i.got.items i.restarts refl holds.is (refl, refl, refl) holds.lawful
    (along (sym same) (λ disk. IsSafe t now (d.may_leave disk)) holds.safe) holds.few
    (along (sym same) (λ disk. budget i.restarts (d.supply disk) ≤ most_stops) holds.bound) holds.received
    (λ live. absurd (cc (live))) (λ live. absurd (cc (live)))

pub returns-in_err-switch_on : goal.returns-in_err-switch_on
returns-in_err-switch_on g c =
    let b = g.B.Book in
    let d = g.D.Disk in
    let t = g.C.Core.terms in
    let i = c.self.inside in
    let p = err_from_is_err_and c.from_residual.result c.from_residual.ensures.1 in
    let same = c.in_err-switch_on.ensures.refused in
    let off = along (sym c.self.view_is) (λ a. (d.supply a.disk).off ≡ true) c.requires.off in
    rw (p.1, p.2) (record {
      seat = along (sym c.self.view_is) (λ a. b.knows c.args.book.now a.seat) c.requires.seat;
      same = along c.self.view_is (λ a. (b.config i.seat ≡ b.config a.seat) × (b.node i.seat ≡ b.node a.seat) × (b.actor i.seat ≡ b.actor a.seat))
          (refl, refl, refl);
      moved = along c.self.view_is (λ a. b.moved (b.node a.seat) (b.actor a.seat) c.args.book.now c.args.book.now)
          (g.met.B.Book.stays (b.node i.seat) (b.actor i.seat) c.args.book.now);
      seen = along c.self.view_is (λ a. IsPrefix (b.seen a.seat) (b.seen i.seat)) (prefix_refl (b.seen i.seat));
      goes = from (actor_view t d.supply d.faults) Goes c.self.view_is (goes_by _ _ refl
          (along (sym same) (λ disk. Draws (d.supply (disk_of i.journal)) (d.supply disk)) (draws_same (d.supply (disk_of i.journal))))
          (along (sym same) (λ disk. d.faults (disk_of i.journal) ≤ d.faults disk) (omega arith)) refl refl);
      live = tt;
      ended = refl;
      told = λ no. absurd (no refl);
      full = λ h. absurd (cc (h));
      journal = λ h. absurd (cc (h));
      unfailed = λ _. from (actor_view t d.supply d.faults) IsUnfailedAgain c.self.view_is (record {
        no_fault = along (sym same) (λ disk. d.faults disk ≡ d.faults (disk_of i.journal)) refl;
        power = λ more. absurd (omega (arith, more));
        stops = along (sym same) (λ disk. (d.supply disk).stops ≡ (d.supply (disk_of i.journal)).stops) refl;
      });
      again = tt;
      on = tt;
      failed = λ h. absurd (cc (h));
      either = inl (from (actor_view t d.supply d.faults) IsStillOff c.self.view_is (record {
        restarts = refl;
        got = refl;
        off = along (sym same) (λ disk. (d.supply disk).off ≡ true) off;
        supply = along (sym same) (λ disk. d.supply disk ≡ d.supply (disk_of i.journal)) refl;
        faults = along (sym same) (λ disk. d.faults disk ≡ d.faults (disk_of i.journal)) refl;
      }));
      still = λ _. (refl, refl, along c.self.view_is (λ a. b.seen i.seat ≡ b.seen a.seat) refl);
    })

pub take_up-begun-requires : goal.take_up-begun-requires
take_up-begun-requires g c =
    let d = g.D.Disk in
    let i = c.self.inside in
    let on = c.in_ok-switch_on.ensures in
    record {
      seat = along (sym c.self.view_is) (λ a. g.B.Book.knows c.args.book.now a.seat) c.requires.seat;
      is = c.self.invariant.is;
      lawful = c.self.invariant.lawful;
      safe = safe_back d.seen d.may_leave (disk_of i.journal) (disk_of c.switch_on.new.self) (g.C.Core.terms i.core) (g.B.Book.seen i.seat) on.image on.durable
          c.self.invariant.safe;
    }

pub invariant_of-self-2 : goal.invariant_of-self-2
invariant_of-self-2 g c =
    let b = g.B.Book in
    let d = g.D.Disk in
    let i = c.self.inside in
    let holds = c.self.invariant in
    let on = c.in_ok-switch_on.ensures in
    let did = c.take_up-begun.ensures in
    let t = g.C.Core.terms i.core in
    let now = b.seen c.take_up-begun.new.seat in
    let journal = c.take_up-begun.new.journal in
    let off = along (sym c.self.view_is) (λ a. (d.supply a.disk).off ≡ true) c.requires.off in
    let got = c.clear.new.self.items in
    let none : got ≡ [] = c.clear.ensures.items in
    kept_by t (g.C.Core.terms c.take_up-begun.new.core) _ _ _ _ _ _ now (d.may_leave (disk_of journal)) (d.supply (disk_of journal))
    (λ (u : Terms). IsReady d.seen d.may_leave journal
    × IsOpen u now (text_of (d.seen (disk_of journal))) (g.C.Core.stands c.take_up-begun.new.core) (heard_got u now got))
    c.is_ok-self-inside.result got (i.restarts + 1) did.terms holds.is did.seat.same holds.lawful did.safe
    (few_within t now (1 + i.restarts + 1) (1 + (i.restarts + 1)) (omega arith) (did.few (1 + i.restarts) holds.few))
    (omega (
      arith,
      holds.bound,
      budget_again i.restarts (d.supply (disk_of i.journal)) (d.supply (disk_of c.switch_on.new.self)) (d.supply (disk_of journal)) off on.supply did.disk.draws,
    ))
    (along (sym none) (AreSeen t now) (λ k stands. absurd (omega (arith, stands.1))))
    (λ live.
    let ok = sym c.is_ok-self-inside.ensures.value ∙ live in (
      when_ok c.take_up-begun.result _ did.ready ok,
      along (sym none) (λ (ks : List ℕ). IsOpen t now (text_of (d.seen (disk_of journal))) (g.C.Core.stands c.take_up-begun.new.core) (heard_got t now ks))
          (when_ok c.take_up-begun.result _ did.opened ok),
    ))
    (λ live. (did.disk.unfailed (not_failed c.take_up-begun.result (sym c.is_ok-self-inside.ensures.value ∙ live))).power
    ∙ ap (λ (s : Supply). s.off) on.supply)

pub returns : goal.returns
returns g c =
    let b = g.B.Book in
    let d = g.D.Disk in
    let t = g.C.Core.terms in
    let i = c.self.inside in
    let on = c.in_ok-switch_on.ensures in
    let did = c.take_up-begun.ensures in
    let seat = along c.self.view_is (λ a. SeatGoes b.config b.node b.actor b.seen b.knows b.moved (t a.core) a.seat c.take_up-begun.new.seat
    c.args.book.now c.take_up-begun.new.book c.args.out.now c.take_up-begun.new.out c.take_up-begun.result) did.seat in
    let off = along (sym c.self.view_is) (λ a. (d.supply a.disk).off ≡ true) c.requires.off in
    let again = from (actor_view t d.supply d.faults) IsOnAgain c.self.view_is (record { restarts = refl; got = c.clear.ensures.items }) in
    record {
      seat = seat.stays;
      same = seat.same;
      moved = seat.book;
      seen = seat.longer;
      goes = from (actor_view t d.supply d.faults) Goes c.self.view_is
          (goes_again _ _ (d.supply (disk_of c.switch_on.new.self)) did.terms off on.supply did.disk.draws
          (omega (arith, on.faults, did.disk.no_fewer)) refl refl);
      live = ok_is c.take_up-begun.result c.is_ok-self-inside.result c.is_ok-self-inside.ensures.value;
      ended = err_is c.take_up-begun.result c.is_ok-self-inside.result c.is_ok-self-inside.ensures.value;
      told = seat.told;
      full = seat.full;
      journal = if_fault c.take_up-begun.result _ (λ is. (
        along c.self.view_is (λ a. Rose (d.faults a.disk) (d.faults (disk_of c.take_up-begun.new.journal)))
            (along on.faults (λ (n : ℕ). Rose n (d.faults (disk_of c.take_up-begun.new.journal))) (did.disk.failed is).0),
        g.met.D.Power.named (disk_of c.take_up-begun.new.journal) (did.disk.failed is).1,
      ));
      unfailed = λ well. from (actor_view t d.supply d.faults) IsUnfailedAgain c.self.view_is (record {
        no_fault = (did.disk.unfailed well).no_fault ∙ on.faults;
        power = λ _. (did.disk.unfailed well).power ∙ ap (λ (s : Supply). s.off) on.supply;
        stops = did.disk.draws.kept (did.disk.unfailed well).power ∙ ap (λ (s : Supply). s.stops) on.supply;
      });
      again = along c.self.view_is (λ a. OnOk c.take_up-begun.result
          (AreCastAgain (t a.core) (b.seen a.seat) (b.seen c.take_up-begun.new.seat))) did.again;
      on = always_ok c.take_up-begun.result again;
      failed = λ is. again;
      either = inr again;
      still = λ off. absurd (omega (arith, (from (actor_view t d.supply d.faults) IsStillOff (sym c.self.view_is) off).restarts));
    }
