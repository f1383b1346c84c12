use Rattle.std.proofs.Common.{◌≡◌, [], true, false, ◌≤◌, ◌+◌}
use Rattle.hb_base.specs.Limits.{most_stops}
use Rattle.vote_journal.specs.Text.{text_of}
use Rattle.vote_journal.specs.Usable.{disk_of}
use Rattle.hb_rules.specs.Actor.{IsFew, AreSeen, OwesNothing, budget}
use Rattle.hb_rules.specs.Same.{firsts}
use Rattle.hb_rules.specs.Terms.{AreProper, cast_in, heard_got}
use Rattle.journaled_actor.proofs.Actors.{along}
use Rattle.journaled_actor.proofs.Owing.{owes_nothing, cast_proper}
use Rattle.journaled_actor.proofs.actor.JournaledActorActor.kept.Goals as goal

pub returns : goal.returns
returns g c =
    let b = g.B.Book in
    let d = g.D.Disk in
    let i = c.self.inside in
    let holds = c.self.invariant in
    let here = holds.safe (d.seen (disk_of i.journal)) (g.met.D.Disk.seen_may_stay (disk_of i.journal)) in
    let t = g.C.Core.terms in
    record {
      is = along c.self.view_is (λ a. (b.config a.seat ≡ (t a.core).config) × (b.node a.seat ≡ (t a.core).node) × (b.actor a.seat ≡ (t a.core).actor))
          (holds.is.config_is, holds.is.node_is, holds.is.actor_is);
      few = along c.self.view_is (λ a. IsFew (t a.core) (b.seen a.seat) (1 + a.restarts)) holds.few;
      proper = along c.self.view_is (λ a. AreProper (t a.core) [] (firsts (cast_in (t a.core) (b.seen a.seat))))
          (cast_proper (t i.core) (b.seen i.seat) here.votes here.covers);
      bound = along c.self.view_is (λ a. budget a.restarts (d.supply a.disk) ≤ most_stops) holds.bound;
      fresh = along c.self.view_is (λ a. a.fresh ≡ true → (a.got ≡ []) × (a.restarts ≡ 0)) (λ fresh. ((holds.fresh fresh).0, (holds.fresh fresh).1));
      unused = along c.self.view_is (λ a. a.fresh ≡ true → cast_in (t a.core) (b.seen a.seat) ≡ []) (λ fresh. (holds.fresh fresh).2);
      begins_on = along c.self.view_is (λ a. a.fresh ≡ true → (d.supply a.disk).off ≡ false) holds.fresh_on;
      seen = along c.self.view_is (λ a. a.live ≡ true → AreSeen (t a.core) (b.seen a.seat) a.got) (λ live. holds.received);
      power = along c.self.view_is (λ a. a.live ≡ true → (d.supply a.disk).off ≡ false) holds.live_on;
      idle = along c.self.view_is (λ a. a.live ≡ true → OwesNothing (t a.core) (b.seen a.seat) a.got) (λ live.
          owes_nothing (t i.core) (b.seen i.seat) (text_of (d.seen (disk_of i.journal))) (g.C.Core.stands i.core)
          (heard_got (t i.core) (b.seen i.seat) i.got.items) holds.lawful (holds.live live).1);
    }
