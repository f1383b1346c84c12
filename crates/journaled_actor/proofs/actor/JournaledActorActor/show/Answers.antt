use Rattle.std.proofs.Common.{◌≡◌, ◌⊎◌, sym, ap}
use Rattle.vote_journal.specs.Text.{text_of}
use Rattle.vote_journal.specs.Usable.{disk_of}
use Rattle.hb_rules.specs.Ledger.{IsPrefix}
use Rattle.journaled_actor.specs.Kept.{actor_view}
use Rattle.journaled_actor.proofs.Actors.{along, kept_watched, watched_none}
use Rattle.journaled_actor.proofs.actor.JournaledActorActor.show.Goals as goal

pub meet-requires : goal.meet-requires
meet-requires g c = record {
  seat = c.requires.other;
  other = along (sym c.self.view_is) (λ a. g.B.Book.knows c.args.book.now a.seat) c.requires.seat;
}

pub invariant_of-self : goal.invariant_of-self
invariant_of-self g c =
    let b = g.B.Book in
    let i = c.self.inside in
    let same = c.meet.ensures.kept in
    kept_watched (g.C.Core.terms i.core) _ _ _ _ _ _ _ _ _ _ _ (text_of (g.D.Disk.seen (disk_of i.journal))) (g.C.Core.stands i.core) _ _ _ _
    (same.0, same.1, same.2) (watched_none (b.config i.seat) (b.node i.seat) (b.actor i.seat) (b.seen i.seat) (b.seen c.meet.new.other) same.3)
    c.self.invariant

pub returns : goal.returns
returns g c =
    let b = g.B.Book in
    let did = c.meet.ensures in
    let to = c.args.to.now in
    record {
      seat = did.other;
      other = did.seat;
      moved = did.moved;
      same = did.same;
      watched = did.watched;
      longer = along c.self.view_is (λ a. (b.seen c.meet.new.seat ≡ b.seen to) ⊎ (b.seen c.meet.new.seat ≡ b.seen a.seat)) did.longer;
      both = along c.self.view_is (λ a. IsPrefix (b.seen a.seat) (b.seen c.meet.new.seat)) did.both;
      kept = along c.self.view_is (λ a. (b.config c.meet.new.other ≡ b.config a.seat) × (b.node c.meet.new.other ≡ b.node a.seat)
          × (b.actor c.meet.new.other ≡ b.actor a.seat) × (b.seen c.meet.new.other ≡ b.seen a.seat)) did.kept;
      still = ap (λ a. actor_view g.C.Core.terms g.D.Disk.supply g.D.Disk.faults a) c.self.view_is;
    }
