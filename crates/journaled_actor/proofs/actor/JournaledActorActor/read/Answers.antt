use Rattle.std.proofs.Common.{◌≡◌, sym, ap}
use Rattle.vote_journal.specs.Text.{text_of}
use Rattle.vote_journal.specs.Usable.{disk_of}
use Rattle.hb_rules.specs.Book.{Watched}
use Rattle.journaled_actor.specs.Kept.{actor_view}
use Rattle.journaled_actor.proofs.Actors.{along, kept_watched}
use Rattle.journaled_actor.proofs.actor.JournaledActorActor.read.Goals as goal

pub read-requires : goal.read-requires
read-requires g c = record { seat = along (sym c.self.view_is) (λ a. g.B.Book.knows c.args.book.now a.seat) c.requires.seat }

pub invariant_of-self : goal.invariant_of-self
invariant_of-self g c =
    let b = g.B.Book in
    let i = c.self.inside in
    let did = c.read.ensures in
    kept_watched (g.C.Core.terms i.core) _ _ _ _ _ _ _ _ _ _ _ (text_of (g.D.Disk.seen (disk_of i.journal))) (g.C.Core.stands i.core) _ _ _ _ did.same did.watched c.self.invariant

pub returns : goal.returns
returns g c =
    let b = g.B.Book in
    let did = c.read.ensures in
    record {
      seat = did.seat;
      same = along c.self.view_is (λ a. (b.config c.read.new.seat ≡ b.config a.seat) × (b.node c.read.new.seat ≡ b.node a.seat)
          × (b.actor c.read.new.seat ≡ b.actor a.seat)) did.same;
      moved = along c.self.view_is (λ a. b.moved (b.node a.seat) (b.actor a.seat) c.args.book.now c.read.new.self) did.moved;
      whole = along c.self.view_is (λ a. b.is_whole c.args.book.now c.read.new.self a.seat c.read.new.seat) did.whole;
      watched = along c.self.view_is (λ a. Watched (b.config a.seat) (b.node a.seat) (b.actor a.seat) (b.seen a.seat) (b.seen c.read.new.seat)) did.watched;
      found = did.found;
      none = did.none;
      still = ap (λ a. actor_view g.C.Core.terms g.D.Disk.supply g.D.Disk.faults a) c.self.view_is;
    }
