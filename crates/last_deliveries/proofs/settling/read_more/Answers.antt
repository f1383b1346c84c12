use Rattle.std.proofs.Common.{◌≡◌, ℕ, length, sym, ap, ◌∙◌, subst, arith}
use Rattle.std.specs.Prelude.{All}
use Rattle.hb_rules.specs.Ledger.{IsPrefix}
use Rattle.last_deliveries.specs.Catching.{HasHeardTo, HasLooked, HasReadFront}
use Rattle.last_deliveries.specs.Listing.{Listing}
use Rattle.last_deliveries.specs.Settling.{players_of}
use Rattle.last_deliveries.proofs.Catches.{HasHeardTo-read}
use Rattle.last_deliveries.proofs.Settles.{All-zip}
use Rattle.last_deliveries.proofs.settling.read_more.Goals as goal

pub read_by-requires-clause-front : goal.read_by-requires-clause-front
read_by-requires-clause-front g c =
    let b = g.B.Book in
    let a = g.A.Actor in
    subst (λ (l : Listing). HasReadFront l.posts c.args.reader (players_of b.config b.node b.actor b.seen a.seat a.view c.args.players.now.items)) (sym c.grow_old.ensures) c.requires.front

pub read_by-requires-clause-few : goal.read_by-requires-clause-few
read_by-requires-clause-few g c = omega (arith, c.requires.few, ap (λ (l : Listing). length l.posts) c.grow_old.ensures)

pub returns-clause-before : goal.returns-clause-before
returns-clause-before g c =
    let b = g.B.Book in
    let a = g.A.Actor in
    let s = c.args.script.now in
    let old = c.args.posts.now.posts in
    let new = c.read_by.new.posts in
    let players = players_of b.config b.node b.actor b.seen a.seat a.view c.args.players.now.items in
    let after = players_of b.config b.node b.actor b.seen a.seat a.view c.read_by.new.players.items in
    let read = c.in_ok-read_by.ensures in
    let more : IsPrefix old new.posts = subst (λ (l : Listing). IsPrefix l.posts new.posts) c.grow_old.ensures read.more in
    let first : new.first ≡ length old = read.first ∙ ap (λ (l : Listing). l.first) c.grow_old.ensures in
    subst (λ (count : ℕ). All (HasHeardTo s new.posts count) after) (sym first)
    (All-zip (HasHeardTo s old (length old)) (HasHeardTo s new.posts (length old)) HasLooked (λ p q heard looked. HasHeardTo-read s old new.posts p q more heard looked) players after
    c.requires.before read.looked)

pub returns-clause-more : goal.returns-clause-more
returns-clause-more g c =
    λ more. omega (arith, c.has_new.ensures.some more, c.in_ok-read_by.ensures.first, ap (λ (l : Listing). l.first) c.grow_old.ensures)
