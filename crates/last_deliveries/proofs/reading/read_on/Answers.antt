use Rattle.std.proofs.Common.{refl, ◌++◌, ◌≡◌, List, ℕ, ap, sym, ◌∙◌, length, Some, None, slice_get, subst, arith, length-append, ◌∷◌, []}
use Rattle.hb_wire.specs.declared.post.Post.{Post}
use Rattle.hb_rules.specs.declared.report.Fate.TheVariants.{Running}
use Rattle.hb_rules.specs.Ledger.{IsPrefix}
use Rattle.actor_cell.specs.Held.{player_at}
use Rattle.actor_cell.specs.Turning.{IsShown}
use Rattle.actor_cell.proofs.Hearings.{IsShown-refl, IsShown-then, IsPrefix-refl, IsPrefix-then, shown_longer, moved_on}
use Rattle.last_deliveries.specs.Listing.{Listing}
use Rattle.last_deliveries.proofs.Readings.{IsPrefix-read, IsPrefix-read_all}
use Rattle.last_deliveries.proofs.reading.read_on.Goals as goal

pub loop-k-init : goal.loop-k-init
loop-k-init g c =
    let b = g.B.Book in
    let a = g.A.Actor in
    record {
      count = omega (arith, ap (λ (posts : List Post). length posts) c.as_slice.ensures);
      more = IsPrefix-refl c.args.posts.now.posts;
      first = refl;
      front = c.requires.front;
      seat = c.requires.seat;
      moved = g.met.B.Book.stays (b.node (a.seat c.args.actor.now)) (b.actor (a.seat c.args.actor.now)) c.args.book.now;
      shown = IsShown-refl (player_at b.config b.node b.actor b.seen a.seat a.view c.args.actor.now Running);
    }

pub loop-k-preserved : goal.loop-k-preserved
loop-k-preserved g c =
    let b = g.B.Book in
    let a = g.A.Actor in
    let o = player_at b.config b.node b.actor b.seen a.seat a.view c.args.actor.now Running in
    let p = player_at b.config b.node b.actor b.seen a.seat a.view c.loop-k.actor Running in
    let q = player_at b.config b.node b.actor b.seen a.seat a.view c.read_one.new.actor Running in
    let was = c.loop-k.invariant in
    let shown : IsShown p q = c.read_one.ensures.shown in
    let more = IsPrefix-then c.loop-k.posts.posts p.seat.seen q.seat.seen was.front (shown_longer p q shown) in
    let added = ap (λ (l : Listing). l.posts) c.in_ok-push-in-Some.ensures.added in
    let found : Some c.in-Some.post ≡ slice_get q.seat.seen (length c.loop-k.posts.posts) = sym c.in-Some.is ∙ c.in_ok-read_one.ensures.found ∙ ap (λ (k : ℕ). slice_get q.seat.seen k) (sym was.count) in
    record {
      more =
          subst (λ (posts : List Post). IsPrefix c.args.posts.now.posts posts) (sym added)
          (IsPrefix-then c.args.posts.now.posts c.loop-k.posts.posts (c.loop-k.posts.posts ++ c.in-Some.post ∷ []) was.more (record { rest = c.in-Some.post ∷ []; is = refl }));
      count = omega (arith, ap (λ (posts : List Post). length posts) added, length-append c.loop-k.posts.posts (c.in-Some.post ∷ []), was.count);
      first = ap (λ (l : Listing). l.first) c.in_ok-push-in-Some.ensures.added ∙ was.first;
      front =
          subst (λ (posts : List Post). IsPrefix posts q.seat.seen) (sym added) (IsPrefix-read c.loop-k.posts.posts q.seat.seen c.in-Some.post more found);
      seat = c.read_one.ensures.seat;
      moved = moved_on b.moved g.met.B.Book.goes_on c.args.book.now c.loop-k.book c.read_one.new.book o p was.shown.seat was.moved c.read_one.ensures.moved;
      shown = IsShown-then o p q was.shown shown;
    }

pub returns-in_err-read_one-clause-moved : goal.returns-in_err-read_one-clause-moved
returns-in_err-read_one-clause-moved g c =
    let b = g.B.Book in
    let a = g.A.Actor in
    moved_on b.moved g.met.B.Book.goes_on c.args.book.now c.loop-k.book c.read_one.new.book (player_at b.config b.node b.actor b.seen a.seat a.view c.args.actor.now Running)
    (player_at b.config b.node b.actor b.seen a.seat a.view c.loop-k.actor Running) c.loop-k.invariant.shown.seat c.loop-k.invariant.moved c.read_one.ensures.moved

pub returns-in_err-read_one-clause-shown : goal.returns-in_err-read_one-clause-shown
returns-in_err-read_one-clause-shown g c =
    let b = g.B.Book in
    let a = g.A.Actor in
    IsShown-then (player_at b.config b.node b.actor b.seen a.seat a.view c.args.actor.now Running) (player_at b.config b.node b.actor b.seen a.seat a.view c.loop-k.actor Running)
    (player_at b.config b.node b.actor b.seen a.seat a.view c.read_one.new.actor Running) c.loop-k.invariant.shown c.read_one.ensures.shown

pub returns-in-None-clause-moved : goal.returns-in-None-clause-moved
returns-in-None-clause-moved g c =
    let b = g.B.Book in
    let a = g.A.Actor in
    moved_on b.moved g.met.B.Book.goes_on c.args.book.now c.loop-k.book c.read_one.new.book (player_at b.config b.node b.actor b.seen a.seat a.view c.args.actor.now Running)
    (player_at b.config b.node b.actor b.seen a.seat a.view c.loop-k.actor Running) c.loop-k.invariant.shown.seat c.loop-k.invariant.moved c.read_one.ensures.moved

pub returns-in-None-clause-shown : goal.returns-in-None-clause-shown
returns-in-None-clause-shown g c =
    let b = g.B.Book in
    let a = g.A.Actor in
    IsShown-then (player_at b.config b.node b.actor b.seen a.seat a.view c.args.actor.now Running) (player_at b.config b.node b.actor b.seen a.seat a.view c.loop-k.actor Running)
    (player_at b.config b.node b.actor b.seen a.seat a.view c.read_one.new.actor Running) c.loop-k.invariant.shown c.read_one.ensures.shown

pub returns-in-None-clause-all : goal.returns-in-None-clause-all
returns-in-None-clause-all g c =
    let b = g.B.Book in
    let a = g.A.Actor in
    let p = player_at b.config b.node b.actor b.seen a.seat a.view c.loop-k.actor Running in
    let q = player_at b.config b.node b.actor b.seen a.seat a.view c.read_one.new.actor Running in
    let was = c.loop-k.invariant in
    let shown : IsShown p q = c.read_one.ensures.shown in
    let more = IsPrefix-then c.loop-k.posts.posts p.seat.seen q.seat.seen was.front (shown_longer p q shown) in
    let found : None ≡ slice_get q.seat.seen (length c.loop-k.posts.posts) = sym c.in-None.is ∙ c.in_ok-read_one.ensures.found ∙ ap (λ (k : ℕ). slice_get q.seat.seen k) (sym was.count) in
    IsPrefix-read_all c.loop-k.posts.posts q.seat.seen more found

pub returns-in_err-push-in-Some-clause-moved : goal.returns-in_err-push-in-Some-clause-moved
returns-in_err-push-in-Some-clause-moved g c =
    let b = g.B.Book in
    let a = g.A.Actor in
    moved_on b.moved g.met.B.Book.goes_on c.args.book.now c.loop-k.book c.read_one.new.book (player_at b.config b.node b.actor b.seen a.seat a.view c.args.actor.now Running)
    (player_at b.config b.node b.actor b.seen a.seat a.view c.loop-k.actor Running) c.loop-k.invariant.shown.seat c.loop-k.invariant.moved c.read_one.ensures.moved

pub returns-in_err-push-in-Some-clause-shown : goal.returns-in_err-push-in-Some-clause-shown
returns-in_err-push-in-Some-clause-shown g c =
    let b = g.B.Book in
    let a = g.A.Actor in
    IsShown-then (player_at b.config b.node b.actor b.seen a.seat a.view c.args.actor.now Running) (player_at b.config b.node b.actor b.seen a.seat a.view c.loop-k.actor Running)
    (player_at b.config b.node b.actor b.seen a.seat a.view c.read_one.new.actor Running) c.loop-k.invariant.shown c.read_one.ensures.shown
