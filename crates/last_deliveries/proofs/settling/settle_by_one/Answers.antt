use Rattle.std.proofs.Common.{◌≡◌, List, length, ap, subst, slice_get, arith}
use Rattle.std.specs.Prelude.{IfSome}
use Rattle.hb_wire.specs.declared.post.Post.{Post}
use Rattle.hb_rules.specs.declared.report.Fate.TheVariants.{Full}
use Rattle.step_driver.specs.declared.player.Player.{Player}
use Rattle.last_deliveries.specs.Catching.{HasLooked}
use Rattle.last_deliveries.specs.Settling.{players_of, seats_at, HasGoneOn, HasWatched, HasHeardNothing}
use Rattle.last_deliveries.proofs.Catches.{HasHeardNothing-looked, HasHeardNothing-refl, HasHeardNothing-then}
use Rattle.last_deliveries.proofs.Players.{HasGoneOn-refl, HasGoneOn-then, HasWatched-refl}
use Rattle.last_deliveries.proofs.Zips.{AllZip-refl, AllZip-then, AllZip-weaker}
use Rattle.last_deliveries.proofs.settling.settle_by_one.Goals as goal

pub returns-then-not-may_read-clause-went : goal.returns-then-not-may_read-clause-went
returns-then-not-may_read-clause-went g c =
    let b = g.B.Book in
    let a = g.A.Actor in
    AllZip-refl HasGoneOn HasGoneOn-refl (players_of b.config b.node b.actor b.seen a.seat a.view c.args.players.now.items)

pub returns-then-not-may_read-clause-watched : goal.returns-then-not-may_read-clause-watched
returns-then-not-may_read-clause-watched g c =
    let b = g.B.Book in
    AllZip-refl HasWatched HasWatched-refl (seats_at b.config b.node b.actor b.seen c.args.liars.now.items)

pub returns-then-not-may_read-clause-unheard : goal.returns-then-not-may_read-clause-unheard
returns-then-not-may_read-clause-unheard g c =
    let b = g.B.Book in
    let a = g.A.Actor in
    λ none. (none, AllZip-refl HasHeardNothing HasHeardNothing-refl (players_of b.config b.node b.actor b.seen a.seat a.view c.args.players.now.items))

pub returns-then-not-may_read-clause-full : goal.returns-then-not-may_read-clause-full
returns-then-not-may_read-clause-full g c =
    λ none. subst (λ (players : List (Player _)). IfSome (slice_get players c.args.reader) (λ (player : Player _). player.fate ≡ Full)) c.as_slice.ensures.value
    (c.may_read.ensures.full c.if-not-may_read.true)

pub returns-in_err-posts-clause-went : goal.returns-in_err-posts-clause-went
returns-in_err-posts-clause-went g c =
    let b = g.B.Book in
    let a = g.A.Actor in
    AllZip-refl HasGoneOn HasGoneOn-refl (players_of b.config b.node b.actor b.seen a.seat a.view c.args.players.now.items)

pub returns-in_err-posts-clause-watched : goal.returns-in_err-posts-clause-watched
returns-in_err-posts-clause-watched g c =
    let b = g.B.Book in
    AllZip-refl HasWatched HasWatched-refl (seats_at b.config b.node b.actor b.seen c.args.liars.now.items)

pub returns-in_err-posts-clause-unheard : goal.returns-in_err-posts-clause-unheard
returns-in_err-posts-clause-unheard g c =
    let b = g.B.Book in
    let a = g.A.Actor in
    λ none. (none, AllZip-refl HasHeardNothing HasHeardNothing-refl (players_of b.config b.node b.actor b.seen a.seat a.view c.args.players.now.items))

pub returns-in_err-is_all-clause-watched : goal.returns-in_err-is_all-clause-watched
returns-in_err-is_all-clause-watched g c =
    let b = g.B.Book in
    AllZip-refl HasWatched HasWatched-refl (seats_at b.config b.node b.actor b.seen c.args.liars.now.items)

pub returns-then-not-is_all-clause-watched : goal.returns-then-not-is_all-clause-watched
returns-then-not-is_all-clause-watched g c =
    let b = g.B.Book in
    AllZip-refl HasWatched HasWatched-refl (seats_at b.config b.node b.actor b.seen c.args.liars.now.items)

pub returns-then-not-is_all-clause-full : goal.returns-then-not-is_all-clause-full
returns-then-not-is_all-clause-full g c = λ none. c.in_ok-is_all.ensures.full c.if-not-is_all.true

pub returns-in_err-close-clause-went : goal.returns-in_err-close-clause-went
returns-in_err-close-clause-went g c =
    let b = g.B.Book in
    let a = g.A.Actor in
    AllZip-then HasGoneOn HasGoneOn-then (players_of b.config b.node b.actor b.seen a.seat a.view c.args.players.now.items) (players_of b.config b.node b.actor b.seen a.seat a.view c.deliver_all.new.players.items)
    (players_of b.config b.node b.actor b.seen a.seat a.view c.close.new.players.items) c.in_ok-is_all.ensures.went c.close.ensures.went

pub returns-in_err-close-clause-unheard : goal.returns-in_err-close-clause-unheard
returns-in_err-close-clause-unheard g c =
    let b = g.B.Book in
    let a = g.A.Actor in
    let mid = players_of b.config b.node b.actor b.seen a.seat a.view c.deliver_all.new.players.items in
    let new = players_of b.config b.node b.actor b.seen a.seat a.view c.close.new.players.items in
    λ none.
    let before = c.in_ok-is_all.ensures.unheard none in (
      before.0,
      AllZip-then HasHeardNothing HasHeardNothing-then (players_of b.config b.node b.actor b.seen a.seat a.view c.args.players.now.items) mid new before.1
          (AllZip-weaker HasLooked HasHeardNothing HasHeardNothing-looked mid new c.close.ensures.looked),
    )

pub returns-clause-went : goal.returns-clause-went
returns-clause-went g c =
    let b = g.B.Book in
    let a = g.A.Actor in
    AllZip-then HasGoneOn HasGoneOn-then (players_of b.config b.node b.actor b.seen a.seat a.view c.args.players.now.items) (players_of b.config b.node b.actor b.seen a.seat a.view c.deliver_all.new.players.items)
    (players_of b.config b.node b.actor b.seen a.seat a.view c.close.new.players.items) c.in_ok-is_all.ensures.went c.close.ensures.went

pub returns-clause-unheard : goal.returns-clause-unheard
returns-clause-unheard g c =
    let b = g.B.Book in
    let a = g.A.Actor in
    let mid = players_of b.config b.node b.actor b.seen a.seat a.view c.deliver_all.new.players.items in
    let new = players_of b.config b.node b.actor b.seen a.seat a.view c.close.new.players.items in
    λ none.
    let before = c.in_ok-is_all.ensures.unheard none in (
      before.0,
      AllZip-then HasHeardNothing HasHeardNothing-then (players_of b.config b.node b.actor b.seen a.seat a.view c.args.players.now.items) mid new before.1
          (AllZip-weaker HasLooked HasHeardNothing HasHeardNothing-looked mid new c.close.ensures.looked),
    )

pub returns-clause-settled : goal.returns-clause-settled
returns-clause-settled g c =
    let done = c.in_ok-is_all.ensures in
    let posts = c.deliver_all.new.posts.posts in
    c.in_ok-close.ensures.settled posts c.args.reader (omega (arith, ap (λ (ps : List Post). length ps) c.as_slice-2.ensures)) (done.read c.if-not-is_all.false) (done.all c.if-not-is_all.false)
