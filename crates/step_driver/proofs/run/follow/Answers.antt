use Rattle.std.proofs.Common.{◌<◌, List, refl, ap, subst, sym, length, None, Some, Option, ℕ}
use native.Mathlib.Omega.{arith}
use Rattle.std.specs.Prelude.{IfSome}
use Rattle.std.proofs.lemmas.Result.{on_ok_weaker}
use Rattle.hb_base.specs.Numbers.{Numbers}
use Rattle.hb_wire.specs.declared.post.Post.{Post}
use Rattle.step_driver.specs.Places.{spots}
use Rattle.step_driver.specs.Delivering.{AreFollowed, IsBetween}
use Rattle.step_driver.proofs.Directories.{IsDirectory-on}
use Rattle.step_driver.proofs.Stages.{AreFollowed-none, AreFollowed-some}
use Rattle.step_driver.proofs.Turns.{AreFollowed-of}
use Rattle.step_driver.proofs.run.follow.Goals as goal

pub send-requires : goal.send-requires
send-requires g c =
    let same = ap (λ (posts : List Post). length posts) c.history-posts.ensures.posts in
    let all = spots g.A.Actor.seat g.A.Actor.view c.args.places.now in
    record {
      first = omega (arith, c.requires.first, same);
      posts = omega (arith, c.history-posts.ensures.legal.short, same);
      few = c.requires.few;
      listed =
          IsDirectory-on c.args.book.now.config.n c.config-config.result.n all all c.args.directory.now (ap (λ (d : Numbers). d.n) c.config-config.ensures) refl c.requires.listed;
    }

pub returns-in-None : goal.returns-in-None
returns-in-None g c =
    let posts = c.history-posts.result.now in
    let same = ap (λ (ps : List Post). length ps) c.history-posts.ensures.posts in
    let all = spots g.A.Actor.seat g.A.Actor.view c.args.places.now in
    subst (λ (o : Option ℕ). AreFollowed c.args.book.now.config c.args.script.now c.args.book.now.posts all c.args.first c.args.place o c.args.line.now c.send.new.line) (sym c.in-None.is)
    (AreFollowed-of c.args.script.now c.config-config.result c.args.book.now.config posts c.args.book.now.posts all
    c.args.first c.args.place None c.args.line.now c.send.new.line c.config-config.ensures c.history-posts.ensures.posts
    (AreFollowed-none c.config-config.result c.args.script.now posts all c.args.first c.args.place c.args.line.now c.send.new.line
    (omega (arith, c.history-posts.ensures.legal.short, same)) c.in_ok-send.ensures))

pub send_again-requires : goal.send_again-requires
send_again-requires g c =
    let same = ap (λ (ps : List Post). length ps) c.history-posts.ensures.posts in
    let between = subst (λ (o : Option ℕ). IfSome o (IsBetween c.args.first (length c.args.book.now.posts))) c.in-Some.is c.requires.again in
    record {
      stood = omega (arith, between.1, same);
      number = subst (λ (o : Option ℕ). IfSome o (λ _. c.args.place < length (spots g.A.Actor.seat g.A.Actor.view c.args.places.now))) c.in-Some.is c.requires.place;
    }

pub returns-in-Some : goal.returns-in-Some
returns-in-Some g c =
    let posts = c.history-posts.result.now in
    let same = ap (λ (ps : List Post). length ps) c.history-posts.ensures.posts in
    let between = subst (λ (o : Option ℕ). IfSome o (IsBetween c.args.first (length c.args.book.now.posts))) c.in-Some.is c.requires.again in
    let all = spots g.A.Actor.seat g.A.Actor.view c.args.places.now in
    on_ok_weaker c.send_again.result (λ resent.
    subst (λ (o : Option ℕ). AreFollowed c.args.book.now.config c.args.script.now c.args.book.now.posts all c.args.first c.args.place o c.args.line.now c.send_again.new.line) (sym c.in-Some.is)
    (AreFollowed-of c.args.script.now c.config-config.result c.args.book.now.config posts c.args.book.now.posts all
    c.args.first c.args.place (Some c.in-Some.stood) c.args.line.now c.send_again.new.line c.config-config.ensures c.history-posts.ensures.posts
    (AreFollowed-some c.config-config.result c.args.script.now posts all c.args.first c.args.place c.in-Some.stood c.args.line.now c.send.new.line c.send_again.new.line
    (omega (arith, c.history-posts.ensures.legal.short, same)) between.0 c.in_ok-send.ensures resent))) c.send_again.ensures
