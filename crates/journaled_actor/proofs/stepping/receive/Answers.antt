use Rattle.std.proofs.Common.{◌≡◌, ◌<◌, true, refl, sym, ◌∙◌, subst}
use Rattle.hb_wire.specs.Addresses.{reaches}
use Rattle.hb_wire.specs.declared.post.Post.{Post}
use Rattle.journaled_actor.proofs.Left.{received, some_same}
use Rattle.journaled_actor.proofs.Posted.{watched_prefix}
use Rattle.journaled_actor.proofs.stepping.receive.Goals as goal

pub unwrap-post-requires : goal.unwrap-post-requires
unwrap-post-requires g c =
    let b = g.B.Book in
    let s = c.args.seat.now in
    let old = b.seen s in
    let new = b.seen c.reread.new.seat in
    let did = c.in_ok-found.ensures in
    let r = received (g.C.Core.terms c.args.core.now) (b.config s) old new c.args.k c.in_ok-found.found c.requires.is.config_is
    (watched_prefix (b.config s) (b.node s) (b.actor s) old new did.watched) c.requires.post did.found did.known in
    rw r.1 refl

pub hear_post-requires : goal.hear_post-requires
hear_post-requires g c =
    let b = g.B.Book in
    let t = g.C.Core.terms c.args.core.now in
    let s = c.args.seat.now in
    let old = b.seen s in
    let new = b.seen c.reread.new.seat in
    let did = c.in_ok-found.ensures in
    let r = received t (b.config s) old new c.args.k c.in_ok-found.found c.requires.is.config_is
    (watched_prefix (b.config s) (b.node s) (b.actor s) old new did.watched) c.requires.post did.found did.known in
    let same : r.0 ≡ c.unwrap-post.result = some_same r.0 c.unwrap-post.result (sym r.1 ∙ c.unwrap-post.ensures) in
    record {
      reaches = subst (λ (post : Post). reaches t.config.n post t.node t.actor ≡ true) same r.2;
      known = subst (λ (post : Post). post.from < t.config.n) same r.3;
      stands = c.requires.stands;
    }

pub returns-clause-owed : goal.returns-clause-owed
returns-clause-owed g c = (c.unwrap-post.result, sym c.in_ok-found.ensures.found ∙ c.unwrap-post.ensures, c.in_ok-hear_post.ensures.owed)
