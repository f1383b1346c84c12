use Rattle.std.proofs.Common.{◌≡◌, ℕ, ◌<◌, length, None, sym, subst, ◌∙◌, arith}
use Rattle.accuse.specs.Accused.{first_contradiction}
use Rattle.accuse.proofs.Against.{firsts_none, none_begun, none_more, accused_by, not_accused}
use Rattle.accuse.proofs.search.accusation_of.Goals as goal

pub loop-number-init : goal.loop-number-init
loop-number-init c = record {
  firsts = rw c.new-firsts.ensures (firsts_none c.args.config.now c.args.node c.args.posts.now);
  quiet = none_begun c.args.config.now c.args.node c.args.posts.now;
}

pub returns-in-Some : goal.returns-in-Some
returns-in-Some c =
    let inside : c.loop-number.number < length c.args.posts.now = omega arith in
    sym (accused_by c.args.config.now c.args.node c.args.posts.now c.loop-number.number c.in-Some.first inside c.loop-number.invariant.quiet
    (sym c.in_ok-first.ensures.found ∙ c.in-Some.is))

pub loop-number-preserved : goal.loop-number-preserved
loop-number-preserved c = record {
  firsts = c.in_ok-first.ensures.sound c.in-None.is;
  quiet =
      none_more c.args.config.now c.args.node c.args.posts.now c.loop-number.number c.loop-number.invariant.quiet
      (sym c.in_ok-first.ensures.found ∙ c.in-None.is);
}

pub returns : goal.returns
returns c =
    let all : c.loop-number.number ≡ length c.args.posts.now = omega arith in
    sym (not_accused c.args.config.now c.args.node c.args.posts.now
    (subst (λ (n : ℕ). first_contradiction c.args.config.now c.args.node c.args.posts.now n ≡ None) all c.loop-number.invariant.quiet))
