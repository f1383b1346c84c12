use Rattle.std.proofs.Common.{◌≡◌, ℕ, suc, ◌+◌, true, is_some, sym, ◌∙◌, subst, arith}
use Rattle.hb_rules.specs.DeskRows.{accepted_below}
use Rattle.quiet_check.proofs.DeskTests.{known_next, unknown}
use Rattle.quiet_check.proofs.desks.are_known.Goals as goal

pub loop-lane-preserved : goal.loop-lane-preserved
loop-lane-preserved c =
    let same : suc c.loop-lane.lane ≡ c.loop-lane.lane + 1 = omega arith in
    subst (λ (k : ℕ). is_some (accepted_below c.args.epoch c.args.heard.now k) ≡ true) same
    (known_next c.args.epoch c.loop-lane.lane c.args.heard.now c.loop-lane.invariant (sym c.is_known-known.ensures ∙ c.if-not-known.false))

pub returns-then-not-known : goal.returns-then-not-known
returns-then-not-known c =
    sym (unknown c.args.n c.args.epoch c.loop-lane.lane c.args.heard.now c.loop-lane-test.true (sym c.is_known-known.ensures ∙ c.if-not-known.true))

pub returns : goal.returns
returns c =
    let same : c.loop-lane.lane ≡ c.args.n = omega arith in
    sym (subst (λ (k : ℕ). is_some (accepted_below c.args.epoch c.args.heard.now k) ≡ true) same c.loop-lane.invariant)
