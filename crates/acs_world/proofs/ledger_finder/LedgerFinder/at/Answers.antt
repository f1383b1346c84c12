use Rattle.std.proofs.Common.{◌≡◌, arith}
use Rattle.acs_world.proofs.Searching.{closure_next, closure_missing, closure_past, closure_shown}
use Rattle.acs_world.proofs.ledger_finder.LedgerFinder.at.Goals as goal

pub returns-in-Found-clause-some : goal.returns-in-Found-clause-some
returns-in-Found-clause-some c =
    closure_shown c.args.self.now.config c.args.self.now.posts c.args.node c.loop-epoch.epoch c.loop-epoch.left c.args.place _
    (omega (arith, c.loop-epoch-test.true)) c.loop-epoch.invariant c.in-Found.ensures

pub loop-epoch-preserved : goal.loop-epoch-preserved
loop-epoch-preserved c =
    closure_next c.args.self.now.config c.args.node c.loop-epoch.epoch c.loop-epoch.left c.in-Fewer.count c.args.place c.args.self.now.posts
    c.loop-epoch.invariant c.in-Fewer.ensures.0 c.in-Fewer.ensures.1

pub returns-clause-none : goal.returns-clause-none
returns-clause-none c =
    let all : c.loop-epoch.epoch ≡ 32 = omega (arith, c.loop-epoch-test.false, c.loop-epoch.auto.epoch-end) in
    closure_past c.args.self.now.config c.args.node c.loop-epoch.epoch c.loop-epoch.left c.args.place c.args.self.now.posts all c.loop-epoch.invariant

pub returns-clause-missing : goal.returns-clause-missing
returns-clause-missing c =
    closure_missing c.args.self.now.config c.args.self.now.posts c.args.node c.args.place (returns-clause-none c)
