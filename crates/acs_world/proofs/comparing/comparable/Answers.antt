use Rattle.std.proofs.Common.{List, subst}
use Rattle.hb_wire.specs.declared.post.Post.{Post}
use Rattle.hb_rules.specs.Ledger.{AreComparable}
use Rattle.acs_world.proofs.Theorems.{ledgers_comparable}
use Rattle.acs_world.proofs.Prefixes.{comparable_from, comparable_all}
use Rattle.acs_world.proofs.comparing.comparable.Goals as goal

pub returns-then-agree_in_order-clause-exact : goal.returns-then-agree_in_order-clause-exact
returns-then-agree_in_order-clause-exact c = (
  λ passes.
      subst (λ (posts : List Post). AreComparable c.args.report.now.config posts) c.as_slice-posts.ensures.value
      (c.agree_in_order.ensures c.if-agree_in_order.true),
  λ comparable. c.if-agree_in_order.true,
)

pub returns-then-agree_in_order-clause-legal : goal.returns-then-agree_in_order-clause-legal
returns-then-agree_in_order-clause-legal c = λ legal premise. c.if-agree_in_order.true

pub returns-else-agree_in_order-clause-exact : goal.returns-else-agree_in_order-clause-exact
returns-else-agree_in_order-clause-exact c = (
  λ passes.
      comparable_from c.args.report.now.config c.args.report.now.history.items
      (rw (c.all_alike.ensures, c.as_slice-posts.ensures.value) at passes),
  λ comparable.
      rw (c.all_alike.ensures, c.as_slice-posts.ensures.value)
      (comparable_all c.args.report.now.config c.args.report.now.history.items comparable),
)

pub returns-else-agree_in_order-clause-legal : goal.returns-else-agree_in_order-clause-legal
returns-else-agree_in_order-clause-legal c = λ legal premise.
    (returns-else-agree_in_order-clause-exact c).1
    (ledgers_comparable c.args.report.now.config c.args.report.now.history.items c.liars-sound.ensures.sound legal premise)
