use Rattle.std.proofs.Common.{◌≡◌, ◌+◌, Bool, true, false, length, take, if◌then◌else◌, sym, ap, ◌∙◌}
use Rattle.hb_rules.specs.Ledger.{ledger}
use Rattle.acs_world.specs.Common.{is_new}
use Rattle.acs_world.proofs.Counting.{count_more}
use Rattle.acs_world.proofs.lists.added.Goals as goal

pub returns-then-is_new-clause-lists : goal.returns-then-is_new-clause-lists
returns-then-is_new-clause-lists c =
    let new : is_new c.args.config.now c.args.node (take c.args.number c.args.posts.now) c.index-posts-number.result ≡ true =
    rw c.front.ensures at (sym c.is_new.ensures ∙ c.if-is_new.true) in
    count_more c.args.config.now c.args.node c.args.number c.args.posts.now c.index-posts-number.result c.requires c.index-posts-number.is
    ∙ ap (λ (b : Bool). length (ledger c.args.config.now (take c.args.number c.args.posts.now) c.args.node) + (if b then 1 else 0)) new

pub returns-else-is_new-clause-lists : goal.returns-else-is_new-clause-lists
returns-else-is_new-clause-lists c =
    let old : is_new c.args.config.now c.args.node (take c.args.number c.args.posts.now) c.index-posts-number.result ≡ false =
    rw c.front.ensures at (sym c.is_new.ensures ∙ c.if-is_new.false) in
    count_more c.args.config.now c.args.node c.args.number c.args.posts.now c.index-posts-number.result c.requires c.index-posts-number.is
    ∙ ap (λ (b : Bool). length (ledger c.args.config.now (take c.args.number c.args.posts.now) c.args.node) + (if b then 1 else 0)) old
