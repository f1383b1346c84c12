use Rattle.std.proofs.Common.{List, ap, ◌∙◌}
use Rattle.std.specs.List.{list_all, range_with_len}
use Rattle.hb_wire.specs.declared.post.Post.{Post}
use Rattle.acs_world.specs.Closures.{FinderView}
use Rattle.observer.specs.Beside.{agrees_with}
use Rattle.observer.specs.Standing.{ledger_of}
use Rattle.observer.proofs.agreeing.agrees_with_all.Goals as goal

pub returns : goal.returns
returns c =
    let config = c.args.report.now.config in
    let lists = ledger_of c.args.observer.now in
    c.agrees_with_each.ensures
    ∙ ap (λ (f : FinderView). list_all (agrees_with f.config f.posts lists) (range_with_len 0 f.config.n)) c.new-ledgers.ensures
    ∙ ap (λ (posts : List Post). list_all (agrees_with config posts lists) (range_with_len 0 config.n)) c.as_slice.ensures.value
