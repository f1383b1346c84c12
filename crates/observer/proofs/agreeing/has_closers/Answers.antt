use Rattle.std.proofs.Common.{◌≡◌, ◌+◌, ℕ, nat_lt, nat_le, ap, ◌∙◌}
use Rattle.hb_base.specs.Limits.{most_nodes}
use Rattle.hb_base.specs.NodeSet.{is_in}
use Rattle.observer.specs.Agreeing.{is_closer, closer_count}
use Rattle.observer.specs.Beside.{heard_beside}
use Rattle.observer.proofs.Closers.{closer_within, more_than}
use Rattle.observer.proofs.Taken.{count_below}
use Rattle.observer.proofs.agreeing.has_closers.Goals as goal

pub returns : goal.returns
returns c =
    let config = c.args.report.now.config in
    let heard = heard_beside c.args.report.now c.args.node in
    let many : c.count.result ≡ closer_count config heard c.args.e =
    c.count.ensures.exact
    ∙ count_below config.n most_nodes (is_closer config heard c.args.e) (is_in c.closers.result) c.liars-sound.ensures.sound.nodes.1
    (λ a. c.closers.ensures a ∙ closer_within config heard c.args.e a) in
    ap (λ (f : ℕ). nat_lt f c.count.result) c.f.ensures.value ∙ more_than config.f c.count.result ∙ ap (λ (m : ℕ). nat_le (config.f + 1) m) many
