use Rattle.std.proofs.Common.{◌≡◌, Bool, false, List, sym, ap, ◌∙◌}
use Rattle.std.proofs.lemmas.Result.{err_from_is_err_and}
use Rattle.hb_base.specs.NodeSet.{is_in}
use Rattle.script_fault.proofs.Writing.{writes_then, writes_front}
use Rattle.acs_world.specs.Closures.{FinderView}
use Rattle.ledger_text.specs.Text.{node_text, ledger_text}
use Rattle.ledger_text.proofs.Order.{writes_as}
use Rattle.ledger_text.proofs.nodes.put_whole_node.Goals as goal

pub returns-in_err-put_state : goal.returns-in_err-put_state
unfolding node_text
returns-in_err-put_state g c =
    let p = err_from_is_err_and c.from_residual.result c.from_residual.ensures.1 in
    let honest : is_in c.args.report.now.config.liars c.args.node ≡ false =
    ap (λ (set : List Bool). is_in set c.args.node) (sym c.liars.ensures.value) ∙ sym c.has.ensures ∙ c.if-has.false in
    rw p.1 (rw honest (writes_front _ c.in_err-put_state.ensures))

pub returns : goal.returns
unfolding node_text
returns g c =
    let honest : is_in c.args.report.now.config.liars c.args.node ≡ false =
    ap (λ (set : List Bool). is_in set c.args.node) (sym c.liars.ensures.value) ∙ sym c.has.ensures ∙ c.if-has.false in
    rw honest (writes_then c.in_ok-put_state.ensures
    (writes_as (ap (λ (v : FinderView). ledger_text v.config v.posts c.args.node) (sym c.requires)) c.put_ledger.ensures))
