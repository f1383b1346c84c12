use Rattle.std.proofs.Common.{◌≡◌, ℕ, Bool, ◌++◌, List, length, Some, None, if◌then◌else◌, sym, ap, ◌∙◌, arith}
use Rattle.std.specs.Option.{option_map, option_and_then}
use Rattle.hb_wire.specs.declared.items.Item.{Item}
use Rattle.hb_rules.specs.DeskRows.{items_of}
use Rattle.acs_core.specs.declared.shown.Shown.{Shown}
use Rattle.acs_core.specs.Shown.{shown_at, nothing}
use Rattle.acs_core.proofs.Accepting.{accepted_stops, get_or_any}
use Rattle.acs_core.proofs.shown.accepted.Goals as goal

pub returns-then-not-branch : goal.returns-then-not-branch
returns-then-not-branch c =
    let lanes : List Shown = c.args.lanes.now in
    let node : ℕ = c.loop-shown.node in
    let items : List Item = c.loop-shown.items in
    let at : shown_at lanes node ≡ c.shown-item.result =
    ap (λ (k : ℕ). shown_at lanes k) c.loop-shown.invariant.node
    ∙ get_or_any lanes c.loop-shown.shown-index nothing c.shown-item.result c.loop-shown-test.true ∙ sym c.shown-item.is in
    let none : option_map (λ (more : List Item). items ++ more) (option_and_then (items_of node (shown_at lanes node).value) (shown_at lanes node).decision) ≡ None =
    ap (λ (s : Shown). option_map (λ (more : List Item). items ++ more) (option_and_then (items_of node s.value) s.decision)) at
    ∙ c.in_ok-add_item.ensures
    ∙ ap (λ (b : Bool). if b then Some c.add_item.new.items else None) c.if-not-branch.true in
    sym (accepted_stops lanes node (length lanes) items c.loop-shown.invariant.items none (omega (arith, c.loop-shown.invariant.node, c.loop-shown-test.true)))
