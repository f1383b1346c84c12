use Rattle.std.proofs.Common.{◌≡◌, ℕ, ◌+◌, ◌≤◌, List, length, take, drop, sym, ◌∙◌, ap, arith, length-take-le, length-drop}
use Rattle.std.specs.Arc.{arc_slice_items}
use Rattle.hb_base.proofs.Parts.{part_of}
use Rattle.hb_base.proofs.bytes.Bytes.part.Goals as goal

pub returns : goal.returns
returns c =
    let b = c.self.inside in
    let whole : List ℕ = arc_slice_items b.whole in
    let same : arc_slice_items c.in_ok-whole.whole ≡ whole = c.in_ok-whole.ensures.cases in
    let held : c.args.self.now ≡ take b.len (drop b.from whole) = sym c.self.view_is in
    let size : length (take b.len (drop b.from whole)) ≡ b.len = length-take-le b.len (drop b.from whole) (omega (arith, c.self.invariant, length-drop b.from whole)) in
    let inside : c.args.from + c.args.len ≤ b.len = omega (arith, c.requires, ap length held, size) in
    ap (λ items. take c.args.len (drop (b.from + c.args.from) items)) same
    ∙ part_of whole b.from b.len c.args.from c.args.len inside
    ∙ ap (λ bytes. take c.args.len (drop c.args.from bytes)) (sym held)
