use Rattle.std.proofs.Common.{◌≡◌, ℕ, ◌+◌, ◌-◌, ◌++◌, List, length, take, drop, sym, ◌∙◌, ap, arith}
use Rattle.std.proofs.lemmas.Slice.Eq.{bytes_eq-Decides}
use Rattle.std.specs.Arc.{arc_slice_items}
use Rattle.hb_base.proofs.Parts.{front_and_part}
use Rattle.hb_base.proofs.bytes.Bytes.with_front.Goals as goal

pub returns : goal.returns
returns c =
    let b = c.self.inside in
    let front = c.args.front.now in
    let whole : List ℕ = arc_slice_items b.whole in
    let at : ℕ = b.from - length front in
    let same : arc_slice_items c.in_ok-whole.whole ≡ whole = c.in_ok-whole.ensures.cases in
    let stands : take (b.from - at) (drop at whole) ≡ front =
    ap (λ items. take (b.from - at) (drop at items)) (sym c.as_slice.ensures.value)
    ∙ (bytes_eq-Decides (take (b.from - at) (drop at c.as_slice.result.now)) front).0 (sym c.if-not-stands.ensures) in
    ap (λ items. take (length front + b.len) (drop at items)) same
    ∙ front_and_part whole front at b.len b.from (omega (arith, c.if-self-len.false)) stands
    ∙ ap (λ bytes. front ++ bytes) c.self.view_is
