-- A part of a part of some bytes, and a part with the bytes before it.
use Rattle.std.proofs.Common.{◌≡◌, ℕ, ◌+◌, ◌-◌, ◌≤◌, List, ◌++◌, length, take, drop, sym, ◌∙◌, ap, ap₂, arith}
use Rattle.std.proofs.Math.Seq.{take-add}
use Rattle.std.proofs.lemmas.List.{take-take, drop-take}
use lib.Seq.{drop-drop}

pub part_of : (bytes : List ℕ) (at len from n : ℕ) → from + n ≤ len → take n (drop (at + from) bytes) ≡ take n (drop from (take len (drop at bytes)))
part_of bytes at len from n inside =
    let rest : from + (len - from) ≡ len = omega (arith, inside) in
    ap (take n) (sym (drop-drop from at bytes))
    ∙ sym (take-take n (len - from) (drop from (drop at bytes)) (omega (arith, inside)))
    ∙ ap (take n) (sym (drop-take from (len - from) (drop at bytes)))
    ∙ ap (λ k. take n (drop from (take k (drop at bytes)))) rest

-- where the bytes before a part are these, the longer part is these and the part
pub front_and_part : (bytes front : List ℕ) (at len from : ℕ) → from ≡ at + length front → take (from - at) (drop at bytes) ≡ front
    → take (length front + len) (drop at bytes) ≡ front ++ take len (drop from bytes)
front_and_part bytes front at len from place is =
    let long : from - at ≡ length front = omega (arith, place) in
    let first : take (length front) (drop at bytes) ≡ front = ap (λ n. take n (drop at bytes)) (sym long) ∙ is in
    take-add (length front) len (drop at bytes)
    ∙ ap₂ (λ xs ys. xs ++ take len ys) first (drop-drop (length front) at bytes)
    ∙ ap (λ n. front ++ take len (drop n bytes)) (sym place)
