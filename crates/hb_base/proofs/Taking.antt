-- What a source in memory gives in one call, and what it has left.
use Rattle.std.proofs.Common.{◌≡◌, ℕ, ◌+◌, ◌≤◌, List, [], ◌++◌, length, take, drop, sym, ◌∙◌, ap, take-append-drop, arith, length-take-le}
use Rattle.std.proofs.lemmas.List.{take_at, drop_all}
use lib.Seq.{drop-drop}

-- the bytes that were copied to the front of a buffer, and then the rest, are what was left before
pub left-taken : (bytes copied rest : List ℕ) (at n : ℕ) → copied ≡ take n (drop at bytes) → n ≤ length (drop at bytes)
    → drop at bytes ≡ take n (copied ++ rest) ++ drop (at + n) bytes
left-taken bytes copied rest at n copied_is fits =
    let size : length copied ≡ n = ap length copied_is ∙ length-take-le n (drop at bytes) fits in
    sym (take-append-drop n (drop at bytes))
    ∙ ap (λ front. front ++ drop n (drop at bytes)) (sym copied_is ∙ sym (take_at copied rest n size))
    ∙ ap (λ back. take n (copied ++ rest) ++ back) (drop-drop n at bytes)

-- nothing taken from nothing leaves nothing
pub nothing-left : (bytes : List ℕ) (at n : ℕ) → length (drop at bytes) ≤ 0 → n ≡ 0 → drop (at + n) bytes ≡ []
nothing-left bytes at n none zero_taken =
    sym (drop-drop n at bytes) ∙ drop_all n (drop at bytes) (omega arith)
