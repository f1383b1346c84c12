-- Lists with the numbers of their places.
use Rattle.std.proofs.Common.{◌≡◌, ℕ, ◌+◌, ◌<◌, ◌≤◌, List, length, get_or, slice_get, Some, None, ap, ◌∙◌, arith}
use Rattle.std.specs.List.{enumerate_from}
use Rattle.std.proofs.lemmas.List.FromFn.{length-enumerate_from, get_or-enumerate_from}
use Rattle.std.proofs.lemmas.Option.{slice_get_past, slice_get_within, slice_get-get_or, get_or_from_slice_get}

pub numbered_at : {X : Type 0} (xs : List X) (k : ℕ) (x : X) → slice_get xs k ≡ Some x → slice_get (enumerate_from 0 xs) k ≡ Some (k, x)
numbered_at {X} xs k x there =
    let inside : k < length xs = slice_get_within xs k x there in
    let within : k < length (enumerate_from 0 xs) = omega (arith, inside, length-enumerate_from 0 xs) in
    let number : 0 + k ≡ k = omega arith in
    slice_get-get_or (enumerate_from 0 xs) k (k, x) within
    ∙ ap (λ (p : ℕ × X). Some p)
    (get_or-enumerate_from 0 xs k (k, x) inside ∙ ap (λ (m : ℕ). (m, get_or xs k x)) number ∙ ap (λ (y : X). (k, y)) (get_or_from_slice_get xs k x x there))

pub numbered_past : {X : Type 0} (xs : List X) (k : ℕ) → length xs ≤ k → slice_get (enumerate_from 0 xs) k ≡ None
numbered_past xs k past = slice_get_past (enumerate_from 0 xs) k (omega (arith, past, length-enumerate_from 0 xs))
