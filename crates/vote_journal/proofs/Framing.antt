use Rattle.std.proofs.Common.{◌≡◌, ℕ, ◌-◌, List, [], ◌∷◌, ◌++◌, length, take, drop, ap, ◌∙◌, arith, length-append}
use Rattle.std.proofs.Math.Seq.{take-append_seam}
use Rattle.vote_journal.specs.Text.{size_bytes}

-- what stands between a length and a closed gate
pub payload_is : (framed payload : List ℕ) → framed ≡ size_bytes (length payload) ++ (payload ++ 0 ∷ []) → take (length framed - 5) (drop 4 framed) ≡ payload
payload_is framed payload is =
    let whole : List ℕ = size_bytes (length payload) ++ (payload ++ 0 ∷ []) in
    let count : length whole - 5 ≡ length payload = omega (arith, length-append payload (0 ∷ [])) in
    ap (λ (xs : List ℕ). take (length xs - 5) (drop 4 xs)) is ∙ ap (λ (n : ℕ). take n (payload ++ 0 ∷ [])) count
    ∙ take-append_seam payload (0 ∷ [])
