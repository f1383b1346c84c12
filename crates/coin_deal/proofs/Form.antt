-- A dealt share has the form that a vote asks for.
use Rattle.std.proofs.Common.{◌≡◌, ℕ, zero, suc, ◌+◌, ◌*◌, ◌<◌, ◌≤◌, List, ◌++◌, refl, ap, ◌∙◌, subst, arith}
use Rattle.std.specs.List.{All}
use Rattle.std.specs.Int.{w32, to_le_bytes, bytes_low_first, byte_at}
use Rattle.std.proofs.lemmas.List.Elements.{All-nil, All-cons, All-append, recursion_from_All}
use Rattle.gf_field.proofs.Polynomials.{polynomial_at-bound}
use Rattle.merkle_branch.specs.declared.Branch.{Branch}
use Rattle.merkle_branch.specs.Digests.{leaf_digests}
use Rattle.merkle_branch.specs.Branches.{IsPath, branch_of}
use Rattle.merkle_branch.proofs.Paths.{byte_at-small, branch_path}
use Rattle.hb_base.specs.Numbers.{Numbers}
use Rattle.coin_deal.specs.Deal.{dealt_word, coin_place, coefficients, coin_leaves, salt, share}
use Rattle.coin_deal.specs.Heard.{HasForm, heard_share, IsGoodShare}
use Rattle.coin_deal.proofs.Coins.{length-coin_leaves}
use Rattle.coin_deal.proofs.OneCoin.{coefficients_bytes, leaf_proved}

low_bytes : (i k n : ℕ) → All (λ b. b < 256) (bytes_low_first i k n)
low_bytes i zero n = All-nil (λ b. b < 256)
low_bytes i (suc k) n = All-cons (λ b. b < 256) (byte_at i n) (bytes_low_first (suc i) k n) (byte_at-small i n) (low_bytes (suc i) k n)

salt_bytes : (c : Numbers) (e j r m : ℕ) → All (λ b. b < 256) (salt c e j r m)
salt_bytes c e j r m =
    let place = coin_place c e j r + (c.f + 1) + 4 * m in
    let word : ℕ → List ℕ = λ i. to_le_bytes w32 (dealt_word c.seed i) in
    let each : (i : ℕ) → All (λ b. b < 256) (word i) = λ i. low_bytes 0 4 (dealt_word c.seed i) in
    All-append (λ b. b < 256) (word place ++ word (place + 1) ++ word (place + 2)) (word (place + 3))
    (All-append (λ b. b < 256) (word place ++ word (place + 1)) (word (place + 2))
    (All-append (λ b. b < 256) (word place) (word (place + 1)) (each place) (each (place + 1))) (each (place + 2))) (each (place + 3))

pub share_byte : (c : Numbers) (e j r m : ℕ) → m < 255 → share c e j r m < 256
share_byte c e j r m inside =
    polynomial_at-bound (coefficients c e j r) (m + 1) (recursion_from_All (λ x. x < 256) (coefficients c e j r) (coefficients_bytes c e j r)) (omega arith)

pub share_form : (c : Numbers) (e j r m : ℕ) → c.n ≤ 16 → m < c.n
    → HasForm c.n (heard_share m (share c e j r m) (salt c e j r m) (branch_of (leaf_digests (coin_leaves c e j r)) m))
share_form c e j r m few inside = record {
  byte = share_byte c e j r m (omega arith);
  salt = refl;
  salt_bytes = salt_bytes c e j r m;
  path = subst (λ n. IsPath n (branch_of (leaf_digests (coin_leaves c e j r)) m)) (length-coin_leaves c e j r) (branch_path (coin_leaves c e j r) m);
}

pub share_good : (c : Numbers) (e j r m : ℕ) → c.n ≤ 16 → m < c.n
    → IsGoodShare c e j r m (share c e j r m) (salt c e j r m) (branch_of (leaf_digests (coin_leaves c e j r)) m)
share_good c e j r m few inside = record { node = inside; branch = leaf_proved c e j r m few inside }

-- shares of equal parts
pub same_heard : (m share share' : ℕ) (salt salt' : List ℕ) (branch branch' : Branch) → share ≡ share' → salt ≡ salt' → branch ≡ branch'
    → heard_share m share salt branch ≡ heard_share m share' salt' branch'
same_heard m share share' salt salt' branch branch' a b c =
    ap (λ x. heard_share m x salt branch) a ∙ ap (λ s. heard_share m share' s branch) b ∙ ap (heard_share m share' salt') c
