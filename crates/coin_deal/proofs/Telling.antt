-- What `==` of shares, salts and branches tells: true exactly where all three are the same.
use Rattle.std.proofs.Common.{◌≡◌, ℕ, Bool, true, ◌&&◌, List, refl, sym, subst}
use Rattle.std.specs.Prelude.{nat_eq}
use Rattle.std.specs.Bool.{Decides}
use Rattle.std.specs.Cmp.Lexicographic.{pointwise, bytes_decides}
use Rattle.std.proofs.lemmas.Bool.{and_parts, eqb-true}
use Rattle.std.proofs.lemmas.Bool.Decides.{Decides-and, Decides-eqb}
use Rattle.std.proofs.lemmas.Slice.Eq.{slice_eq-Decides}
use Rattle.merkle_branch.specs.declared.Branch.{Branch}
use Rattle.merkle_branch.specs.contracts.BranchPartialEq.TheImpl.{ghosts as branches}
use Rattle.merkle_branch.specs.contracts.BranchEq.TheImpl.Laws.{laws-law}

branch_tells : (a b : Branch) → branches.eq a b ≡ true → a ≡ b
branch_tells a b e =
    let parts = and_parts (nat_eq a.len b.len) (pointwise (pointwise nat_eq) a.digests b.digests) e in
    let digests = (slice_eq-Decides bytes_decides a.digests b.digests _ refl).0 parts.1 in
    λ i. record { len = eqb-true a.len b.len parts.0 i; digests = digests i }

one_branch : (a b : Branch) → Decides (branches.eq a b) (a ≡ b)
one_branch a b = (branch_tells a b, λ is. subst (λ (x : Branch). branches.eq a x ≡ true) is (laws-law.refl a))

pub all_same : (x y : ℕ) (salt salt' : List ℕ) (a b : Branch) (same_salt same_branch : Bool)
    → same_salt ≡ pointwise nat_eq salt salt' → same_branch ≡ branches.eq a b
    → Decides ((nat_eq x y && same_salt) && same_branch) (((x ≡ y) × (salt ≡ salt')) × (a ≡ b))
all_same x y salt salt' a b same_salt same_branch salts_told branches_told =
    let salts : Decides same_salt (salt ≡ salt') = subst (λ t. Decides t (salt ≡ salt')) (sym salts_told) (bytes_decides salt salt') in
    let branches : Decides same_branch (a ≡ b) = subst (λ t. Decides t (a ≡ b)) (sym branches_told) (one_branch a b) in
    Decides-and (nat_eq x y && same_salt) same_branch (Decides-and (nat_eq x y) same_salt (Decides-eqb x y) salts) branches
