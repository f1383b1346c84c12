-- Shares of a secret (Shamir, How to Share a Secret, CACM 1979): the values of a polynomial, of which the secret is that at 0.
use Rattle.std.specs.Prelude.{◌≡◌, ◌≢◌, ℕ, ◌+◌, ◌<◌, List, length, All, AllPairs}
use Rattle.hb_base.specs.Limits.{most_nodes}
use Rattle.hb_base.specs.ByteLists.{AreBytes}
use Rattle.gf_field.specs.Polynomial.{polynomial_at}
use Rattle.coin_deal.specs.declared.others.NodeShare.{NodeShare}

-- they are of different nodes of a run
pub record AreOfDistinctNodes (shares : List NodeShare) : Type 0 where
  pub distinct : AllPairs (λ a b. a.node ≢ b.node) shares
  pub nodes : All (λ a. a.node < most_nodes) shares

-- f + 1 coefficients of a polynomial that has these shares and this secret: node m stands at the point m + 1, the secret at 0
pub record HasShares (f : ℕ) (shares : List NodeShare) (secret : ℕ) (cs : List ℕ) : Type 0 where
  pub count : length cs ≡ f + 1
  pub bytes : AreBytes cs
  pub at_zero : polynomial_at cs 0 ≡ secret
  pub at_nodes : All (λ a. polynomial_at cs (a.node + 1) ≡ a.share) shares
