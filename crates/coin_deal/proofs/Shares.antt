-- Good shares of different nodes: their points, their values, and one more of them.
use Rattle.std.proofs.Common.{◌≡◌, ◌≢◌, ℕ, ◌+◌, ◌<◌, ◌≤◌, true, false, eqb, List, [], ◌∷◌, ◌++◌, length, get_or, map, take, sym, ap, ◌∙◌, subst, arith, nat_lt, ◌&&◌}
use Rattle.std.specs.List.{AllPairs}
use Rattle.std.specs.Bool.{Decides}
use Rattle.std.proofs.lemmas.Bool.{eq-eqb}
use Rattle.std.proofs.lemmas.Bool.Decides.{Decides-ltb, Decides-and, Decides-like}
use Rattle.std.proofs.lemmas.List.{get_or-map, get_or-take, get_or_default, length-map, length-take}
use Rattle.std.proofs.lemmas.List.Elements.{All-push, All-take, recursion_from_All}
use Rattle.std.proofs.lemmas.List.Folds.{list_any-from_Any}
use Rattle.std.proofs.lemmas.List.Quantifiers.{all_pairs_push}
use Rattle.hb_base.specs.ByteLists.{AreBytes}
use Rattle.gf_field.specs.Polynomial.{polynomial_at, AreDistinct, Interpolates}
use Rattle.gf_field.proofs.Polynomials.{polynomial_at-bound}
use Rattle.merkle_branch.specs.Branches.{is_branch}
use Rattle.merkle_branch.proofs.Tested.{is_branch-Decides}
use Rattle.coin_deal.specs.Heard.{HeardShare, heard_share, IsGood, is_good, AreGood, has_share_of, points, values}

-- the test of a share says what it is to say
pub is_good-Decides : (root : List ℕ) (n : ℕ) (a : HeardShare) → Decides (is_good root n a) (IsGood root n a)
is_good-Decides root n a =
    let leads = is_branch root n a.node (a.share ∷ a.salt) a.branch in
    Decides-like (nat_lt a.node n && leads) (λ h. record { node = h.0; branch = h.1 }) (λ h. (h.node, h.branch))
    (Decides-and (nat_lt a.node n) leads (Decides-ltb a.node n) (is_branch-Decides root n a.node (a.share ∷ a.salt) a.branch))

pub is_good-is : (root : List ℕ) (n : ℕ) (a : HeardShare) → is_good root n a ≡ true → IsGood root n a
is_good-is root n a = (is_good-Decides root n a).0

pub is_good-from : (root : List ℕ) (n : ℕ) (a : HeardShare) → IsGood root n a → is_good root n a ≡ true
is_good-from root n a = (is_good-Decides root n a).1

-- stands where a list has no share
abbrev pub no_share : HeardShare
no_share = heard_share 0 0 [] (record { len = 0; digests = [] })

-- numbers that tell the nodes of shares apart are distinct, for one share a node
pub apart-from_nodes : (number : HeardShare → ℕ) → ((a b : HeardShare) → number a ≡ number b → a.node ≡ b.node)
    → (shares : List HeardShare) → AllPairs (λ a b. a.node ≢ b.node) shares → AllPairs (λ x y. x ≢ y) (map number shares)
apart-from_nodes number tells shares apart i j d l lj =
    let size = length-map shares number in
    let lj' : j < length shares = omega (arith, size) in
    let li : i < length shares = omega arith in
    λ e. apart i j no_share l lj' (tells (get_or shares i no_share) (get_or shares j no_share)
    (sym (get_or-map number shares i no_share d li) ∙ e ∙ get_or-map number shares j no_share d lj'))

-- the first shares are good, one a node
pub AreGood-take : (root : List ℕ) (n k : ℕ) (shares : List HeardShare) → AreGood root n shares → AreGood root n (take k shares)
AreGood-take root n k shares are = record {
  good = All-take (IsGood root n) k shares are.good;
  one_a_node = λ i j d l lj e.
      let size = length-take k shares in
      are.one_a_node i j d l (omega arith)
      (ap (λ (a : HeardShare). a.node) (sym (get_or-take k shares i d (omega arith))) ∙ e ∙ ap (λ (a : HeardShare). a.node) (get_or-take k shares j d (omega arith)));
}

-- a node that has no share there
other_node : (shares : List HeardShare) (m : ℕ) → has_share_of shares m ≡ false → (k : ℕ) (d : HeardShare) → k < length shares → (get_or shares k d).node ≢ m
other_node shares m none k d l e =
    let found : has_share_of shares m ≡ true =
    list_any-from_Any (λ a. eqb a.node m) shares (k, get_or shares k d, l, sym (get_or_default shares k d (get_or shares k d) l), eq-eqb _ _ e) in
    cc

-- one good share more
pub good_more : (root : List ℕ) (n : ℕ) (shares : List HeardShare) (a : HeardShare) → AreGood root n shares → has_share_of shares a.node ≡ false
    → IsGood root n a → AreGood root n (shares ++ a ∷ [])
good_more root n shares a are none one = record {
  good = All-push (IsGood root n) shares a are.good one;
  one_a_node = all_pairs_push (λ x y. x.node ≢ y.node) shares a are.one_a_node (other_node shares a.node none);
}

module _ (root : List ℕ) (n : ℕ) (shares : List HeardShare) (are : AreGood root n shares) where
  -- the points are distinct
  pub distinct_points : AreDistinct (points shares)
  distinct_points = apart-from_nodes (λ a. a.node + 1) (λ a b e. omega (arith, e)) shares are.one_a_node

  -- and elements of the field
  pub points_bytes : n ≤ 16 → AreBytes (points shares)
  points_bytes few i d l =
      let point : HeardShare → ℕ = λ a. a.node + 1 in
      let size = length-map shares point in
      let inside : i < length shares = omega arith in
      let below : (get_or shares i no_share).node < n = (are.good i no_share inside).node in
      let is : get_or (points shares) i d ≡ (get_or shares i no_share).node + 1 = get_or-map point shares i no_share d inside in
      omega arith

-- as many points as values
pub points_values : (shares : List HeardShare) → length (points shares) ≡ length (values shares)
points_values shares = length-map shares (λ (a : HeardShare). a.node + 1) ∙ sym (length-map shares (λ (a : HeardShare). a.share))

-- the values that a polynomial has at elements of the field are elements
pub values_bytes : (ps vs cs : List ℕ) → AreBytes ps → length ps ≡ length vs → Interpolates ps vs cs → AreBytes vs
values_bytes ps vs cs bytes same h i d l =
    let inside : i < length ps = omega arith in
    let bound : polynomial_at cs (get_or ps i 0) < 256 = polynomial_at-bound cs (get_or ps i 0) (recursion_from_All (λ x. x < 256) cs h.degree.bytes) (bytes i 0 inside) in
    subst (λ x. x < 256) (h.passes i inside ∙ get_or_default vs i 0 d l) bound
