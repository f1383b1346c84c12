-- The one polynomial with given shares and a given secret.
use Rattle.std.proofs.Common.{◌≡◌, ◌≢◌, ℕ, zero, suc, ◌+◌, ◌-◌, ◌<◌, ◌≤◌, List, [], ◌∷◌, ◌++◌, length, map, get_or, replicate, sym, ap, ◌∙◌, subst, arith}
use Rattle.std.proofs.lemmas.List.{get_or-map, get_or_default, length-append, length-replicate, length-map, ext_get_or}
use Rattle.std.proofs.lemmas.List.Elements.{All-from_recursion, recursion_from_All, All-from_get_or}
use Rattle.std.specs.List.{All}
use Rattle.hb_base.specs.ByteLists.{AreBytes}
use Rattle.gf_field.specs.Polynomial.{polynomial_at, AreDistinct, Interpolates}
use Rattle.gf_field.specs.Interpolation.{interpolation_to}
use Rattle.gf_field.proofs.Interpolation.{interpolation-interpolates}
use Rattle.gf_field.proofs.Polynomials.{Bytes}
use Rattle.gf_field.proofs.Roots.{coefficients_agree}
use Rattle.coin_deal.specs.declared.others.NodeShare.{NodeShare}
use Rattle.coin_deal.specs.Sharing.{AreOfDistinctNodes, HasShares}
use Rattle.coin_deal.proofs.Peeling.{padded, append_zeros-at}

-- the points of the nodes, and their shares
abbrev pub points_of : List NodeShare → List ℕ
points_of shares = map (λ a. a.node + 1) shares

abbrev pub values_of : List NodeShare → List ℕ
values_of shares = map (λ a. a.share) shares

abbrev pub nobody : NodeShare
nobody = record { node = 0; share = 0 }

pub point_at : (shares : List NodeShare) (i : ℕ) (d : NodeShare) → i < length shares → get_or (points_of shares) i 0 ≡ (get_or shares i d).node + 1
point_at shares i d h = get_or-map (λ (a : NodeShare). a.node + 1) shares i d 0 h

pub value_at : (shares : List NodeShare) (i : ℕ) (d : NodeShare) → i < length shares → get_or (values_of shares) i 0 ≡ (get_or shares i d).share
value_at shares i d h = get_or-map (λ (a : NodeShare). a.share) shares i d 0 h

pub values_bytes : (shares : List NodeShare) → All (λ a. a.share < 256) shares → AreBytes (values_of shares)
values_bytes shares h =
    All-from_get_or (λ x. x < 256) (values_of shares) 0 (λ k l.
    let inside : k < length shares = omega (arith, length-map shares (λ (a : NodeShare). a.share)) in
    subst (λ x. x < 256) (sym (value_at shares k nobody inside)) (h k nobody inside))

-- no point is 0
pub some_point : (shares : List NodeShare) (ps : List ℕ) (i : ℕ) → ps ≡ points_of shares → i < length ps → 0 < get_or ps i 0
some_point shares ps i are h =
    let inside : i < length shares = omega (arith, ap length are, length-map shares (λ (a : NodeShare). a.node + 1)) in
    let is : get_or ps i 0 ≡ (get_or shares i nobody).node + 1 = ap (λ ps. get_or ps i 0) are ∙ point_at shares i nobody inside in
    omega arith

module _ (shares : List NodeShare) (apart : AreOfDistinctNodes shares) where
  pub small : (i : ℕ) → i < length (0 ∷ points_of shares) → get_or (0 ∷ points_of shares) i 0 < 256
  small zero h = omega arith
  small (suc i) h =
      let l : i < length shares = omega (arith, length-map shares (λ (a : NodeShare). a.node + 1)) in
      let node : (get_or shares i nobody).node < 16 = apart.nodes i nobody l in
      rw (point_at shares i nobody l) (omega arith)

  pub points-bytes : AreBytes (0 ∷ points_of shares)
  points-bytes = All-from_get_or (λ x. x < 256) (0 ∷ points_of shares) 0 small

  different : (i j : ℕ) → i < j → j < length (0 ∷ points_of shares) → get_or (0 ∷ points_of shares) i 0 ≢ get_or (0 ∷ points_of shares) j 0
  different i zero lt h = absurd (omega arith)
  different zero (suc j) lt h =
      let l : j < length shares = omega (arith, length-map shares (λ (a : NodeShare). a.node + 1)) in
      λ e. let no : 0 ≡ (get_or shares j nobody).node + 1 = e ∙ point_at shares j nobody l in omega arith
  different (suc i) (suc j) lt h =
      let lj : j < length shares = omega (arith, length-map shares (λ (a : NodeShare). a.node + 1)) in
      let li : i < length shares = omega arith in
      λ e.
      let same : (get_or shares i nobody).node + 1 ≡ (get_or shares j nobody).node + 1 = sym (point_at shares i nobody li) ∙ e ∙ point_at shares j nobody lj in
      apart.distinct i j nobody (omega arith) lj (omega arith)

  pub points-distinct : AreDistinct (0 ∷ points_of shares)
  points-distinct i j d lt h =
      let li : i < length (0 ∷ points_of shares) = omega arith in
      λ e. different i j lt h (get_or_default (0 ∷ points_of shares) i 0 d li ∙ e ∙ sym (get_or_default (0 ∷ points_of shares) j 0 d h))

  pub nodes-distinct : AreDistinct (points_of shares)
  nodes-distinct i j d lt h = points-distinct (suc i) (suc j) d (omega arith) (omega arith)

-- the polynomial through the points, and its secret
pub through : List NodeShare → ℕ → List ℕ
through shares secret = interpolation_to (0 ∷ points_of shares) (secret ∷ values_of shares) (length (0 ∷ points_of shares))

pub polynomial_of : List NodeShare → ℕ → List ℕ
polynomial_of shares secret = padded (length shares + 1) (through shares secret)

Bytes-padded : (cs : List ℕ) (n : ℕ) → Bytes cs → Bytes (cs ++ replicate n 0)
Bytes-padded [] zero h = tt
Bytes-padded [] (suc n) h = (omega arith, Bytes-padded [] n h)
Bytes-padded (c ∷ cs) n h = (h.0, Bytes-padded cs n h.1)

AreBytes-padded : (cs : List ℕ) (n : ℕ) → AreBytes cs → AreBytes (padded n cs)
AreBytes-padded cs n h = All-from_recursion (λ x. x < 256) (padded n cs) (Bytes-padded cs (n - length cs) (recursion_from_All (λ x. x < 256) cs h))

length-padded : (cs : List ℕ) (n : ℕ) → length cs ≤ n → length (padded n cs) ≡ n
length-padded cs n h = omega (arith, length-append cs (replicate (n - length cs) 0), length-replicate {A = ℕ} (n - length cs) 0)

padded-at : (cs : List ℕ) (n x : ℕ) → polynomial_at (padded n cs) x ≡ polynomial_at cs x
padded-at cs n x = append_zeros-at cs (n - length cs) x

module _ (shares : List NodeShare) (apart : AreOfDistinctNodes shares) (secret : ℕ) (hs : secret < 256) (hv : AreBytes (values_of shares)) where
  values-bytes : AreBytes (secret ∷ values_of shares)
  values-bytes = All-from_recursion (λ x. x < 256) (secret ∷ values_of shares) (hs, recursion_from_All (λ x. x < 256) (values_of shares) hv)

  passes : Interpolates (0 ∷ points_of shares) (secret ∷ values_of shares) (through shares secret)
  unfolding through
  passes = interpolation-interpolates (0 ∷ points_of shares) (points-bytes shares apart) (points-distinct shares apart) (secret ∷ values_of shares) values-bytes
      (ap suc (length-map shares (λ (a : NodeShare). a.node + 1) ∙ sym (length-map shares (λ (a : NodeShare). a.share))))

  -- it has the shares and the secret
  pub polynomial_of-has : HasShares (length shares) shares secret (polynomial_of shares secret)
  unfolding polynomial_of
  polynomial_of-has =
      let cs = through shares secret in
      let n = length shares + 1 in
      record {
        count = length-padded cs n (omega (arith, passes.degree.short, length-map shares (λ (a : NodeShare). a.node + 1)));
        bytes = AreBytes-padded cs n passes.degree.bytes;
        at_zero = padded-at cs n 0 ∙ passes.passes 0 (omega arith);
        at_nodes = λ k d h.
            padded-at cs n ((get_or shares k d).node + 1) ∙ ap (polynomial_at cs) (sym (point_at shares k d h))
            ∙ passes.passes (suc k) (omega (arith, length-map shares (λ (a : NodeShare). a.node + 1)))
            ∙ value_at shares k d h;
      }

-- and no other does
module _ (shares : List NodeShare) (apart : AreOfDistinctNodes shares) (secret : ℕ) (fs gs : List ℕ)
    (hf : HasShares (length shares) shares secret fs) (hg : HasShares (length shares) shares secret gs) where
  agree : (i : ℕ) → i < length (0 ∷ points_of shares) → polynomial_at fs (get_or (0 ∷ points_of shares) i 0) ≡ polynomial_at gs (get_or (0 ∷ points_of shares) i 0)
  agree zero h = hf.at_zero ∙ sym hg.at_zero
  agree (suc i) h =
      let l : i < length shares = omega (arith, length-map shares (λ (a : NodeShare). a.node + 1)) in
      rw (point_at shares i nobody l) (hf.at_nodes i nobody l ∙ sym (hg.at_nodes i nobody l))

  short : (cs : List ℕ) → HasShares (length shares) shares secret cs → length cs ≤ length (0 ∷ points_of shares)
  short cs h = omega (arith, h.count, length-map shares (λ (a : NodeShare). a.node + 1))

  pub only_one : fs ≡ gs
  only_one = ext_get_or 0 fs gs (hf.count ∙ sym hg.count) (λ k h.
      coefficients_agree (0 ∷ points_of shares) fs gs (short fs hf) (short gs hg)
      (recursion_from_All (λ x. x < 256) (0 ∷ points_of shares) (points-bytes shares apart))
      (recursion_from_All (λ x. x < 256) fs hf.bytes) (recursion_from_All (λ x. x < 256) gs hg.bytes) (points-distinct shares apart) agree k)
