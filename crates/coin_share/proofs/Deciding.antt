-- The shares that make the coin.
use Rattle.std.proofs.Common.{◌≡◌, ℕ, ◌+◌, ◌<◌, ◌≤◌, List, length, get_or, take, refl, sym, ap, ◌∙◌, subst, arith}
use Rattle.std.specs.List.{All}
use Rattle.std.proofs.lemmas.List.{get_or-map, get_or-take, length-map, length-take-le, take-map, take-take}
use Rattle.hb_base.specs.ByteLists.{AreBytes}
use Rattle.gf_field.specs.Polynomial.{polynomial_at, AreDistinct, Interpolates, AreWeightsAt, sum_of_products}
use Rattle.gf_field.proofs.Interpolation.{weighted}
use Rattle.hb_base.specs.Numbers.{Numbers}
use Rattle.coin_deal.specs.Heard.{HeardShare, heard_share, AreGood, IsChoice, points, values}
use Rattle.coin_deal.proofs.Shares.{no_share, distinct_points, points_bytes, points_values, values_bytes, AreGood-take}
use Rattle.coin_share.specs.Shares.{SharesView, added_of, view_of, deciding, AreKept, IsOfCoin}
use Rattle.coin_share.specs.declared.KeptShare.{KeptShare}
use Rattle.coin_share.proofs.Adding.{length-added_of}

abbrev given : KeptShare → HeardShare
given k = heard_share k.node k.share k.salt.value k.branch.value

-- the nodes of the entries in front
nodes_below : (s : SharesView) (kept : List KeptShare) (count k : ℕ) → s.added ≡ added_of (take count kept) → AreKept s count (length kept) → k ≤ count
    → All (λ (x : KeptShare). x.node < 16) (take k kept)
nodes_below s kept count k is held l i d li =
    let whole : count ≤ length kept = omega (arith, held.few, held.front, held.whole) in
    let first : length (take k kept) ≡ k = length-take-le k kept (omega arith) in
    let size : length (take count kept) ≡ count = length-take-le count kept whole in
    let long : length s.added ≡ count = ap length is ∙ length-map (take count kept) given ∙ size in
    let at : get_or s.added i no_share ≡ given (get_or (take k kept) i d) =
    ap (λ added. get_or added i no_share) is
    ∙ get_or-map given (take count kept) i d no_share (omega arith)
    ∙ ap given (get_or-take count kept i d (omega arith) ∙ sym (get_or-take k kept i d (omega arith)))
    in
    let below : (get_or s.added i no_share).node < s.n = (held.good.good i no_share (omega arith)).node in
    let small : (get_or s.added i no_share).node < 16 = omega (arith, held.few) in
    subst (λ (a : HeardShare). a.node < 16) at small

-- the first f + 1 entries, where there are so many, are the deciding shares
pub record HasEnough (now : SharesView) (first : List KeptShare) : Type 0 where
  pub few : now.n ≤ 16
  pub good : AreGood now.root now.n (deciding now)
  pub count : length (deciding now) ≡ now.f + 1
  pub deciding_are : added_of first ≡ deciding now
  pub nodes : All (λ (x : KeptShare). x.node < 16) first
  pub distinct : AreDistinct (points (added_of first))

pub has_enough : (n f count : ℕ) (root : List ℕ) (kept : List KeptShare) (now : SharesView) → AreKept (view_of n f root count kept) count (length kept)
    → view_of n f root count kept ≡ now → f < count → HasEnough now (take (f + 1) kept)
has_enough n f count root kept now held same more =
    let s = view_of n f root count kept in
    let size : length s.added ≡ count = length-added_of kept count (omega (arith, held.few, held.front, held.whole)) in
    let first : added_of (take (f + 1) kept) ≡ deciding s =
    ap added_of (sym (take-take (f + 1) count kept (omega arith))) ∙ sym (take-map given (f + 1) (take count kept))
    in
    let good : AreGood root n (deciding s) = AreGood-take root n (f + 1) s.added held.good in
    record {
      few = subst (λ (x : SharesView). x.n ≤ 16) same held.few;
      good = subst (λ (x : SharesView). AreGood x.root x.n (deciding x)) same good;
      count = subst (λ (x : SharesView). length (deciding x) ≡ x.f + 1) same (length-take-le (f + 1) s.added (omega arith));
      deciding_are = first ∙ ap deciding same;
      nodes = nodes_below s kept count (f + 1) refl held (omega arith);
      distinct = subst (λ shares. AreDistinct (points shares)) (sym first) (distinct_points root n (deciding s) good);
    }

-- of a dealt coin they are a choice of f + 1 good shares
pub choice_of : (s : SharesView) (c : Numbers) (e j r : ℕ) → IsOfCoin s c e j r → length (deciding s) ≡ s.f + 1 → AreGood s.root s.n (deciding s)
    → IsChoice c e j r (deciding s)
choice_of s c e j r of count good = record {
  count = omega (arith, count, of.f);
  good = subst (λ root. AreGood root c.n (deciding s)) of.root (subst (λ n. AreGood s.root n (deciding s)) of.n good);
}

-- the secret of good shares is the sum of their values, each times a weight
pub secret_weighted : (root : List ℕ) (n : ℕ) (shares : List HeardShare) (cs weights : List ℕ) → n ≤ 16 → AreGood root n shares
    → Interpolates (points shares) (values shares) cs → length weights ≡ length shares → AreWeightsAt 0 (points shares) weights
    → polynomial_at cs 0 ≡ sum_of_products weights (values shares)
secret_weighted root n shares cs weights few good h long are =
    let ps = points shares in
    let vs = values shares in
    let bytes : AreBytes ps = points_bytes root n shares good few in
    let points_long : length ps ≡ length shares = length-map shares (λ (a : HeardShare). a.node + 1) in
    let same : length ps ≡ length vs = points_values shares in
    weighted ps bytes (distinct_points root n shares good) vs (values_bytes ps vs cs bytes same h) same weights 0 (omega arith) are (long ∙ sym points_long) cs h
