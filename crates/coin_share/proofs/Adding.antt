-- Shares that are added one by one.
use Rattle.std.proofs.Common.{◌≡◌, ◌≢◌, ℕ, ◌+◌, ◌<◌, ◌≤◌, Bool, false, ◌||◌, eqb, List, [], ◌∷◌, ◌++◌, length, get_or, map, take, set, refl, sym, ap, ◌∙◌, subst, arith}
use Rattle.std.specs.List.{All, AllPairs, Contains, list_any}
use Rattle.std.proofs.lemmas.Bool.{eqb-true}
use Rattle.std.proofs.lemmas.Bool.Decides.{Decides-eqb}
use Rattle.std.proofs.lemmas.List.{get_or-map, length-map, length-take-le, length-append, map-append, take_more_set}
use Rattle.std.proofs.lemmas.Map.Made.{IsDistinct-from_AllPairs}
use Rattle.std.proofs.lemmas.Map.Steps.{length-le_from_distinct_below}
use Rattle.std.proofs.lemmas.Map.Views.{Contains-from_any}
use Rattle.coin_deal.specs.Heard.{HeardShare, heard_share, has_share_of, IsGood, AreGood}
use Rattle.coin_deal.proofs.Shares.{no_share, apart-from_nodes, good_more}
use Rattle.coin_share.specs.Shares.{SharesView, added_of, with_share, AreKept}
use Rattle.coin_share.specs.declared.KeptShare.{KeptShare}

-- a test of the images
pub list_any-map : {X Y : Type 0} (p : Y → Bool) (f : X → Y) (xs : List X) → list_any p (map f xs) ≡ list_any (λ x. p (f x)) xs
list_any-map p f [] = refl
list_any-map p f (x ∷ xs) = ap (λ b. p (f x) || b) (list_any-map p f xs)

-- distinct numbers below n are at most n
few_below : (xs : List ℕ) (n : ℕ) → AllPairs (λ x y. x ≢ y) xs → All (λ x. x < n) xs → length xs ≤ n
few_below xs n apart below =
    length-le_from_distinct_below xs n (IsDistinct-from_AllPairs Decides-eqb xs apart) (λ q found.
    let place : Contains xs q = Contains-from_any {eq = eqb} eqb-true q xs found in
    subst (λ x. x < n) place.2 (below place.0 q place.1))

-- so good shares are at most n
pub few_good : (root : List ℕ) (n : ℕ) (shares : List HeardShare) → AreGood root n shares → length shares ≤ n
few_good root n shares good =
    let node : HeardShare → ℕ = λ a. a.node in
    let size : length (map node shares) ≡ length shares = length-map shares node in
    let few : length (map node shares) ≤ n =
    few_below (map node shares) n (apart-from_nodes node (λ a b e. e) shares good.one_a_node) (λ k d l.
    let lk : k < length shares = omega arith in
    let is : get_or (map node shares) k d ≡ node (get_or shares k no_share) = get_or-map node shares k no_share d lk in
    let below : node (get_or shares k no_share) < n = (good.good k no_share lk).node in
    omega arith) in
    omega arith

-- there is room for one more
room : (root : List ℕ) (n : ℕ) (shares : List HeardShare) (a : HeardShare) → AreGood root n (shares ++ a ∷ []) → length shares < n
room root n shares a good = let few : length (shares ++ a ∷ []) ≤ n = few_good root n (shares ++ a ∷ []) good in omega (arith, length-append shares (a ∷ []))

pub length-added_of : (kept : List KeptShare) (count : ℕ) → count ≤ length kept → length (added_of (take count kept)) ≡ count
length-added_of kept count l = length-map (take count kept) _ ∙ length-take-le count kept l

pub added_of-more : (kept : List KeptShare) (count : ℕ) (k : KeptShare) → count < length kept
    → added_of (take (count + 1) (set kept count k)) ≡ added_of (take count kept) ++ heard_share k.node k.share k.salt.value k.branch.value ∷ []
added_of-more kept count k l = ap added_of (take_more_set kept count k l) ∙ map-append _ (take count kept) (k ∷ [])

-- one share more is kept
pub kept_more : (s t : SharesView) (a b : HeardShare) (count entries : ℕ) → AreKept s count entries → length s.added ≡ count → s ≡ t → a ≡ b
    → has_share_of t.added b.node ≡ false → IsGood t.root t.n b → AreKept (with_share s a) (count + 1) entries
kept_more s t a b count entries kept size same_shares same_share none one =
    let first : has_share_of s.added a.node ≡ false = ap (λ x. has_share_of x.added a.node) same_shares ∙ ap (λ x. has_share_of t.added x.node) same_share ∙ none in
    let is : IsGood s.root s.n a = subst (λ x. IsGood x.root x.n a) (sym same_shares) (subst (IsGood t.root t.n) (sym same_share) one) in
    let good : AreGood s.root s.n (s.added ++ a ∷ []) = good_more s.root s.n s.added a kept.good first is in
    let free : length s.added < s.n = room s.root s.n s.added a good in
    record { few = kept.few; enough = kept.enough; good = good; front = omega arith; whole = kept.whole }
