-- What comes to a node of a history, post by post.
use Rattle.std.proofs.Common.{◌≡◌, ℕ, ◌+◌, ◌<◌, Bool, true, false, List, [], ◌∷◌, ◌++◌, length, get_or, take, Contains, if◌then◌else◌, refl, sym, ap, ◌∙◌, subst, arith, append-nil}
use Rattle.std.proofs.Math.Seq.{take-length}
use Rattle.std.proofs.lemmas.List.{take_more, length-take-le}
use Rattle.net_script.specs.declared.script.Link.{Link}
use Rattle.net_script.specs.Delivery.{shape_of}
use Rattle.hb_wire.specs.declared.post.Post.{Post}
use Rattle.hb_rules.specs.Report.{is_drop}
use Rattle.hb_rules.proofs.Lists.{Contains-first, Contains-later, Contains-cases}
use Rattle.observer.specs.Agreeing.{AreOf}
use Rattle.observer.specs.Beside.{arriving}

pub arriving_append : (links : List Link) (i k : ℕ) (xs ys : List Post)
    → arriving links i k (xs ++ ys) ≡ arriving links i k xs ++ arriving links i (k + length xs) ys
arriving_append links i k [] ys =
    let same : k ≡ k + 0 = omega arith in
    ap (λ (m : ℕ). arriving links i m ys) same
arriving_append links i k (x ∷ xs) ys =
    let same : k + 1 + length xs ≡ k + length (x ∷ xs) = omega arith in
    by (is_drop (shape_of links x.from i k))
    (arriving_append links i (k + 1) xs ys ∙ ap (λ (m : ℕ). arriving links i (k + 1) xs ++ arriving links i m ys) same)
  where
    by : (b : Bool)
        → arriving links i (k + 1) (xs ++ ys) ≡ arriving links i (k + 1) xs ++ arriving links i (k + length (x ∷ xs)) ys
        → (if b then arriving links i (k + 1) (xs ++ ys) else x ∷ arriving links i (k + 1) (xs ++ ys))
        ≡ (if b then arriving links i (k + 1) xs else x ∷ arriving links i (k + 1) xs) ++ arriving links i (k + length (x ∷ xs)) ys
    by true later = later
    by false later = ap (λ (posts : List Post). x ∷ posts) later

-- what comes of one post more
pub arriving_front : (links : List Link) (i : ℕ) (posts : List Post) (k : ℕ) (x d : Post) → k < length posts → x ≡ get_or posts k d
    → arriving links i 0 (take (k + 1) posts) ≡ arriving links i 0 (take k posts) ++ arriving links i k (x ∷ [])
arriving_front links i posts k x d below is =
    let count : length (take k posts) ≡ k = length-take-le k posts (omega (arith, below)) in
    let same : 0 + length (take k posts) ≡ k = omega (arith, count) in
    ap (arriving links i 0) (take_more posts k d below ∙ ap (λ (y : Post). take k posts ++ y ∷ []) (sym is))
    ∙ arriving_append links i 0 (take k posts) (x ∷ [])
    ∙ ap (λ (m : ℕ). arriving links i 0 (take k posts) ++ arriving links i m (x ∷ [])) same

-- what comes stands in the history
pub arriving_of : (links : List Link) (i k : ℕ) (posts : List Post) → AreOf posts (arriving links i k posts)
arriving_of links i k [] post stands = stands
arriving_of links i k (x ∷ posts) post stands =
    by (is_drop (shape_of links x.from i k)) stands (arriving_of links i (k + 1) posts post)
  where
    by : (b : Bool) → Contains (if b then arriving links i (k + 1) posts else x ∷ arriving links i (k + 1) posts) post
        → (Contains (arriving links i (k + 1) posts) post → Contains posts post) → Contains (x ∷ posts) post
    by true stands among = Contains-later x posts post (among stands)
    by false stands among =
        Contains-cases x (arriving links i (k + 1) posts) post stands (Contains (x ∷ posts) post)
        (λ is. subst (λ (p : Post). Contains (x ∷ posts) p) is (Contains-first x posts))
        (λ later. Contains-later x posts post (among later))

-- ---- one post behind those that were heard

pub arriving_none : (links : List Link) (i k : ℕ) (heard : List Post) (x : Post) → is_drop (shape_of links x.from i k) ≡ true
    → heard ++ arriving links i k (x ∷ []) ≡ heard
arriving_none links i k heard x dropped =
    let none : arriving links i k (x ∷ []) ≡ [] = rw dropped refl in
    ap (λ (more : List Post). heard ++ more) none ∙ append-nil heard

pub arriving_one : (links : List Link) (i k : ℕ) (heard : List Post) (x : Post) → is_drop (shape_of links x.from i k) ≡ false
    → heard ++ arriving links i k (x ∷ []) ≡ heard ++ x ∷ []
arriving_one links i k heard x comes =
    let one : arriving links i k (x ∷ []) ≡ x ∷ [] = rw comes refl in
    ap (λ (more : List Post). heard ++ more) one

-- the same behind those that came of the first k posts, which are read through slices
pub arriving_step : (links real : List Link) (posts all : List Post) (i k : ℕ) (x d : Post) → links ≡ real → posts ≡ all → k < length posts
    → x ≡ get_or posts k d → arriving real i 0 (take (k + 1) all) ≡ arriving real i 0 (take k all) ++ arriving links i k (x ∷ [])
arriving_step links real posts all i k x d same these below is =
    ap (λ (ps : List Post). arriving real i 0 (take (k + 1) ps)) (sym these)
    ∙ arriving_front real i posts k x d below is
    ∙ ap (λ (ps : List Post). arriving real i 0 (take k ps) ++ arriving real i k (x ∷ [])) these
    ∙ ap (λ (ls : List Link). arriving real i 0 (take k all) ++ arriving ls i k (x ∷ [])) (sym same)

pub arriving_all : (real : List Link) (posts all : List Post) (i k : ℕ) → posts ≡ all → k ≡ length posts
    → arriving real i 0 (take k all) ≡ arriving real i 0 all
arriving_all real posts all i k these end =
    ap (λ (ps : List Post). arriving real i 0 (take k ps)) (sym these)
    ∙ ap (λ (m : ℕ). arriving real i 0 (take m posts)) end
    ∙ ap (arriving real i 0) (take-length posts)
    ∙ ap (arriving real i 0) these
