-- A map of states, seen as a table of what they show.
use Rattle.std.proofs.Common.{◌≡◌, ℕ, Bool, true, false, cond, List, [], ◌∷◌, map, Option, None, Some, if◌then◌else◌, unwrap_or, refl, sym, ap, ◌∙◌, bytes_eq}
use Rattle.std.specs.BTreeMap.{BTreeMap, get, is_at}
use Rattle.std.specs.Global.{Box}
use Rattle.std.specs.Cmp.Lexicographic.{slice_cmp}
use Rattle.std.specs.Map.{lookup}
use Rattle.std.specs.Option.{option_map}
use Rattle.std.specs.Ordering.{nat_cmp, is_eq}
use Rattle.std.proofs.lemmas.Map.Text.{is_eq-slice_cmp}
use Rattle.std.proofs.lemmas.Slice.Eq.{bytes_eq-Decides}
use Rattle.hb_base.specs.Numbers.{Numbers}
use Rattle.rbc_core.specs.declared.root_state.RootState.{RootState}
use Rattle.rbc_core.specs.RootViews.{RootView, unheard, root_view}
use Rattle.rbc_core.specs.Roots.{RootsView, found, view_at, Finds, IsUnchanged}
use Rattle.rbc_core.specs.Tables.{box_view, table_of}

lookup-views : (q : List ℕ) (es : List (List ℕ × Box RootState))
    → lookup (bytes_eq q) (map {B = List ℕ × RootView} (λ e. (e.0, box_view e.1)) es) ≡ option_map box_view (lookup (is_at (slice_cmp nat_cmp q)) es)
lookup-views q [] = refl
lookup-views q (e ∷ es) =
    ap (λ (b : Bool). cond b (Some (box_view e.1)) (lookup (bytes_eq q) (map {B = List ℕ × RootView} (λ e. (e.0, box_view e.1)) es))) (sym (is_eq-slice_cmp q e.0))
    ∙ ap (λ (o : Option RootView). cond (is_eq (slice_cmp nat_cmp q e.0)) (Some (box_view e.1)) o) (lookup-views q es)
    ∙ by (is_eq (slice_cmp nat_cmp q e.0))
  where
    by : (b : Bool) → cond b (Some (box_view e.1)) (option_map box_view (lookup (is_at (slice_cmp nat_cmp q)) es))
        ≡ option_map box_view (cond b (Some e.1) (lookup (is_at (slice_cmp nat_cmp q)) es))
    by true = refl
    by false = refl

-- what a map of states shows
abbrev pub shown : Numbers → BTreeMap (List ℕ) (Box RootState) → RootsView
shown c m = record { config = c; table = table_of m }

-- a look-up by root finds what the map finds
pub found-shown : (c : Numbers) (m : BTreeMap (List ℕ) (Box RootState)) (root : List ℕ)
    → found (shown c m) root ≡ option_map box_view (get (slice_cmp nat_cmp) m root)
found-shown c m root = lookup-views root m.entries

pub view-some : (c : Numbers) (m : BTreeMap (List ℕ) (Box RootState)) (root : List ℕ) (s : Box RootState) → get (slice_cmp nat_cmp) m root ≡ Some s
    → view_at (shown c m) root ≡ box_view s
view-some c m root s some =
    ap (λ (o : Option RootView). unwrap_or o unheard) (found-shown c m root ∙ ap (option_map box_view) some)

pub view-none : (c : Numbers) (m : BTreeMap (List ℕ) (Box RootState)) (root : List ℕ) → get (slice_cmp nat_cmp) m root ≡ None
    → view_at (shown c m) root ≡ unheard
view-none c m root none =
    ap (λ (o : Option RootView). unwrap_or o unheard) (found-shown c m root ∙ ap (option_map box_view) none)

-- the same of a value that it shows, and of what is in the box
pub seen-some : (r : RootsView) (c : Numbers) (m : BTreeMap (List ℕ) (Box RootState)) (root : List ℕ) (b : Box RootState) (s : RootState) → shown c m ≡ r
    → get (slice_cmp nat_cmp) m root ≡ Some b → s ≡ b.value → view_at r root ≡ root_view s
seen-some r c m root b s is some inside =
    ap (λ (r : RootsView). view_at r root) (sym is) ∙ view-some c m root b some ∙ ap root_view (sym inside)

pub seen-none : (r : RootsView) (c : Numbers) (m : BTreeMap (List ℕ) (Box RootState)) (root : List ℕ) → shown c m ≡ r
    → get (slice_cmp nat_cmp) m root ≡ None → view_at r root ≡ unheard
seen-none r c m root is none = ap (λ (r : RootsView). view_at r root) (sym is) ∙ view-none c m root none

-- one state was put at a root
pub record Puts (old new : BTreeMap (List ℕ) (Box RootState)) (root : List ℕ) (s : Box RootState) : Type 0 where
  pub puts : (q : List ℕ) → get (slice_cmp nat_cmp) new q ≡ (if is_eq (slice_cmp nat_cmp root q) then Some s else get (slice_cmp nat_cmp) old q)

-- one that was inserted where there was none
pub Puts-inserted : (old between new : BTreeMap (List ℕ) (Box RootState)) (root : List ℕ) (s : Box RootState) → between ≡ old
    → ((q : List ℕ) → get (slice_cmp nat_cmp) new q ≡ (if is_eq (slice_cmp nat_cmp root q) then Some s else get (slice_cmp nat_cmp) between q))
    → Puts old new root s
Puts-inserted old between new root s same updates = record {
  puts = λ q.
      updates q ∙ ap (λ (m : BTreeMap (List ℕ) (Box RootState)). if is_eq (slice_cmp nat_cmp root q) then Some s else get (slice_cmp nat_cmp) m q) same;
}

-- so the table shows what it shows
pub Finds-puts : (c : Numbers) (old new : BTreeMap (List ℕ) (Box RootState)) (root : List ℕ) (s : Box RootState) (v : RootView) → Puts old new root s → box_view s ≡ v
    → Finds (shown c old) (shown c new) root v
Finds-puts c old new root s v puts is = record {
  config = refl;
  found = λ q.
      found-shown c new q
      ∙ ap (option_map box_view) (puts.puts q ∙ ap (λ (b : Bool). if b then Some s else get (slice_cmp nat_cmp) old q) (is_eq-slice_cmp root q))
      ∙ by q (bytes_eq root q);
}
  where
    by : (q : List ℕ) (b : Bool)
        → option_map box_view (if b then Some s else get (slice_cmp nat_cmp) old q) ≡ (if b then Some v else found (shown c old) q)
    by q true = ap Some is
    by q false = sym (found-shown c old q)

-- a state that shows what the one before it shows changes nothing
pub unchanged-puts : (c : Numbers) (old new : BTreeMap (List ℕ) (Box RootState)) (root : List ℕ) (before s : Box RootState) → Puts old new root s
    → get (slice_cmp nat_cmp) old root ≡ Some before → box_view s ≡ box_view before → IsUnchanged (shown c old) (shown c new)
unchanged-puts c old new root before s puts was is = record {
  config = refl;
  found = λ q. (Finds-puts c old new root s (box_view before) puts is).found q ∙ by q (bytes_eq root q) refl;
}
  where
    by : (q : List ℕ) (b : Bool) → bytes_eq root q ≡ b → (if b then Some (box_view before) else found (shown c old) q) ≡ found (shown c old) q
    by q true same =
        sym (found-shown c old root ∙ ap (option_map box_view) was)
        ∙ ap (λ (q : List ℕ). found (shown c old) q) ((bytes_eq-Decides root q).0 same)
    by q false apart = refl
