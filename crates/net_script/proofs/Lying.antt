-- The nodes that lie are those of the liars.
use Rattle.std.proofs.Common.{◌≡◌, ℕ, zero, suc, ◌<◌, ◌≤◌, ◌==◌, ◌||◌, Bool, true, false, List, [], ◌∷◌, length, slice_set, replicate, All, refl, sym, ap, ◌∙◌, arith}
use Rattle.std.specs.List.{list_any}
use Rattle.std.proofs.lemmas.Bool.{eq-eqb, eqb-true}
use Rattle.std.proofs.lemmas.List.{get_or-set_other, length-set}
use Rattle.std.proofs.lemmas.List.Elements.{All-head, All-tail, All-weaker}
use Rattle.std.proofs.lemmas.Grind.{get_or-set_at}
use Rattle.hb_base.specs.Limits.{most_nodes}
use Rattle.hb_base.specs.NodeSet.{is_in}
use Rattle.net_script.specs.declared.script.LiarAt.{LiarAt}
use Rattle.net_script.specs.Sound.{with_nodes_of, nodes_of}
use Rattle.net_script.specs.Sound.{IsLiar}

-- whether one of these liars is at a node
abbrev lies : List LiarAt → ℕ → Bool
lies liars node = list_any (λ liar. liar.node == node) liars

abbrev IsKnown : LiarAt → Type 0
IsKnown liar = liar.node < most_nodes

no_node : (count node : ℕ) → is_in (replicate count false) node ≡ false
no_node zero node = refl
no_node (suc count) zero = refl
no_node (suc count) (suc node) = no_node count node

one_more : (set : List Bool) (added node : ℕ) → added < length set → is_in (slice_set set added true) node ≡ ((added == node) || is_in set node)
one_more set added node within = by (added == node) refl
  where
    by : (b : Bool) → (added == node) ≡ b → is_in (slice_set set added true) node ≡ (b || is_in set node)
    by true same = get_or-set_at set added node true false (sym (eqb-true added node same)) within
    by false other = get_or-set_other set added node true false (λ same. absurd (cc (other, eq-eqb added node (sym same))))

either : (a b c : Bool) → (b || (a || c)) ≡ ((a || b) || c)
either true true c = refl
either true false c = refl
either false b c = refl

or_false : (b : Bool) → (b || false) ≡ b
or_false true = refl
or_false false = refl

marked_by : (set : List Bool) (liars : List LiarAt) (node : ℕ) → length set ≡ most_nodes → All IsKnown liars
    → is_in (with_nodes_of set liars) node ≡ (lies liars node || is_in set node)
marked_by set [] node long known = refl
marked_by set (liar ∷ liars) node long known =
    let within : liar.node < length set = rw long (All-head IsKnown liar liars known) in
    marked_by (slice_set set liar.node true) liars node (length-set set liar.node true ∙ long) (All-tail IsKnown liar liars known)
    ∙ ap (λ b. lies liars node || b) (one_more set liar.node node within)
    ∙ either (liar.node == node) (lies liars node) (is_in set node)

pub those_lie : (n : ℕ) (liars : List LiarAt) → n ≤ most_nodes → All (IsLiar n) liars → (node : ℕ)
    → is_in (nodes_of liars) node ≡ list_any (λ liar. liar.node == node) liars
those_lie n liars few are node =
    let known : All IsKnown liars = All-weaker (IsLiar n) IsKnown (λ liar is. omega (arith, few, is.node)) liars are in
    marked_by (replicate most_nodes false) liars node refl known
    ∙ ap (λ b. lies liars node || b) (no_node most_nodes node)
    ∙ or_false (lies liars node)
