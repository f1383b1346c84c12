-- What is seen at the front of a vote's bytes.
use Rattle.std.proofs.Common.{◌≡◌, ℕ, suc, ◌+◌, ◌-◌, ◌<◌, List, [], ◌∷◌, ◌++◌, length, get_or, take, drop, refl, sym, ap, subst, ◌∙◌, arith}
use Rattle.std.specs.List.{flat_map}
use Rattle.std.proofs.lemmas.List.{take_rest, drop-drop, get_or-drop}
use Rattle.hb_wire.specs.declared.items.Item.{Item}
use Rattle.hb_wire.specs.declared.vote.Vote.{Vote}
use Rattle.hb_wire.specs.Votes.{kind_of, epoch_of, spelling, Spells, item_bytes}
use Rattle.hb_wire.specs.Reading.{items_in, first_item, first_length}
use Rattle.hb_wire.specs.Lists.{IsList, listed}
use Rattle.hb_wire.specs.Glances.{IsGlance, IsClosedRest}
use Rattle.hb_wire.proofs.ListLemmas.{has_items, items_again}

front_seen : (vote : Vote)
    → IsGlance (spelling vote) vote (get_or (spelling vote) 0 0) (get_or (spelling vote) 1 0) (take (length (spelling vote) - 2) (drop 2 (spelling vote)))
front_seen vote = record {
  kind_is = refl;
  epoch_is = refl;
  parts = ap (λ (r : List ℕ). kind_of vote ∷ epoch_of vote ∷ r) (sym (take_rest (spelling vote) 2));
}

pub seen : (n version : ℕ) (bytes : List ℕ) (vote : Vote) → Spells n version bytes vote
    → IsGlance bytes vote (get_or bytes 0 0) (get_or bytes 1 0) (take (length bytes - 2) (drop 2 bytes))
seen n version bytes vote is =
    subst (λ (bs : List ℕ). IsGlance bs vote (get_or bs 0 0) (get_or bs 1 0) (take (length bs - 2) (drop 2 bs))) (sym is.spelled) (front_seen vote)

-- ---- the items of a closed vote

pub record SeenList (rest : List ℕ) (items : List Item) : Type 0 where
  pub whole : IsList rest
  pub same : listed rest ≡ items
  pub count : get_or rest 0 0 ≡ length items

pub closed_list : (rest : List ℕ) (items : List Item) → IsClosedRest rest items → SeenList rest items
closed_list rest items closed =
    let spelled : rest ≡ (length items ∷ flat_map item_bytes items) ++ [] = ap (drop 2) closed.spells.spelled in
    let rise = closed.spells.fits.fields.0.1 in
    let front : SeenList ((length items ∷ flat_map item_bytes items) ++ []) items = record {
      whole = record { some = omega arith; items = has_items closed.n 0 items [] rise };
      same = (items_again closed.n 0 items [] rise).1;
      count = refl;
    }
    in
    subst (λ (bs : List ℕ). SeenList bs items) (sym spelled) front

-- the items that are left, one item on
pub items_dropped : (count i : ℕ) (left : List ℕ) (all : List Item) → i < count → items_in (count - i) left ≡ drop i all
    → items_in (count - (i + 1)) (drop (5 + first_length left) left) ≡ drop (i + 1) all
unfolding items_in
items_dropped count i left all inside same =
    let step : count - i ≡ suc (count - (i + 1)) = omega arith in
    ap (drop 1) (ap (λ k. items_in k left) (sym step) ∙ same) ∙ drop-drop 1 i all

-- the first of those that are left
pub item_found : (count i : ℕ) (left : List ℕ) (all : List Item) (d : Item) → i < count → items_in (count - i) left ≡ drop i all
    → get_or all i d ≡ first_item left
unfolding items_in
item_found count i left all d inside same =
    let step : count - i ≡ suc (count - (i + 1)) = omega arith in
    let at : i + 0 ≡ i = omega arith in
    ap (λ k. get_or all k d) (sym at) ∙ sym (get_or-drop i all 0 d) ∙ ap (λ xs. get_or xs 0 d) (sym same)
    ∙ ap (λ k. get_or (items_in k left) 0 d) step
