-- Whether ledgers are alike as far as they go, place by place. The letters: i and k are nodes.
use Rattle.std.specs.Prelude.{ℕ, Bool, true, not, ◌||◌, List, length, slice_get, Option, Some}
use Rattle.std.specs.List.{list_all, range_with_len}
use Rattle.std.specs.Cmp.Lexicographic.{pointwise}
use Rattle.hb_base.specs.Numbers.{Numbers}
use Rattle.hb_wire.specs.declared.items.Item.{Item}
use Rattle.hb_wire.specs.declared.post.Post.{Post}
use Rattle.hb_wire.specs.Lists.{same_item}
use Rattle.hb_rules.specs.Lanes.{is_correct}
use Rattle.hb_rules.specs.Ledger.{ledger}

-- whether two lists are the same, if there are two
abbrev pub are_same : Option (List Item) → Option (List Item) → Bool
are_same (Some list) (Some other) = pointwise same_item list other
are_same _ _ = true

-- whether they have the same list at a place, if both have one there
abbrev pub same_at : List (List Item) → List (List Item) → ℕ → Bool
same_at lists others place = are_same (slice_get lists place) (slice_get others place)

-- whether they have so at all places
abbrev pub are_alike : List (List Item) → List (List Item) → Bool
are_alike lists others = list_all (same_at lists others) (range_with_len 0 (length lists))

-- whether the ledgers of two nodes are alike, if the two are correct
abbrev pub may_compare : Numbers → List Post → ℕ → ℕ → Bool
may_compare c posts i k =
    not (is_correct c i) || (not (is_correct c k) || are_alike (ledger c posts i) (ledger c posts k))

-- whether those of any two correct nodes are
abbrev pub all_alike : Numbers → List Post → Bool
all_alike c posts = list_all (λ i. list_all (may_compare c posts i) (range_with_len 0 c.n)) (range_with_len 0 c.n)
