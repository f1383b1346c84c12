-- A list at one of its elements: what is before it, and what is left.
use Rattle.std.proofs.Common.{◌≡◌, ℕ, ◌+◌, ◌<◌, ◌==◌, Bool, nat_lt, List, [], ◌∷◌, ◌++◌, length, get_or, take, drop, count_by}
use Rattle.std.proofs.Common.{bytes_eq, Err, if◌then◌else◌, refl, sym, ap, ◌∙◌, add-one, drop-cons}
use Rattle.std.specs.List.{list_any}
use Rattle.std.proofs.lemmas.List.{take_more}
use Rattle.script_fault.specs.declared.fault.ScriptFault.TheVariants.{LiarTwice, NoSuchLiar}
use Rattle.net_script.specs.declared.script.LiarAt.{LiarAt}
use Rattle.script_reader.specs.Entries.{each_once, all_cast}

pub drop_at : {X : Type 0} (xs : List X) (i : ℕ) (x : X) → i < length xs → x ≡ get_or xs i x → drop i xs ≡ x ∷ drop (i + 1) xs
drop_at xs i x below is = rw (add-one) (drop-cons xs i x below) ∙ ap (λ y. y ∷ drop (i + 1) xs) (sym is)

pub take_at : {X : Type 0} (xs : List X) (i : ℕ) (x : X) → i < length xs → x ≡ get_or xs i x → take (i + 1) xs ≡ take i xs ++ x ∷ []
take_at xs i x below is = take_more xs i x below ∙ ap (λ y. take i xs ++ y ∷ []) (sym is)

-- ---- liars

pub each_once_at : (liars : List LiarAt) (i : ℕ) (liar : LiarAt) (twice : Bool) → i < length liars → liar ≡ get_or liars i liar
    → list_any (λ other. other.node == liar.node) (take i liars) ≡ twice
    → each_once (take i liars) (drop i liars) ≡ (if twice then Err (LiarTwice liar.node) else each_once (take (i + 1) liars) (drop (i + 1) liars))
each_once_at liars i liar twice below is test = rw (drop_at liars i liar below is, test, take_at liars i liar below is) refl

pub all_cast_at : (cast : List (List ℕ)) (liars : List LiarAt) (i : ℕ) (liar : LiarAt) (few : Bool) → i < length liars → liar ≡ get_or liars i liar
    → nat_lt (count_by (λ name. bytes_eq name liar.name) cast) (count_by (λ other. bytes_eq other.name liar.name) (take (i + 1) liars)) ≡ few
    → all_cast cast (take i liars) (drop i liars) ≡ (if few then Err (NoSuchLiar liar.name) else all_cast cast (take (i + 1) liars) (drop (i + 1) liars))
all_cast_at cast liars i liar few below is test =
    rw (drop_at liars i liar below is, take_at liars i liar below is, rw (take_at liars i liar below is) at test) refl
