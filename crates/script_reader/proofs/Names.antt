-- The test of a name and what makes one.
use Rattle.std.proofs.Common.{◌≡◌, ℕ, Bool, true, false, ◌&&◌, nat_le, List, length, refl}
use Rattle.std.specs.List.{list_all}
use Rattle.std.proofs.lemmas.Bool.{le-leb, leb-true}
use Rattle.std.proofs.lemmas.List.Sums.{AllPass-from_list_all, list_all-from_AllPass}
use Rattle.hb_base.specs.LiarName.{is_name_byte, IsName}
use Rattle.script_reader.specs.Fields.{is_name}

pub is_name_true : (text : List ℕ) → IsName text → is_name text ≡ true
is_name_true text name = rw (le-leb 1 (length text) name.some, le-leb (length text) 16 name.short, list_all-from_AllPass is_name_byte text name.plain) refl

pub is_name_false : (text : List ℕ) → ¬ (IsName text) → is_name text ≡ false
is_name_false text no_name = by (nat_le 1 (length text)) (nat_le (length text) 16) (list_all is_name_byte text) refl refl refl
  where
    by : (a b c : Bool) → nat_le 1 (length text) ≡ a → nat_le (length text) 16 ≡ b → list_all is_name_byte text ≡ c → (a && b && c) ≡ false
    by false b c p q r = refl
    by true false c p q r = refl
    by true true false p q r = refl
    by true true true p q r = absurd (no_name (record {
      some = leb-true 1 (length text) p;
      short = leb-true (length text) 16 q;
      plain = AllPass-from_list_all is_name_byte text r;
    }))
