-- Frames, test by test.
use Rattle.std.proofs.Common.{◌≡◌, ℕ, ◌+◌, ◌-◌, ◌<◌, ◌≤◌, Bool, true, false, ◌&&◌, ◌==◌, cond, List, [], ◌∷◌, ◌++◌, get_or, length, take, drop, nat_lt, nat_le, refl, sym, ap, ◌∙◌, subst, arith}
use Rattle.std.specs.List.{list_all, concat}
use Rattle.std.proofs.lemmas.List.Folds.{concat-append}
use Rattle.std.proofs.lemmas.List.{take_more, append-nil, length-take}
use Rattle.std.proofs.lemmas.List.Elements.{All-from_recursion, recursion_from_All}
use Rattle.std.proofs.lemmas.Bool.{leb-true, ltb-true, le-leb, lt-ltb, false≢true}
use Rattle.hb_base.specs.Limits.{longest_value}
use Rattle.hb_base.specs.ByteLists.{AreBytes}
use Rattle.gf_field.proofs.Polynomials.{Bytes-take, Bytes-drop}
use Rattle.rs_shards.specs.Frame.{is_frame, value_in, stated_length}

pub both : (a b : Bool) → (a && b) ≡ true → (a ≡ true) × (b ≡ true)
both true b h = (refl, h)
both false b h = (h, absurd (false≢true h))

-- what a true frame is
pub record IsTrueFrame (k : ℕ) (bytes : List ℕ) : Type 0 where
  pub header : 4 ≤ length bytes
  pub short : stated_length bytes ≤ longest_value
  pub inside : 4 + stated_length bytes ≤ length bytes
  pub few : length bytes - (4 + stated_length bytes) < k
  pub zeros : list_all (λ b. b == 0) (drop (4 + stated_length bytes) bytes) ≡ true

pub IsTrueFrame-from_test : (k : ℕ) (bytes : List ℕ) → is_frame k bytes ≡ true → IsTrueFrame k bytes
unfolding is_frame
IsTrueFrame-from_test k bytes h =
    let a = both _ _ h in
    let b = both _ _ a.1 in
    let c = both _ _ b.1 in
    let d = both _ _ c.1 in
    record {
      header = leb-true 4 (length bytes) a.0;
      short = leb-true (stated_length bytes) longest_value b.0;
      inside = leb-true (4 + stated_length bytes) (length bytes) c.0;
      few = ltb-true (length bytes - (4 + stated_length bytes)) k d.0;
      zeros = d.1;
    }

-- where not all of this holds, the test fails
pub false_frame : (k : ℕ) (bytes : List ℕ) → (IsTrueFrame k bytes → ⊥) → false ≡ is_frame k bytes
false_frame k bytes wrong = go (is_frame k bytes) refl
  where
    go : (b : Bool) → b ≡ is_frame k bytes → false ≡ is_frame k bytes
    go true e = absurd (wrong (IsTrueFrame-from_test k bytes (sym e)))
    go false e = e

-- where all but the last holds, the last decides
pub last_test : (k : ℕ) (bytes : List ℕ) → 4 ≤ length bytes → stated_length bytes ≤ longest_value → 4 + stated_length bytes ≤ length bytes
    → length bytes - (4 + stated_length bytes) < k → is_frame k bytes ≡ list_all (λ b. b == 0) (drop (4 + stated_length bytes) bytes)
unfolding is_frame
last_test k bytes header short inside few =
    let end = 4 + stated_length bytes in
    let zeros = list_all (λ b. b == 0) (drop end bytes) in
    ap (λ t. t && (nat_le (stated_length bytes) longest_value && (nat_le end (length bytes) && (nat_lt (length bytes - end) k && zeros)))) (le-leb 4 (length bytes) header)
    ∙ ap (λ t. t && (nat_le end (length bytes) && (nat_lt (length bytes - end) k && zeros))) (le-leb (stated_length bytes) longest_value short)
    ∙ ap (λ t. t && (nat_lt (length bytes - end) k && zeros)) (le-leb end (length bytes) inside)
    ∙ ap (λ t. t && zeros) (lt-ltb (length bytes - end) k few)

pub value_in-true : (k : ℕ) (bytes : List ℕ) → is_frame k bytes ≡ true → value_in k bytes ≡ take (stated_length bytes) (drop 4 bytes)
unfolding value_in
value_in-true k bytes h = ap (λ b. cond b (take (stated_length bytes) (drop 4 bytes)) []) h

pub value_in-false : (k : ℕ) (bytes : List ℕ) → is_frame k bytes ≡ false → value_in k bytes ≡ []
unfolding value_in
value_in-false k bytes h = ap (λ b. cond b (take (stated_length bytes) (drop 4 bytes)) []) h

-- what is read is no longer than a value may be, and consists of bytes where the frame does
pub length-value_in : (k : ℕ) (bytes : List ℕ) → length (value_in k bytes) ≤ longest_value
length-value_in k bytes = go (is_frame k bytes) refl
  where
    go : (b : Bool) → b ≡ is_frame k bytes → length (value_in k bytes) ≤ longest_value
    go true e =
        let t = IsTrueFrame-from_test k bytes (sym e) in
        omega (arith, ap length (value_in-true k bytes (sym e)), length-take (stated_length bytes) (drop 4 bytes), t.short)
    go false e = omega (arith, ap length (value_in-false k bytes (sym e)))

pub value_in-bytes : (k : ℕ) (bytes : List ℕ) → AreBytes bytes → AreBytes (value_in k bytes)
value_in-bytes k bytes h = go (is_frame k bytes) refl
  where
    go : (b : Bool) → b ≡ is_frame k bytes → AreBytes (value_in k bytes)
    go true e =
        subst AreBytes (sym (value_in-true k bytes (sym e)))
        (All-from_recursion (λ x. x < 256) (take (stated_length bytes) (drop 4 bytes))
        (Bytes-take (stated_length bytes) (drop 4 bytes) (Bytes-drop 4 bytes (recursion_from_All (λ x. x < 256) bytes h))))
    go false e = subst AreBytes (sym (value_in-false k bytes (sym e))) (λ i d l. absurd (omega arith))

-- one list more, put to those before
pub concat-take_more : (xs : List (List ℕ)) (i : ℕ) (x : List ℕ) → i < length xs → x ≡ get_or xs i x → concat (take (i + 1) xs) ≡ concat (take i xs) ++ x
concat-take_more xs i x l is =
    ap concat (take_more xs i x l) ∙ concat-append (take i xs) (get_or xs i x ∷ []) ∙ ap (λ y. concat (take i xs) ++ y) (append-nil (get_or xs i x) ∙ sym is)
