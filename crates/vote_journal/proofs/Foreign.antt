-- A sound image is of a journal.
use Rattle.std.proofs.Common.{◌≡◌, ℕ, ◌&&◌, ◌||◌, inl, inr, Bool, true, false, not, nat_lt, nat_eq, List, ◌++◌, length, take, drop, refl, sym, ◌∙◌, ap, subst}
use Rattle.std.specs.List.{starts_with}
use Rattle.std.proofs.lemmas.Bool.{le-ltb}
use Rattle.std.proofs.lemmas.List.{take-append-drop}
use Rattle.disk_model.specs.Image.{Image}
use Rattle.vote_journal.specs.Text.{magic, is_foreign, IsSoundHalf, IsSound}

begins : (half : List ℕ) → take 8 half ≡ magic → starts_with nat_eq half magic ≡ true
begins half front =
    let whole : half ≡ magic ++ drop 8 half = sym (take-append-drop 8 half) ∙ ap (λ (xs : List ℕ). xs ++ drop 8 half) front in
    subst (λ (xs : List ℕ). starts_with nat_eq xs magic ≡ true) (sym whole) refl

and_not : (a b : Bool) → b ≡ true → (a && not b) ≡ false
and_not true b h = rw h refl
and_not false b h = refl

half_ours : (half : List ℕ) → IsSoundHalf half → is_foreign half ≡ false
half_ours half (inl short) = rw (le-ltb 9 (length half) short) refl
half_ours half (inr sound) = and_not (nat_lt 9 (length half)) (starts_with nat_eq half magic) (begins half sound.0)

pub sound_ours : (image : Image) → IsSound image → (is_foreign image.a || is_foreign image.b) ≡ false
sound_ours image sound = rw (half_ours image.a sound.a, half_ours image.b sound.b) refl
