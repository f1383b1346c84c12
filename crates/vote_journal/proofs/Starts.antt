-- What beginning the halves leaves of an image.
use Rattle.std.proofs.Common.{◌≡◌, ◌≤◌, inl, inr, ⊎_elim, ℕ, Bool, true, false, cond, nat_le, List, [], ◌∷◌, length, refl, sym, ◌∙◌, subst, arith}
use Rattle.std.specs.List.{concat}
use Rattle.std.proofs.lemmas.Bool.{cases_Bool, leb-true, leb-false}
use Rattle.disk_model.specs.declared.disk.Half.TheVariants.{A, B}
use Rattle.disk_model.specs.Image.{Image}
use Rattle.disk_model.specs.Disk.{TornWrite, OnHalf, Only, Follows, Elapses}
use Rattle.disk_model.specs.Supply.{Supply, Draws}
use Rattle.vote_journal.specs.Text.{HasBytes, half_entries, live_entries, text_of, is_some_entry, IsSoundHalf, IsSound, SaysOnly, HoldsEntries, HalfHas, Agree}
use Rattle.vote_journal.specs.Runs.{Runs}
use Rattle.vote_journal.specs.Steps.{BothTorn, MayStart, MayBegin, begun as begun_bytes, begun_half}
use Rattle.vote_journal.proofs.Moments.{begun, one_call}
use Rattle.vote_journal.proofs.Blocks.{short_has}
use Rattle.vote_journal.proofs.Images.{image_says, live_count}
use Rattle.vote_journal.proofs.Holding.{holding}

torn_same : (at n : ℕ) (c : List ℕ) → TornWrite at n c c
torn_same at n c = record { no_shorter = omega arith; no_longer = omega arith; below = λ k l h. refl; above = λ k l h. refl }

pub begun_none : (image c : Image) → c ≡ image → BothTorn image c
begun_none image c is = subst (λ (i : Image). BothTorn image i) (sym is) (record { a = torn_same 0 9 image.a; b = torn_same 0 9 image.b })

pub begun_one : (image d c : Image) → d ≡ image → OnHalf A (TornWrite 0 9) d c → BothTorn image c
begun_one image d c is step =
    let s = subst (λ (i : Image). OnHalf A (TornWrite 0 9) i c) is step in
    record { a = s.here; b = subst (λ (xs : List ℕ). TornWrite 0 9 image.b xs) (sym s.there) (torn_same 0 9 image.b) }

pub begun_two : (image e d c : Image) → e ≡ image → OnHalf A (TornWrite 0 9) e d → OnHalf B (TornWrite 0 9) d c → BothTorn image c
begun_two image e d c is first second =
    let s = subst (λ (i : Image). OnHalf A (TornWrite 0 9) i d) is first in
    record {
      a = subst (λ (xs : List ℕ). TornWrite 0 9 image.a xs) (sym second.there) s.here;
      b = subst (λ (xs : List ℕ). TornWrite 0 9 xs c.b) s.there second.here;
    }

-- both halves are written to, one after the other, from a disk that is durable
module _ (image : Image) (left at_one at_two : Image → Type 0) (durable : Only image left)
    (first : Follows (OnHalf A (TornWrite 0 9)) left at_one) (second : Follows (OnHalf B (TornWrite 0 9)) at_one at_two) where
  left_by_one : (c : Image) → at_one c → BothTorn image c
  left_by_one c may = let f = first c may in begun_one image f.0 c (durable f.0 f.1) f.2

  pub left_by_both : (c : Image) → at_two c → BothTorn image c
  left_by_both c may =
      let f = second c may in
      let e = first f.0 f.1 in
      begun_two image e.0 f.0 c (durable e.0 e.1) e.2 f.2

  pub both_run : {D : Type 0} {moment : D → ℕ} {left_since : D → ℕ → Image → Type 0} {faults : D → ℕ} {supply : D → Supply} (old one two : D)
      → ((c : Image) → left_since old (moment old) c → left c)
      → Elapses (moment old) (moment one) (left_since old) (left_since one) at_one → faults old ≤ faults one → Draws (supply old) (supply one)
      → Elapses (moment one) (moment two) (left_since one) (left_since two) at_two → faults one ≤ faults two → Draws (supply one) (supply two)
      → Runs moment left_since faults supply old two (BothTorn image)
  both_run old one two now time more draws time' more' draws' =
      one_call (begun (λ c since. begun_none image c (durable c (now c since))) time left_by_one more draws) time' left_by_both more' draws'

-- what a half has while it is begun is what it had
pub starts_has : (old new : List ℕ) → IsSoundHalf old → MayStart old new → HalfHas new (half_entries old)
starts_has old new sound (inl same) = subst (λ (xs : List ℕ). HalfHas xs (half_entries old)) (sym same) (record { sound = sound; has = refl })
starts_has old new sound (inr short) = let n = short_has new short.1 in record { sound = n.sound; has = n.has ∙ sym (short_has old short.0).has }

agreed : (es fs : List (List ℕ)) → (is_some_entry es ≡ true → is_some_entry fs ≡ true → concat es ≡ concat fs)
    → Agree es fs (cond (is_some_entry es) (concat es) (concat fs))
agreed [] [] h = record { first = λ p. absurd (cc); second = λ p. absurd (cc); none = λ p q. refl }
agreed [] (f ∷ fs) h = record { first = λ p. absurd (cc); second = λ p. refl; none = λ p q. absurd (cc) }
agreed (e ∷ es) fs h = record { first = λ p. refl; second = λ p. sym (h refl p); none = λ p q. absurd (cc) }

-- a sound image's entries stand for its text
pub sound_agree : (image : Image) → IsSound image → Agree (half_entries image.a) (half_entries image.b) (text_of image)
sound_agree image sound = agreed (half_entries image.a) (half_entries image.b) sound.agree

pub begin_says : (image c : Image) → IsSound image → MayBegin image c → SaysOnly (text_of image) (length (live_entries image)) c
begin_says image c sound may =
    image_says A c (half_entries image.a) (half_entries image.b) (text_of image) (length (live_entries image)) (starts_has image.a c.a sound.a may.a)
    (starts_has image.b c.b sound.b may.b) (sound_agree image sound) (omega (arith, live_count image))

-- once it is begun a sound half holds its entries
start_holds : HoldsEntries begun_bytes []
start_holds = record { gate = 0; tail = []; is = refl; closed = refl; short = tt }

pub begun_holds : (half : List ℕ) → HasBytes half → IsSoundHalf half → HoldsEntries (begun_half half) (half_entries half)
begun_holds half small sound =
    let P : Bool → Type 0 = λ t. HoldsEntries (cond t begun_bytes half) (half_entries half) in
    ⊎_elim
    (λ (short : nat_le (length half) 9 ≡ true).
    subst P (sym short) (subst (λ (es : List (List ℕ)). HoldsEntries begun_bytes es) (sym (short_has half (leb-true _ _ short)).has) start_holds))
    (λ (long : nat_le (length half) 9 ≡ false).
    let l = leb-false _ _ long in
    subst P (sym long) (⊎_elim (λ short. absurd (omega (arith, short, l))) (λ parts. holding half small l parts.0 parts.1) sound))
    (cases_Bool (nat_le (length half) 9))

-- an empty disk is sound
pub empty_sound : (image : Image) → image ≡ record { a = []; b = [] } → IsSound image
empty_sound image is = subst IsSound (sym is) (record { a = inl (omega arith); b = inl (omega arith); agree = λ h k. refl })
