-- What a disk says while its halves are arranged, and once they are.
use Rattle.std.proofs.Common.{◌≡◌, ◌≤◌, arith, ◌&&◌, inl, inr, ⊎_elim, ℕ, Bool, true, false, cond, nat_le, List, [], ◌∷◌, length, take, refl, sym, ◌∙◌, ap, subst}
use Rattle.std.specs.List.{concat}
use Rattle.std.proofs.lemmas.Bool.{cases_Bool, and_parts, both_ways}
use Rattle.disk_model.specs.declared.disk.Half.{Half}
use Rattle.disk_model.specs.declared.disk.Half.TheVariants.{A, B}
use Rattle.disk_model.specs.Image.{Image, half_of, other, with_half}
use Rattle.disk_model.specs.Disk.{overwritten}
use Rattle.vote_journal.specs.Text.{HasBytes, half_entries, both_have_entries, text_of, is_some_entry, live_by, live_half, live_entries, IsSound, SaysOnly, HoldsEntries, Agree}
use Rattle.vote_journal.specs.Steps.{MayLose, MayArrange, begun_image, arranged, Arranged}
use Rattle.vote_journal.proofs.Blocks.{holds_has}
use Rattle.vote_journal.proofs.Images.{image_says, swapped, fewer}
use Rattle.vote_journal.proofs.Tears.{gate_shut, cut_done, length-cut}
use Rattle.vote_journal.proofs.Gains.{half_with, other_with, loses_first, loses_second}
use Rattle.vote_journal.proofs.Says.{text_is}
use Rattle.vote_journal.proofs.Starts.{sound_agree, begin_says, begun_holds}

begun_at : (half : Half) (image : Image) → HasBytes image.a → HasBytes image.b → IsSound image
    → HoldsEntries (half_of half (begun_image image)) (half_entries (half_of half image))
begun_at A image a b sound = begun_holds image.a a sound.a
begun_at B image a b sound = begun_holds image.b b sound.b

agree_at : (half : Half) (image : Image) → IsSound image → Agree (half_entries (half_of half image)) (half_entries (half_of (other half) image)) (text_of image)
agree_at A image sound = sound_agree image sound
agree_at B image sound = swapped (half_entries image.a) (half_entries image.b) (text_of image) (sound_agree image sound)

both_at : (half : Half) (image : Image) → (is_some_entry (half_entries image.a) && is_some_entry (half_entries image.b)) ≡ true
    → (is_some_entry (half_entries (half_of half image)) ≡ true) × (is_some_entry (half_entries (half_of (other half) image)) ≡ true)
both_at A image h = and_parts _ _ h
both_at B image h = let p = and_parts _ _ h in (p.1, p.0)

without : (es fs : List (List ℕ)) (text : List ℕ) → Agree es fs text → is_some_entry fs ≡ true → Agree [] fs text
without es fs text agree some = record { first = λ p. absurd (cc); second = agree.second; none = λ p q. absurd (cc (some, q)) }

other_other : (half : Half) → other (other half) ≡ half
other_other A = refl
other_other B = refl

beside_some : (es fs : List (List ℕ)) → is_some_entry fs ≡ true → fewer es fs ≤ length fs
beside_some [] fs some = omega arith
beside_some (e ∷ es) [] some = absurd (cc)
beside_some (e ∷ es) (f ∷ fs) some = omega arith

lose_says : (spare : Half) (image c : Image) → spare ≡ other (live_half image) → HasBytes image.a → HasBytes image.b → IsSound image
    → (is_some_entry (half_entries image.a) && is_some_entry (half_entries image.b)) ≡ true
    → MayLose spare (half_entries (half_of spare image)) (half_of (other spare) (begun_image image)) c
    → SaysOnly (text_of image) (length (live_entries image)) c
lose_says spare image c e a b sound both may =
    let es = half_entries (half_of spare image) in
    let fs = half_entries (half_of (other spare) image) in
    let agree = agree_at spare image sound in
    let some = (both_at spare image both).1 in
    let many : length fs ≡ length (live_entries image) =
    ap (λ (h : Half). length (half_entries (half_of h image))) (ap other e ∙ other_other (live_half image)) in
    let there : HoldsEntries (half_of (other spare) c) fs = subst (λ (xs : List ℕ). HoldsEntries xs fs) (sym may.there)
    (begun_at (other spare) image a b sound) in
    ⊎_elim
    (λ same. image_says spare c es fs (text_of image) (length (live_entries image)) (holds_has (half_of spare c) es same)
    (holds_has (half_of (other spare) c) fs there) agree (omega (arith, beside_some es fs some, many)))
    (λ gone. image_says spare c [] fs (text_of image) (length (live_entries image)) (holds_has (half_of spare c) [] gone)
    (holds_has (half_of (other spare) c) fs there) (without es fs (text_of image) agree some) (omega (arith, many)))
    may.here

pub arrange_says : (both : Bool) (spare : Half) (image c : Image) → spare ≡ other (live_half image) → HasBytes image.a → HasBytes image.b
    → IsSound image → both ≡ (is_some_entry (half_entries image.a) && is_some_entry (half_entries image.b))
    → MayArrange both spare image c → SaysOnly (text_of image) (length (live_entries image)) c
arrange_says both spare image c e a b sound is (inl may) = begin_says image c sound may
arrange_says both spare image c e a b sound is (inr (t, inl torn)) =
    let two = sym is ∙ t in
    lose_says spare image c e a b sound two
    (loses_first spare (begun_image image) c (half_entries (half_of spare image)) (begun_at spare image a b sound) (both_at spare image two).0 torn)
arrange_says both spare image c e a b sound is (inr (t, inr cut)) =
    let two = sym is ∙ t in
    let mid = with_half spare (overwritten 8 (0 ∷ []) (half_of spare (begun_image image))) (begun_image image) in
    lose_says spare image c e a b sound two
    (loses_second spare (begun_image image) mid (half_entries (half_of spare image)) (begun_at spare image a b sound) refl c cut)

-- the spare half has no entry where not both have some
spare_none : (es fs : List (List ℕ)) (a b : List ℕ) → (is_some_entry es && is_some_entry fs) ≡ false → half_entries a ≡ es → half_entries b ≡ fs
    → half_entries (half_of (other (live_by es fs)) (record { a = a; b = b })) ≡ []
spare_none [] [] a b h p q = q
spare_none [] (f ∷ fs) a b h p q = p
spare_none (e ∷ es) [] a b h p q = q
spare_none (e ∷ es) (f ∷ fs) a b h p q = absurd (cc)

pub arranged_holds : (both : Bool) (image new : Image) → HasBytes image.a → HasBytes image.b → IsSound image
    → both ≡ (is_some_entry (half_entries image.a) && is_some_entry (half_entries image.b))
    → new ≡ arranged both (other (live_half image)) image → Arranged (live_half image) image new
arranged_holds false image new a b sound is made =
    let live = live_half image in
    subst (λ (i : Image). Arranged live image i) (sym made) (record {
      live_holds = begun_at live image a b sound;
      spare_holds = subst (λ (es : List (List ℕ)). HoldsEntries (half_of (other live) (begun_image image)) es)
          (spare_none (half_entries image.a) (half_entries image.b) image.a image.b (sym is) refl refl) (begun_at (other live) image a b sound);
      cut = λ both. absurd (both_ways _ (sym is) both);
    })
arranged_holds true image new a b sound is made =
    let live = live_half image in
    let spare = other live in
    let begun = begun_image image in
    let shut = overwritten 8 (0 ∷ []) (half_of spare begun) in
    let P : List ℕ → Type 0 = λ xs. HoldsEntries xs (half_entries (half_of live image)) in
    subst (λ (i : Image). Arranged live image i) (sym made) (record {
      live_holds = subst P (sym (ap (λ (h : Half). half_of h (with_half spare (take 9 shut) begun)) (sym (other_other live))
          ∙ other_with spare (take 9 shut) begun ∙ ap (λ (h : Half). half_of h begun) (other_other live))) (begun_at live image a b sound);
      spare_holds = subst (λ (xs : List ℕ). HoldsEntries xs []) (sym (half_with spare (take 9 shut) begun))
          (cut_done shut (gate_shut (half_of spare begun) (half_entries (half_of spare image)) (begun_at spare image a b sound)));
      cut = λ both. ap length (half_with spare (take 9 shut) begun)
          ∙ length-cut shut (gate_shut (half_of spare begun) (half_entries (half_of spare image)) (begun_at spare image a b sound));
    })

-- what was found in copies of the halves
pub live_found : (image : Image) (es fs : List (List ℕ)) → es ≡ half_entries image.a → fs ≡ half_entries image.b → live_by es fs ≡ live_half image
live_found image es fs e f = ap (λ (x : List (List ℕ)). live_by x fs) e ∙ ap (live_by (half_entries image.a)) f

pub both_found : (image : Image) (es fs : List (List ℕ)) → es ≡ half_entries image.a → fs ≡ half_entries image.b
    → (is_some_entry es && is_some_entry fs) ≡ (is_some_entry (half_entries image.a) && is_some_entry (half_entries image.b))
both_found image es fs e f = ap (λ (x : List (List ℕ)). is_some_entry x && is_some_entry fs) e
    ∙ ap (λ (x : List (List ℕ)). is_some_entry (half_entries image.a) && is_some_entry x) f

pub sound_says : (image c : Image) → IsSound image → c ≡ image → SaysOnly (text_of image) (length (live_entries image)) c
sound_says image c sound is = subst (λ (i : Image). SaysOnly (text_of image) (length (live_entries image)) i) (sym is)
    (record { sound = sound; says = refl; few = omega arith })

-- the live half of a sound image has its text
pub live_says : (es fs : List (List ℕ)) (image : Image) (text : List ℕ) → half_entries image.a ≡ es → half_entries image.b ≡ fs → Agree es fs text
    → concat (half_entries (half_of (live_by es fs) image)) ≡ text
live_says [] [] image text p q agree = ap concat p ∙ sym (agree.none refl refl)
live_says [] (f ∷ fs) image text p q agree = ap concat q ∙ agree.second refl
live_says (e ∷ es) [] image text p q agree = ap concat p ∙ agree.first refl
live_says (e ∷ es) (f ∷ fs) image text p q agree =
    let P : Bool → Type 0 = λ t. concat (half_entries (half_of (cond t A B) image)) ≡ text in
    ⊎_elim
    (λ (less : nat_le (length es) (length fs) ≡ true). subst P (sym less) (ap concat p ∙ agree.first refl))
    (λ (more : nat_le (length es) (length fs) ≡ false). subst P (sym more) (ap concat q ∙ agree.second refl))
    (cases_Bool (nat_le (length es) (length fs)))

pub live_text : (image : Image) → IsSound image → concat (live_entries image) ≡ text_of image
live_text image sound = live_says (half_entries image.a) (half_entries image.b) image (text_of image) refl refl (sound_agree image sound)

-- what is known of the half that is live
pub record Opens (half : Half) (image new : Image) : Type 0 where
  pub live : HoldsEntries (half_of half new) (half_entries (half_of half new))
  pub spare : HoldsEntries (half_of (other half) new) []
  pub same : half_entries (half_of half new) ≡ live_entries image
  pub cut : both_have_entries image ≡ true → length (half_of (other half) new) ≡ 9

pub opens : (half : Half) (image new : Image) → half ≡ live_half image → Arranged (live_half image) image new → Opens half image new
opens half image new e arranged =
    let has : half_entries (half_of (live_half image) new) ≡ live_entries image =
    (holds_has (half_of (live_half image) new) (live_entries image) arranged.live_holds).has in
    subst (λ (h : Half). Opens h image new) (sym e) (record {
      live = subst (λ (es : List (List ℕ)). HoldsEntries (half_of (live_half image) new) es) (sym has) arranged.live_holds;
      spare = arranged.spare_holds;
      same = has;
      cut = arranged.cut;
    })

pub arranged_text : (image new : Image) → IsSound image → Arranged (live_half image) image new → text_of new ≡ text_of image
arranged_text image new sound arranged = text_is (live_half image) new (live_entries image) arranged.live_holds arranged.spare_holds ∙ live_text image sound
