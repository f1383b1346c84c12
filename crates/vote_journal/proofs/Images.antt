-- What an image says whose halves have these entries.
use Rattle.std.proofs.Common.{◌≡◌, ◌≤◌, min, ⊎_elim, ℕ, Bool, true, false, cond, nat_le, List, [], ◌∷◌, length, refl, sym, ◌∙◌, ap, ap₂, subst, arith}
use Rattle.std.specs.List.{concat}
use Rattle.std.proofs.lemmas.Bool.{cases_Bool, cond-true, cond-false, leb-true, leb-false}
use Rattle.disk_model.specs.declared.disk.Half.{Half}
use Rattle.disk_model.specs.declared.disk.Half.TheVariants.{A, B}
use Rattle.disk_model.specs.Image.{Image, half_of, other}
use Rattle.vote_journal.specs.Text.{half_entries, is_some_entry, live_by, live_entries, SaysOnly, HalfHas, Agree}

empty : (fs : List (List ℕ)) → is_some_entry fs ≡ false → concat fs ≡ []
empty [] h = refl
empty (f ∷ fs) h = absurd (cc)

-- how many entries are the disk's where its halves have these
abbrev pub fewer : List (List ℕ) → List (List ℕ) → ℕ
fewer [] fs = length fs
fewer (e ∷ es) [] = length (e ∷ es)
fewer (e ∷ es) (f ∷ fs) = min (length (e ∷ es)) (length (f ∷ fs))

fewer_swap : (es fs : List (List ℕ)) → fewer fs es ≡ fewer es fs
fewer_swap [] [] = refl
fewer_swap [] (f ∷ fs) = refl
fewer_swap (e ∷ es) [] = refl
fewer_swap (e ∷ es) (f ∷ fs) = omega arith

count_by : (image : Image) (es fs : List (List ℕ)) → half_entries image.a ≡ es → half_entries image.b ≡ fs
    → length (half_entries (half_of (live_by es fs) image)) ≡ fewer es fs
count_by image [] [] a b = ap length a
count_by image [] (f ∷ fs) a b = ap length b
count_by image (e ∷ es) [] a b = ap length a
count_by image (e ∷ es) (f ∷ fs) a b =
    let P : Bool → Type 0 = λ t. length (half_entries (half_of (cond t A B) image)) ≡ min (length (e ∷ es)) (length (f ∷ fs)) in
    ⊎_elim
    (λ (less : nat_le (length es) (length fs) ≡ true). subst P (sym less) (omega (arith, ap length a, leb-true _ _ less)))
    (λ (more : nat_le (length es) (length fs) ≡ false). subst P (sym more) (omega (arith, ap length b, leb-false _ _ more)))
    (cases_Bool (nat_le (length es) (length fs)))

pub live_count : (image : Image) → length (live_entries image) ≡ fewer (half_entries image.a) (half_entries image.b)
live_count image = count_by image (half_entries image.a) (half_entries image.b) refl refl

says_by : (image : Image) (es fs : List (List ℕ)) (text : List ℕ) (most : ℕ) → HalfHas image.a es → HalfHas image.b fs → Agree es fs text
    → fewer es fs ≤ most → SaysOnly text most image
says_by image es fs text most a b agree few =
    let some_a : is_some_entry (half_entries image.a) ≡ is_some_entry es = ap is_some_entry a.has in
    let some_b : is_some_entry (half_entries image.b) ≡ is_some_entry fs = ap is_some_entry b.has in
    record {
      sound = record {
        a = a.sound;
        b = b.sound;
        agree = λ p q. ap concat a.has ∙ agree.first (sym some_a ∙ p)
            ∙ sym (ap concat b.has ∙ agree.second (sym some_b ∙ q));
      };
      says = ⊎_elim
          (λ yes. cond-true _ _ _ (some_a ∙ yes) ∙ ap concat a.has ∙ agree.first yes)
          (λ not_a. cond-false _ _ _ (some_a ∙ not_a) ∙ ap concat b.has
          ∙ ⊎_elim (λ yes. agree.second yes) (λ not_b. empty fs not_b ∙ sym (agree.none not_a not_b)) (cases_Bool (is_some_entry fs)))
          (cases_Bool (is_some_entry es));
      few = omega (arith, live_count image, ap₂ fewer a.has b.has, few);
    }

pub swapped : (es fs : List (List ℕ)) (text : List ℕ) → Agree es fs text → Agree fs es text
swapped es fs text agree = record { first = agree.second; second = agree.first; none = λ p q. agree.none q p }

-- the same, whichever half is which
pub image_says : (half : Half) (image : Image) (es fs : List (List ℕ)) (text : List ℕ) (most : ℕ) → HalfHas (half_of half image) es
    → HalfHas (half_of (other half) image) fs → Agree es fs text → fewer es fs ≤ most → SaysOnly text most image
image_says A image es fs text most h o agree few = says_by image es fs text most h o agree few
image_says B image es fs text most h o agree few =
    says_by image fs es text most o h (swapped es fs text agree) (omega (arith, few, fewer_swap es fs))
