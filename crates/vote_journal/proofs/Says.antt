-- What the steps of a journal leave says what it said.
use Rattle.std.proofs.Common.{◌≡◌, ◌≤◌, ◌<◌, ◌+◌, ◌-◌, ◌^◌, inl, inr, ⊎_elim, ℕ, true, min, List, [], ◌∷◌, ◌++◌, length, nat_le, refl, sym, ◌∙◌, ap, subst, arith}
use Rattle.std.specs.List.{concat}
use Rattle.std.proofs.lemmas.List.{append-nil, append_assoc, length-append}
use Rattle.disk_model.specs.declared.disk.Half.{Half}
use Rattle.disk_model.specs.Image.{Image, half_of, other}
use Rattle.vote_journal.specs.Text.{HasBytes, blocks, is_some_entry, half_entries, live_entries, text_of, size_bytes, SaysOnly, SaysMaybe, HoldsEntries, Agree}
use Rattle.vote_journal.specs.Steps.{MayGain, IsFoundIn}
use Rattle.vote_journal.proofs.Blocks.{holds_has}
use Rattle.vote_journal.proofs.Images.{image_says, fewer}
use Rattle.vote_journal.proofs.Alone.{live_alone}

pub concat_more : (es : List (List ℕ)) (p : List ℕ) → concat (es ++ p ∷ []) ≡ concat es ++ p
concat_more [] p = append-nil p
concat_more (e ∷ es) p = ap (λ (xs : List ℕ). e ++ xs) (concat_more es p) ∙ sym (append_assoc e (concat es) p)

-- entries beside none
pub alone : (es : List (List ℕ)) → Agree es [] (concat es)
alone [] = record { first = λ _. refl; second = λ h. absurd (cc); none = λ _ _. refl }
alone (e ∷ es) = record { first = λ _. refl; second = λ h. absurd (cc); none = λ h _. absurd (cc) }

-- entries beside one of all their payloads
pub beside_all : (es : List (List ℕ)) (text : List ℕ) → text ≡ concat es → is_some_entry es ≡ true → Agree es (text ∷ []) (concat es)
beside_all es text t some = record { first = λ _. refl; second = λ _. append-nil text ∙ t; none = λ h _. absurd (cc (some, h)) }

pub alone_few : (es : List (List ℕ)) → fewer es [] ≤ length es
alone_few [] = omega arith
alone_few (e ∷ es) = omega arith

pub beside_few : (es fs : List (List ℕ)) → is_some_entry es ≡ true → fewer es fs ≤ length es
beside_few [] fs some = absurd (cc)
beside_few (e ∷ es) [] some = omega arith
beside_few (e ∷ es) (f ∷ fs) some = omega arith

pub held_says : (half : Half) (image : Image) (es fs : List (List ℕ)) (text : List ℕ) (most : ℕ) → HoldsEntries (half_of half image) es
    → HoldsEntries (half_of (other half) image) fs → Agree es fs text → fewer es fs ≤ most → SaysOnly text most image
held_says half image es fs text most a b agree few =
    image_says half image es fs text most (holds_has (half_of half image) es a) (holds_has (half_of (other half) image) fs b) agree few

-- the text of a journal that may be used
pub text_is : (half : Half) (image : Image) (es : List (List ℕ)) → HoldsEntries (half_of half image) es → HoldsEntries (half_of (other half) image) []
    → text_of image ≡ concat es
text_is half image es a b = (held_says half image es [] (concat es) (length es) a b (alone es) (alone_few es)).says

pub gain_says : (half : Half) (image c : Image) (es : List (List ℕ)) (payload : List ℕ) → HoldsEntries (half_of half image) es
    → HoldsEntries (half_of (other half) image) [] → MayGain half es payload (half_of (other half) image) c
    → SaysMaybe (text_of image) payload (length (live_entries image) + 1) c
gain_says half image c es payload a b may =
    let spare : HoldsEntries (half_of (other half) c) [] = subst (λ (bytes : List ℕ). HoldsEntries bytes []) (sym may.there) b in
    let was = text_is half image es a b in
    let had = ap length (live_alone half image es a b) in
    let more_es = es ++ payload ∷ [] in
    ⊎_elim
    (λ same. let s = held_says half c es [] (concat es) (length es) same spare (alone es) (alone_few es) in
    record { sound = s.sound; says = inl (s.says ∙ sym was); few = omega (arith, s.few, had) })
    (λ more. let s = held_says half c more_es [] (concat more_es) (length more_es) more spare (alone more_es) (alone_few more_es) in
    record {
      sound = s.sound;
      says = inr (s.says ∙ concat_more es payload ∙ ap (λ (xs : List ℕ). xs ++ payload) (sym was));
      few = omega (arith, s.few, had, length-append es (payload ∷ []));
    })
    may.here

length-blocks_more : (es : List (List ℕ)) (p : List ℕ) → length (blocks (es ++ p ∷ [])) ≡ length (blocks es) + (5 + length p)
length-blocks_more [] p = omega (arith, length-append p [])
length-blocks_more (e ∷ es) p = omega (arith, length-blocks_more es p, length-append e (blocks es), length-append e (blocks (es ++ p ∷ [])))

-- a journal whose live half has one entry more
module _ (old new es : List (List ℕ)) (payload framed : List ℕ) (has : new ≡ es ++ payload ∷ []) (was : old ≡ es) where
  pub gate_more : (gate gate' n : ℕ) → gate ≡ 8 + length (blocks old) → framed ≡ size_bytes (length payload) ++ (payload ++ 0 ∷ [])
      → gate' ≡ gate + length framed → gate' ≡ 8 + length (blocks new)
  gate_more gate gate' n g f e =
      let a = ap (λ (xs : List (List ℕ)). length (blocks xs)) has in
      let b = ap (λ (xs : List (List ℕ)). length (blocks xs)) was in
      omega (arith, a, b, g, e, length-blocks_more es payload, ap length f, length-append payload (0 ∷ []))

  pub count_more : (n m : ℕ) → n ≡ min (length old) (2 ^ 32 - 1) → m ≡ min (n + 1) (2 ^ 32 - 1) → m ≡ min (length new) (2 ^ 32 - 1)
  count_more n m h e = omega (arith, h, e, ap length has, ap length was, length-append es (payload ∷ []))

  pub bytes_more : (n m : ℕ) → n ≡ min (length (concat old)) (2 ^ 64 - 1) → m ≡ min (n + length payload) (2 ^ 64 - 1)
      → m ≡ min (length (concat new)) (2 ^ 64 - 1)
  bytes_more n m h e =
      let a = ap (λ (xs : List (List ℕ)). length (concat xs)) has in
      let b = ap (λ (xs : List (List ℕ)). length (concat xs)) was in
      omega (arith, h, e, a, b, ap length (concat_more es payload), length-append (concat es) payload)

pub seen_maybe : (half : Half) (image c : Image) (es : List (List ℕ)) (payload : List ℕ) → HoldsEntries (half_of half image) es
    → HoldsEntries (half_of (other half) image) [] → c ≡ image
    → SaysMaybe (text_of image) payload (length (live_entries image) + 1) c
seen_maybe half image c es payload a b is =
    subst (λ (i : Image). SaysMaybe (text_of image) payload (length (live_entries image) + 1) i) (sym is) (gain_says half image image es payload a b (record { here = inl a; there = refl }))

-- what was found in a copy of a half was found in it
pub found_in : (copy half : List ℕ) (entries : List (List ℕ)) (gate bytes len : ℕ) → copy ≡ half → HasBytes copy → entries ≡ half_entries copy
    → gate ≡ length (blocks (half_entries copy)) → bytes ≡ length (concat (half_entries copy)) → 8 + gate < 2 ^ 63
    → len ≡ length half → IsFoundIn half entries gate bytes (nat_le len 9)
found_in copy half entries gate bytes len same are e g b small l = record {
  are_bytes = subst HasBytes same are;
  is = e ∙ ap half_entries same;
  ends = g ∙ ap (λ (xs : List ℕ). length (blocks (half_entries xs))) same;
  total = b ∙ ap (λ (xs : List ℕ). length (concat (half_entries xs))) same;
  small = small;
  is_short = ap (λ (n : ℕ). nat_le n 9) l;
}
