-- What a fold reads, and what it leaves at each of its calls.
use Rattle.std.proofs.Common.{◌≡◌, ◌≤◌, ◌+◌, inl, inr, ⊎_elim, ℕ, true, List, [], ◌∷◌, ◌++◌, length, take, drop, refl, sym, ◌∙◌, ap, subst, arith}
use Rattle.std.specs.List.{concat}
use Rattle.std.proofs.lemmas.List.{append_assoc, append-nil, length-append, take_at, drop_all}
use Rattle.disk_model.specs.declared.disk.Half.{Half}
use Rattle.disk_model.specs.declared.disk.Half.TheVariants.{A, B}
use Rattle.disk_model.specs.Image.{Image, half_of, other, with_half}
use Rattle.disk_model.specs.Disk.{Reads, overwritten}
use Rattle.vote_journal.specs.Text.{magic, blocks, entries_in, half_entries, live_entries, is_some_entry, text_of, HoldsEntries, SaysOnly}
use Rattle.vote_journal.specs.Steps.{MayGain, MayLose, MayShut, Folded}
use Rattle.vote_journal.proofs.Blocks.{holds_has, held_in, length-blocks}
use Rattle.vote_journal.proofs.Says.{held_says, text_is, alone, alone_few, beside_all, beside_few}
use Rattle.vote_journal.proofs.Alone.{live_alone}
use Rattle.vote_journal.proofs.Tears.{gate_shut, cut_done, length-cut}
use Rattle.vote_journal.proofs.Gains.{half_with, other_with, loses_first, loses_second}

-- the bytes of a half up to its closed gate
pub read_entries : (half before after rest : List ℕ) (entries : List (List ℕ)) (n : ℕ) → HoldsEntries half entries
    → length before ≡ 9 + length (blocks entries) → Reads half 0 before after n → rest ≡ drop 8 after
    → entries_in (length rest) rest ≡ entries
read_entries half before after rest entries n holds room reads behind =
    let gate : List ℕ = holds.gate ∷ [] in
    let front : List ℕ = magic ++ (blocks entries ++ gate) in
    let whole : half ≡ front ++ holds.tail =
    holds.is ∙ ap (λ (xs : List ℕ). magic ++ xs) (sym (append_assoc (blocks entries) gate holds.tail))
    ∙ sym (append_assoc magic (blocks entries ++ gate) holds.tail) in
    let long : length front ≡ 9 + length (blocks entries) = omega (arith, length-append magic (blocks entries ++ gate), length-append (blocks entries) gate) in
    let all : length half ≡ length front + length holds.tail = ap length whole ∙ length-append front holds.tail in
    let count : n ≡ length front = omega (arith, reads.count, room, long, all) in
    let is : after ≡ front =
    reads.is ∙ ap (λ (k : ℕ). take k half ++ drop k before) count
    ∙ ap (λ (xs : List ℕ). take (length front) half ++ xs) (drop_all (length front) before (omega (arith, room, long)))
    ∙ append-nil (take (length front) half) ∙ ap (take (length front)) whole ∙ take_at front holds.tail (length front) refl in
    let rest_is : rest ≡ blocks entries ++ gate = behind ∙ ap (drop 8) is in
    let enough : length entries ≤ length (blocks entries ++ gate) = omega (arith, length-blocks entries, length-append (blocks entries) gate) in
    ap (λ (xs : List ℕ). entries_in (length xs) xs) rest_is ∙ held_in entries holds.gate [] (length (blocks entries ++ gate)) holds.closed enough

-- a half with no entry has those that it has
pub none_held : (half : List ℕ) → HoldsEntries half [] → HoldsEntries half (half_entries half)
none_held half holds = subst (λ (es : List (List ℕ)). HoldsEntries half es) (sym (holds_has half [] holds).has) holds

pub none_gate : (half : List ℕ) → HoldsEntries half [] → 8 ≡ 8 + length (blocks (half_entries half))
none_gate half holds = omega (arith, ap (λ (es : List (List ℕ)). length (blocks es)) (holds_has half [] holds).has)

pub folds_here : (live : Half) (image c : Image) (es : List (List ℕ)) → HoldsEntries (half_of live image) es → HoldsEntries (half_of (other live) image) []
    → c ≡ image → SaysOnly (text_of image) (length (live_entries image)) c
folds_here live image c es a b is =
    let s = held_says live image es [] (concat es) (length es) a b (alone es) (alone_few es) in
    subst (λ (i : Image). SaysOnly (text_of image) (length (live_entries image)) i) (sym is)
    (record { sound = s.sound; says = refl; few = omega arith })

other_twice : (half : Half) → other (other half) ≡ half
other_twice A = refl
other_twice B = refl

-- while the one entry is put into the other half
pub fold_gain : (live spare : Half) (image c : Image) (es : List (List ℕ)) (text : List ℕ) → spare ≡ other live → HoldsEntries (half_of live image) es
    → HoldsEntries (half_of spare image) [] → text ≡ concat es → is_some_entry es ≡ true
    → MayGain spare (half_entries (half_of spare image)) text (half_of (other spare) image) c
    → SaysOnly (text_of image) (length (live_entries image)) c
fold_gain live spare image c es text e a b t some may =
    let none : half_entries (half_of spare image) ≡ [] = (holds_has (half_of spare image) [] b).has in
    let back : other spare ≡ live = ap other e ∙ other_twice live in
    let there : half_of live c ≡ half_of live image = subst (λ (h : Half). half_of h c ≡ half_of h image) back may.there in
    let lives : HoldsEntries (half_of live c) es = subst (λ (xs : List ℕ). HoldsEntries xs es) (sym there) a in
    let none_there = subst (λ (h : Half). HoldsEntries (half_of h image) []) e b in
    let was : text_of image ≡ concat es = text_is live image es a none_there in
    let many = ap length (live_alone live image es a none_there) in
    let most : ℕ = length (live_entries image) in
    let P : List ℕ → Type 0 = λ xs. SaysOnly xs most c in
    subst P (sym was) (⊎_elim
    (λ same. held_says live c es [] (concat es) most lives
    (subst (λ (h : Half). HoldsEntries (half_of h c) []) e (subst (λ (xs : List (List ℕ)). HoldsEntries (half_of spare c) xs) none same)) (alone es)
    (omega (arith, alone_few es, many)))
    (λ more. held_says live c es (text ∷ []) (concat es) most lives
    (subst (λ (h : Half). HoldsEntries (half_of h c) (text ∷ [])) e
    (subst (λ (xs : List (List ℕ)). HoldsEntries (half_of spare c) (xs ++ text ∷ [])) none more)) (beside_all es text t some)
    (omega (arith, beside_few es (text ∷ []) some, many)))
    may.here)

some_long : (es : List (List ℕ)) → is_some_entry es ≡ true → 1 ≤ length es
some_long [] some = absurd (cc)
some_long (e ∷ es) some = omega arith

-- and while the old ones are given up
module _ (live spare : Half) (image mid : Image) (es : List (List ℕ)) (text : List ℕ) (e : spare ≡ other live) (a : HoldsEntries (half_of live image) es)
    (b : HoldsEntries (half_of spare image) []) (t : text ≡ concat es)
    (some : is_some_entry es ≡ true) (added : HoldsEntries (half_of spare mid) (half_entries (half_of spare image) ++ text ∷ []))
    (kept : half_of (other spare) mid ≡ half_of (other spare) image) where
  one : HoldsEntries (half_of (other live) mid) (text ∷ [])
  one = subst (λ (h : Half). HoldsEntries (half_of h mid) (text ∷ [])) e
      (subst (λ (xs : List (List ℕ)). HoldsEntries (half_of spare mid) (xs ++ text ∷ [])) (holds_has (half_of spare image) [] b).has added)

  still : HoldsEntries (half_of live mid) es
  still = subst (λ (xs : List ℕ). HoldsEntries xs es) (sym (subst (λ (h : Half). half_of h mid ≡ half_of h image) (ap other e ∙ other_twice live) kept)) a

  was : text_of image ≡ concat es
  was = text_is live image es a (subst (λ (h : Half). HoldsEntries (half_of h image) []) e b)

  many : length es ≤ length (live_entries image)
  many = omega (arith, ap length (live_alone live image es a (subst (λ (h : Half). HoldsEntries (half_of h image) []) e b)))

  lose : (c : Image) → MayLose live es (half_of (other live) mid) c → SaysOnly (text_of image) (length (live_entries image)) c
  lose c may =
      let there : HoldsEntries (half_of (other live) c) (text ∷ []) = subst (λ (xs : List ℕ). HoldsEntries xs (text ∷ [])) (sym may.there) one in
      let P : List ℕ → Type 0 = λ xs. SaysOnly xs (length (live_entries image)) c in
      subst P (sym was) (⊎_elim
      (λ same. held_says live c es (text ∷ []) (concat es) (length (live_entries image)) same there (beside_all es text t some)
      (omega (arith, beside_few es (text ∷ []) some, many)))
      (λ gone. held_says live c [] (text ∷ []) (concat es) (length (live_entries image)) gone there
      (record { first = λ h. absurd (cc); second = λ _. append-nil text ∙ t; none = λ h k. absurd (cc) })
      (omega (arith, some_long es some, many)))
      may.here)

  pub fold_lose : (c : Image) → MayShut live mid c → SaysOnly (text_of image) (length (live_entries image)) c
  fold_lose c (inl torn) = lose c (loses_first live mid c es still some torn)
  fold_lose c (inr cut) = lose c (loses_second live mid (with_half live (overwritten 8 (0 ∷ []) (half_of live mid)) mid) es still refl c cut)

  pub folded : (new : Image) → new ≡ with_half live (take 9 (overwritten 8 (0 ∷ []) (half_of live mid))) mid → Folded live text new
  folded new shut =
      let bytes = take 9 (overwritten 8 (0 ∷ []) (half_of live mid)) in
      subst (λ (i : Image). Folded live text i) (sym shut) (record {
        one = subst (λ (xs : List ℕ). HoldsEntries xs (text ∷ [])) (sym (other_with live bytes mid)) one;
        gone = subst (λ (xs : List ℕ). HoldsEntries xs []) (sym (half_with live bytes mid))
            (cut_done (overwritten 8 (0 ∷ []) (half_of live mid)) (gate_shut (half_of live mid) es still));
        cut = ap length (half_with live bytes mid) ∙ length-cut (overwritten 8 (0 ∷ []) (half_of live mid)) (gate_shut (half_of live mid) es still);
      })

-- the half that is live then
pub record FoldOpens (spare : Half) (new : Image) (text : List ℕ) : Type 0 where
  pub live : HoldsEntries (half_of spare new) (half_entries (half_of spare new))
  pub spare_none : HoldsEntries (half_of (other spare) new) []
  pub same : half_entries (half_of spare new) ≡ text ∷ []
  pub cut : length (half_of (other spare) new) ≡ 9

pub fold_opens : (live spare : Half) (new : Image) (text : List ℕ) → spare ≡ other live → Folded live text new → FoldOpens spare new text
fold_opens live spare new text e folded =
    let has : half_entries (half_of (other live) new) ≡ text ∷ [] = (holds_has (half_of (other live) new) (text ∷ []) folded.one).has in
    subst (λ (h : Half). FoldOpens h new text) (sym e) (record {
      live = subst (λ (es : List (List ℕ)). HoldsEntries (half_of (other live) new) es) (sym has) folded.one;
      spare_none = subst (λ (h : Half). HoldsEntries (half_of h new) []) (sym (other_twice live)) folded.gone;
      same = has;
      cut = subst (λ (h : Half). length (half_of h new) ≡ 9) (sym (other_twice live)) folded.cut;
    })
