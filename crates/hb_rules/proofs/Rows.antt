-- Slots of all epochs: what one hearing makes owed is what it makes owed in its epoch.
use Rattle.std.proofs.Common.{◌≡◌, ℕ, zero, suc, ◌<◌, ◌≤◌, Bool, true, false, inl, inr, List, [], ◌∷◌, ◌++◌, refl, sym, ap, ◌∙◌, append_assoc, append-nil, arith}
use Rattle.std.specs.List.{list_all, filter, AllByRecursion}
use Rattle.std.proofs.lemmas.Bool.{and_from, cases_eq}
use Rattle.std.proofs.lemmas.List.Elements.{filter-append}
use Rattle.std.proofs.lemmas.List.Folds.{list_all-append}
use Rattle.hb_rules.specs.Slots.{Slot, pass, passes, IsIdle, IsOwed, each, by_rows, of_epoch, IsPart, AreRows}
use Rattle.hb_rules.specs.Turns.{IsPlain}
use Rattle.hb_rules.proofs.Lists.{filter_none, AllByRecursion-append, AllByRecursion-each, AllByRecursion-weaker}
use Rattle.hb_rules.proofs.Passing.{pass-append, idle_both, idle_parts, IsOwed-plain}
use Rattle.hb_rules.proofs.Within.{IsPart-wider, pass-same, pass-made}

-- ---- rows and the slots of one epoch

pub of_epoch-append : {V H : Type 0} (e : ℕ) (rows more : List (ℕ → List (Slot V H))) → of_epoch e (rows ++ more) ≡ of_epoch e rows ++ of_epoch e more
of_epoch-append e [] more = refl
of_epoch-append {V} {H} e (row ∷ rows) more =
    ap (λ (slots : List (Slot V H)). row e ++ slots) (of_epoch-append e rows more)
    ∙ sym (append_assoc (row e) (of_epoch e rows) (of_epoch e more))

pub by_rows-all : {V H : Type 0} (P : Slot V H → Type 0) (n : ℕ) (rows : List (ℕ → List (Slot V H)))
    → AllByRecursion (λ row. (k : ℕ) → k < n → AllByRecursion P (row k)) rows → AllByRecursion P (by_rows n rows)
by_rows-all P n [] all = tt
by_rows-all P n (row ∷ rows) all =
    AllByRecursion-append P (each n row) (by_rows n rows) (AllByRecursion-each P n row all.0) (by_rows-all P n rows all.1)

-- what holds of the slots of each epoch holds of those of one, and of all
pub of_epoch-hold : {V H : Type 0} (P : ℕ → Slot V H → Type 0) (e : ℕ) (rows : List (ℕ → List (Slot V H)))
    → AllByRecursion (λ row. (k : ℕ) → AllByRecursion (P k) (row k)) rows → AllByRecursion (P e) (of_epoch e rows)
of_epoch-hold P e [] all = tt
of_epoch-hold P e (row ∷ rows) all = AllByRecursion-append (P e) (row e) (of_epoch e rows) (all.0 e) (of_epoch-hold P e rows all.1)

pub by_rows-hold : {V H : Type 0} (P : Slot V H → Type 0) (n : ℕ) (rows : List (ℕ → List (Slot V H)))
    → AllByRecursion (λ row. (k : ℕ) → AllByRecursion P (row k)) rows → AllByRecursion P (by_rows n rows)
by_rows-hold P n rows all =
    by_rows-all P n rows
    (AllByRecursion-weaker (λ row. (k : ℕ) → AllByRecursion P (row k)) (λ row. (k : ℕ) → k < n → AllByRecursion P (row k)) rows
    (λ row holds k below. holds k) all)

-- rows that look at a part of each epoch look at any wider part
pub AreRows-wider : {V H : Type 0} (reads wide : ℕ → V → Bool) (hears loud : ℕ → H → Bool) (makes more : ℕ → V → Bool) (rows : List (ℕ → List (Slot V H)))
    → ((k : ℕ) (v : V) → reads k v ≡ true → wide k v ≡ true) → ((k : ℕ) (h : H) → hears k h ≡ true → loud k h ≡ true)
    → ((k : ℕ) (v : V) → makes k v ≡ true → more k v ≡ true) → AreRows reads hears makes rows → AreRows wide loud more rows
AreRows-wider reads wide hears loud makes more [] read heard_too made parts = tt
AreRows-wider reads wide hears loud makes more (row ∷ rows) read heard_too made parts = (
  λ k. AllByRecursion-weaker (IsPart (reads k) (hears k) (makes k)) (IsPart (wide k) (loud k) (more k)) (row k)
      (λ slot part. IsPart-wider (reads k) (wide k) (hears k) (loud k) (makes k) (more k) slot (read k) (heard_too k) (made k) part) (parts.0 k),
  AreRows-wider reads wide hears loud makes more rows read heard_too made parts.1,
)

-- ---- where nothing is owed, no epoch owes anything

idle_each : {V H : Type 0} (n : ℕ) (row : ℕ → List (Slot V H)) (own : List V) (heard : List H) → IsIdle (each n row) own heard → (k : ℕ) → k < n
    → IsIdle (row k) own heard
idle_each zero row own heard idle k below = absurd (omega arith)
idle_each (suc n) row own heard idle k below =
    let parts = idle_parts (each n row) (row n) own heard idle in
    elim (cases_eq k n) [
      | inl same ↦ ap (λ (m : ℕ). pass (row m) own heard) same ∙ parts.1
      | inr other ↦ idle_each n row own heard parts.0 k (not_last k n below other)
    ]
  where
    not_last : (k n : ℕ) → k < suc n → (k ≡ n → ⊥) → k < n
    not_last k n below other = omega arith

pub idle-rows : {V H : Type 0} (n : ℕ) (rows : List (ℕ → List (Slot V H))) (own : List V) (heard : List H) → IsIdle (by_rows n rows) own heard
    → (k : ℕ) → k < n → AllByRecursion (λ row. IsIdle (row k) own heard) rows
idle-rows n [] own heard idle k below = tt
idle-rows n (row ∷ rows) own heard idle k below =
    let parts = idle_parts (each n row) (by_rows n rows) own heard idle in
    (idle_each n row own heard parts.0 k below, idle-rows n rows own heard parts.1 k below)

idle_of : {V H : Type 0} (k : ℕ) (rows : List (ℕ → List (Slot V H))) (own : List V) (heard : List H)
    → AllByRecursion (λ row. IsIdle (row k) own heard) rows
    → IsIdle (of_epoch k rows) own heard
idle_of k [] own heard idle = refl
idle_of k (row ∷ rows) own heard idle = idle_both (row k) (of_epoch k rows) own heard idle.0 (idle_of k rows own heard idle.1)

pub idle-epoch : {V H : Type 0} (n : ℕ) (rows : List (ℕ → List (Slot V H))) (own : List V) (heard : List H) → IsIdle (by_rows n rows) own heard
    → (k : ℕ) → k < n → IsIdle (of_epoch k rows) own heard
idle-epoch n rows own heard idle k below = idle_of k rows own heard (idle-rows n rows own heard idle k below)

-- ---- a row in which the other epochs owe nothing, whatever votes of this epoch follow

pub record IsQuietBut {V H : Type 0} (made : V → Bool) (n e : ℕ) (own : List V) (heard : List H) (row : ℕ → List (Slot V H)) : Type 0 where
  pub others : (k : ℕ) → k < n → (k ≡ e → ⊥) → (more : List V) → list_all made more ≡ true → IsIdle (row k) (own ++ more) heard
  pub here : (own : List V) → list_all made (pass (row e) own heard) ≡ true

all_more : {V : Type 0} (made : V → Bool) (xs ys : List V) → list_all made xs ≡ true → list_all made ys ≡ true → list_all made (xs ++ ys) ≡ true
all_more made xs ys one two = list_all-append made xs ys ∙ and_from (list_all made xs) (list_all made ys) one two

-- with no votes of this epoch cast yet, and more of them from then on
quiet_more : {V H : Type 0} (made : V → Bool) (n e : ℕ) (own more : List V) (heard : List H) (row : ℕ → List (Slot V H)) → list_all made more ≡ true
    → IsQuietBut made n e own heard row → IsQuietBut made n e (own ++ more) heard row
quiet_more {V} made n e own more heard row all quiet = record {
  others = λ k below other later passes.
      ap (λ (own : List V). pass (row k) own heard) (append_assoc own more later)
      ∙ quiet.others k below other (more ++ later) (all_more made more later all passes);
  here = quiet.here;
}

quiet_fewer : {V H : Type 0} (made : V → Bool) (n m e : ℕ) (own : List V) (heard : List H) (row : ℕ → List (Slot V H)) → m ≤ n
    → IsQuietBut made n e own heard row → IsQuietBut made m e own heard row
quiet_fewer made n m e own heard row le quiet = record {
  others = λ k below other more passes. quiet.others k (omega arith) other more passes;
  here = quiet.here;
}

quiet_rest : {V H : Type 0} (made : V → Bool) (n e : ℕ) (own : List V) (heard : List H) (row : ℕ → List (Slot V H))
    → IsQuietBut made n e own heard row
    → (k : ℕ) → k < n → (k ≡ e → ⊥) → IsIdle (row k) own heard
quiet_rest {V} made n e own heard row quiet k below other =
    ap (λ (own : List V). pass (row k) own heard) (sym (append-nil own)) ∙ quiet.others k below other [] refl

-- epochs below this one
each_idle : {V H : Type 0} (k : ℕ) (row : ℕ → List (Slot V H)) (own : List V) (heard : List H) → ((j : ℕ) → j < k → IsIdle (row j) own heard)
    → IsIdle (each k row) own heard
each_idle zero row own heard idle = refl
each_idle (suc k) row own heard idle =
    idle_both (each k row) (row k) own heard (each_idle k row own heard (λ j below. idle j (omega arith))) (idle k (omega arith))

pub pass-each : {V H : Type 0} (made : V → Bool) (k e : ℕ) (own : List V) (heard : List H) (row : ℕ → List (Slot V H)) → e < k
    → IsQuietBut made k e own heard row
    → pass (each k row) own heard ≡ pass (row e) own heard
pass-each made zero e own heard row below quiet = absurd (omega arith)
pass-each {V} {H} made (suc k) e own heard row below quiet =
    pass-append (each k row) (row k) own heard
    ∙ elim (cases_eq e k) [
      | inl same ↦
          ap (λ (votes : List V). votes ++ pass (row k) (own ++ votes) heard)
          (each_idle k row own heard (λ j less. quiet_rest made (suc k) e own heard row quiet j (omega arith) (below_other j k e less same)))
          ∙ ap (λ (own : List V). pass (row k) own heard) (append-nil own)
          ∙ ap (λ (m : ℕ). pass (row m) own heard) (sym same)
      | inr other ↦
          let here : List V = pass (row e) own heard in
          ap (λ (votes : List V). votes ++ pass (row k) (own ++ votes) heard)
          (pass-each made k e own heard row (not_last e k below other) (quiet_fewer made (suc k) k e own heard row (omega arith) quiet))
          ∙ ap (λ (votes : List V). here ++ votes) (quiet.others k (omega arith) (λ same. other (sym same)) here (quiet.here own))
          ∙ append-nil here
    ]
  where
    below_other : (j k e : ℕ) → j < k → e ≡ k → j ≡ e → ⊥
    below_other j k e less same is = omega arith

    not_last : (k n : ℕ) → k < suc n → (k ≡ n → ⊥) → k < n
    not_last k n below other = omega arith

quiet_all_more : {V H : Type 0} (made : V → Bool) (n e : ℕ) (own more : List V) (heard : List H) (rows : List (ℕ → List (Slot V H)))
    → list_all made more ≡ true
    → AllByRecursion (IsQuietBut made n e own heard) rows → AllByRecursion (IsQuietBut made n e (own ++ more) heard) rows
quiet_all_more made n e own more heard [] all quiet = tt
quiet_all_more made n e own more heard (row ∷ rows) all quiet =
    (quiet_more made n e own more heard row all quiet.0, quiet_all_more made n e own more heard rows all quiet.1)

-- a pass over all epochs is one over this epoch, and makes votes of this epoch
pub pass-rows : {V H : Type 0} (made : V → Bool) (n e : ℕ) (own : List V) (heard : List H) (rows : List (ℕ → List (Slot V H))) → e < n
    → AllByRecursion (IsQuietBut made n e own heard) rows → pass (by_rows n rows) own heard ≡ pass (of_epoch e rows) own heard
pass-rows made n e own heard [] below quiet = refl
pass-rows {V} made n e own heard (row ∷ rows) below quiet =
    let here : List V = pass (row e) own heard in
    pass-append (each n row) (by_rows n rows) own heard
    ∙ ap (λ (votes : List V). votes ++ pass (by_rows n rows) (own ++ votes) heard) (pass-each made n e own heard row below quiet.0)
    ∙ ap (λ (votes : List V). here ++ votes)
    (pass-rows made n e (own ++ here) heard rows below (quiet_all_more made n e own here heard rows (quiet.0.here own) quiet.1))
    ∙ sym (pass-append (row e) (of_epoch e rows) own heard)

epoch_made : {V H : Type 0} (made : V → Bool) (n e : ℕ) (own : List V) (heard : List H) (rows : List (ℕ → List (Slot V H)))
    → AllByRecursion (IsQuietBut made n e own heard) rows → (now : List V) → list_all made (pass (of_epoch e rows) now heard) ≡ true
epoch_made made n e own heard [] quiet now = refl
epoch_made {V} made n e own heard (row ∷ rows) quiet now =
    let here : List V = pass (row e) now heard in
    ap (list_all made) (pass-append (row e) (of_epoch e rows) now heard)
    ∙ all_more made here (pass (of_epoch e rows) (now ++ here) heard) (quiet.0.here now) (epoch_made made n e own heard rows quiet.1 (now ++ here))

pub passes-rows : {V H : Type 0} (made : V → Bool) (n e k : ℕ) (own : List V) (heard : List H) (rows : List (ℕ → List (Slot V H))) → e < n
    → AllByRecursion (IsQuietBut made n e own heard) rows → passes k (by_rows n rows) own heard ≡ passes k (of_epoch e rows) own heard
passes-rows made n e zero own heard rows below quiet = refl
passes-rows {V} made n e (suc k) own heard rows below quiet =
    let here : List V = pass (of_epoch e rows) own heard in
    ap (λ (votes : List V). votes ++ passes k (by_rows n rows) (own ++ votes) heard) (pass-rows made n e own heard rows below quiet)
    ∙ ap (λ (votes : List V). here ++ votes)
    (passes-rows made n e k (own ++ here) heard rows below (quiet_all_more made n e own here heard rows (epoch_made made n e own heard rows quiet own) quiet))

passes_made : {V H : Type 0} (made : V → Bool) (n e k : ℕ) (own : List V) (heard : List H) (rows : List (ℕ → List (Slot V H)))
    → AllByRecursion (IsQuietBut made n e own heard) rows → (now : List V) → list_all made (passes k (of_epoch e rows) now heard) ≡ true
passes_made made n e zero own heard rows quiet now = refl
passes_made {V} made n e (suc k) own heard rows quiet now =
    let here : List V = pass (of_epoch e rows) now heard in
    all_more made here (passes k (of_epoch e rows) (now ++ here) heard) (epoch_made made n e own heard rows quiet now)
    (passes_made made n e k own heard rows quiet (now ++ here))

-- what is owed of this epoch is owed of all
pub owed_of_quiet : {V H : Type 0} (made : V → Bool) (n e : ℕ) (own : List V) (heard : List H) (rows : List (ℕ → List (Slot V H))) (votes : List V)
    → e < n
    → AllByRecursion (IsQuietBut made n e own heard) rows → IsOwed (of_epoch e rows) own heard votes → IsOwed (by_rows n rows) own heard votes
owed_of_quiet made n e own heard rows votes below quiet owed =
    let all : list_all made votes ≡ true = ap (list_all made) (sym owed.gives) ∙ passes_made made n e owed.count own heard rows quiet own in
    record {
      count = owed.count;
      gives = passes-rows made n e owed.count own heard rows below quiet ∙ owed.gives;
      rests = pass-rows made n e (own ++ votes) heard rows below (quiet_all_more made n e own votes heard rows all quiet) ∙ owed.rests;
    }

-- ---- a hearing of one epoch

-- where nothing was owed, and what is heard now is the same for all other epochs, these owe nothing
rows_quiet : {V H : Type 0} (reads : ℕ → V → Bool) (hears : ℕ → H → Bool) (makes : ℕ → V → Bool) (rows : List (ℕ → List (Slot V H)))
    → AreRows reads hears makes rows
    → ((j k : ℕ) (v : V) → (j ≡ k → ⊥) → makes j v ≡ true → reads k v ≡ false)
    → (n e : ℕ) (own : List V) (heard now : List H) → ((k : ℕ) → (k ≡ e → ⊥) → filter (hears k) now ≡ filter (hears k) heard)
    → ((k : ℕ) → k < n → AllByRecursion (λ row. IsIdle (row k) own heard) rows)
    → AllByRecursion (IsQuietBut (makes e) n e own now) rows
rows_quiet reads hears makes [] parts apart n e own heard now same idle = tt
rows_quiet {V} reads hears makes (row ∷ rows) parts apart n e own heard now same idle = (
  record {
    others = λ k below other more all.
        let none : filter (reads k) more ≡ [] = filter_none (makes e) (reads k) (λ v made. apart e k v (λ is. other (sym is)) made) more all in
        pass-same (reads k) (hears k) (makes k) (row k) (parts.0 k) (own ++ more) own now heard
        (filter-append (reads k) own more ∙ ap (λ (votes : List V). filter (reads k) own ++ votes) none ∙ append-nil (filter (reads k) own))
        (same k other)
        ∙ (idle k below).0;
    here = λ own. pass-made (reads e) (hears e) (makes e) (row e) (parts.0 e) own now;
  },
  rows_quiet reads hears makes rows parts.1 apart n e own heard now same (λ k below. (idle k below).1),
)

pub owed_of_epoch : {V H : Type 0} (reads : ℕ → V → Bool) (hears : ℕ → H → Bool) (makes : ℕ → V → Bool) (rows : List (ℕ → List (Slot V H)))
    → AreRows reads hears makes rows
    → ((j k : ℕ) (v : V) → (j ≡ k → ⊥) → makes j v ≡ true → reads k v ≡ false)
    → (n e : ℕ) (own : List V) (heard now : List H) (votes : List V) → e < n → ((k : ℕ) → (k ≡ e → ⊥) → filter (hears k) now ≡ filter (hears k) heard)
    → IsIdle (by_rows n rows) own heard → IsOwed (of_epoch e rows) own now votes → IsOwed (by_rows n rows) own now votes
owed_of_epoch reads hears makes rows parts apart n e own heard now votes below same idle owed =
    owed_of_quiet (makes e) n e own now rows votes below
    (rows_quiet reads hears makes rows parts apart n e own heard now same (idle-rows n rows own heard idle)) owed

pub not_heard : {H : Type 0} (hears : H → Bool) (heard : List H) (h : H) → hears h ≡ false → filter hears (heard ++ h ∷ []) ≡ filter hears heard
not_heard {H} hears heard h deaf =
    filter-append hears heard (h ∷ []) ∙ rw deaf (append-nil (filter hears heard))

pub owed_by_epoch : {V H : Type 0} (reads : ℕ → V → Bool) (hears : ℕ → H → Bool) (makes : ℕ → V → Bool) (rows : List (ℕ → List (Slot V H)))
    → AreRows reads hears makes rows
    → ((j k : ℕ) (v : V) → (j ≡ k → ⊥) → makes j v ≡ true → reads k v ≡ false)
    → (n e : ℕ) (own : List V) (heard : List H) (h : H) (votes : List V) → e < n → ((k : ℕ) → (k ≡ e → ⊥) → hears k h ≡ false)
    → IsIdle (by_rows n rows) own heard → IsOwed (of_epoch e rows) own (heard ++ h ∷ []) votes → IsOwed (by_rows n rows) own (heard ++ h ∷ []) votes
owed_by_epoch reads hears makes rows parts apart n e own heard h votes below deaf idle owed =
    owed_of_epoch reads hears makes rows parts apart n e own heard (heard ++ h ∷ []) votes below
    (λ k other. not_heard (hears k) heard h (deaf k other)) idle owed

-- the same for two parts, of which the first is plain
pub owed_by_both : {V H : Type 0} (reads : ℕ → V → Bool) (hears : ℕ → H → Bool) (makes : ℕ → V → Bool) (first second : List (ℕ → List (Slot V H)))
    → AreRows reads hears makes (first ++ second) → AllByRecursion (λ row. (k : ℕ) → AllByRecursion IsPlain (row k)) first
    → ((j k : ℕ) (v : V) → (j ≡ k → ⊥) → makes j v ≡ true → reads k v ≡ false)
    → (n e : ℕ) (own : List V) (heard : List H) (h : H) (votes : List V) → e < n → ((k : ℕ) → (k ≡ e → ⊥) → hears k h ≡ false)
    → IsIdle (by_rows n (first ++ second)) own heard
    → IsOwed (of_epoch e second) (own ++ pass (of_epoch e first) own (heard ++ h ∷ [])) (heard ++ h ∷ []) votes
    → IsOwed (by_rows n (first ++ second)) own (heard ++ h ∷ []) (pass (of_epoch e first) own (heard ++ h ∷ []) ++ votes)
owed_by_both {V} {H} reads hears makes first second parts plain apart n e own heard h votes below deaf idle owed =
    let now : List H = heard ++ h ∷ [] in
    let both : IsOwed (of_epoch e first ++ of_epoch e second) own now (pass (of_epoch e first) own now ++ votes) =
    IsOwed-plain (of_epoch e first) (of_epoch e second) own now votes (of_epoch-hold (λ k. IsPlain) e first plain) owed in
    owed_by_epoch reads hears makes (first ++ second) parts apart n e own heard h (pass (of_epoch e first) own now ++ votes) below deaf idle
    (rw (of_epoch-append e first second) both)
