-- Going through slots: what is owed, that one list is owed, and that nothing is owed after it.
use Rattle.std.proofs.Common.{◌≡◌, ℕ, zero, suc, ◌+◌, ◌≤◌, Bool, true, false, List, [], ◌∷◌, ◌++◌, length, Option, None, Some, if◌then◌else◌, refl, sym, ap, ◌∙◌, append_assoc, append-nil, length-append, subst, arith}
use Rattle.std.specs.List.{AllByRecursion}
use Rattle.std.specs.Option.{option_to_list}
use Rattle.hb_rules.specs.Slots.{Slot, owes, pass, passes, IsIdle, IsOwed, owed, IsGuarded, IsForgetful}
use Rattle.hb_rules.specs.Turns.{IsPlain, InTurn, IsAllowedBy}
use Rattle.hb_rules.proofs.Lists.{AllByRecursion-append}

-- ---- slots one after the other

pub pass-append : {V H : Type 0} (slots more : List (Slot V H)) (own : List V) (heard : List H)
    → pass (slots ++ more) own heard ≡ pass slots own heard ++ pass more (own ++ pass slots own heard) heard
pass-append [] more own heard = ap (λ own. pass more own heard) (sym (append-nil own))
pass-append {V} {H} (slot ∷ slots) more own heard =
    let here : List V = owes slot own heard in
    let rest : List V = pass slots (own ++ here) heard in
    ap (λ (votes : List V). here ++ votes) (pass-append slots more (own ++ here) heard)
    ∙ sym (append_assoc here rest (pass more ((own ++ here) ++ rest) heard))
    ∙ ap (λ (before : List V). (here ++ rest) ++ pass more before heard) (append_assoc own here rest)

-- a slot makes nothing owed
pub record IsSettledAt {V H : Type 0} (slot : Slot V H) (own : List V) (heard : List H) : Type 0 where
  pub none : owes slot own heard ≡ []

pub settled_if_cast : {V H : Type 0} (slot : Slot V H) (own : List V) (heard : List H) → slot.is_cast own ≡ true → IsSettledAt slot own heard
settled_if_cast slot own heard cast = record { none = rw cast refl }

none_owed : {V : Type 0} (b : Bool) (o : Option V) → o ≡ None → (if b then [] else option_to_list o) ≡ []
none_owed true o none = refl
none_owed false o none = rw none refl

pub settled_if_none : {V H : Type 0} (slot : Slot V H) (own : List V) (heard : List H) → slot.choice own heard ≡ None → IsSettledAt slot own heard
settled_if_none slot own heard no_choice = record { none = none_owed (slot.is_cast own) (slot.choice own heard) no_choice }

-- either it is filled or it has no choice
pub settled_parts : {V H : Type 0} (slot : Slot V H) (own : List V) (heard : List H) → IsSettledAt slot own heard
    → (P : Type 0) → (slot.is_cast own ≡ true → P) → (slot.choice own heard ≡ None → P) → P
settled_parts {V} {H} slot own heard settled P cast no_choice = by (slot.is_cast own) (slot.choice own heard) refl refl settled.none
  where
    by : (b : Bool) (o : Option V) → slot.is_cast own ≡ b → slot.choice own heard ≡ o → (if b then [] else option_to_list o) ≡ [] → P
    by true o is_cast is_choice h = cast is_cast
    by false None is_cast is_choice h = no_choice is_choice
    by false (Some v) is_cast is_choice h = absurd (cc (h))

-- a slot's vote, if it makes one owed: it is filled, or it has no choice, or it has one
pub owes_cases : {V H : Type 0} (slot : Slot V H) (own : List V) (heard : List H) (P : List V → Type 0)
    → (slot.is_cast own ≡ true → P [])
    → (slot.is_cast own ≡ false → slot.choice own heard ≡ None → P [])
    → ((vote : V) → slot.is_cast own ≡ false → slot.choice own heard ≡ Some vote → P (vote ∷ []))
    → P (owes slot own heard)
owes_cases {V} {H} slot own heard P cast none some = by (slot.is_cast own) (slot.choice own heard) refl refl
  where
    by : (b : Bool) (o : Option V) → slot.is_cast own ≡ b → slot.choice own heard ≡ o → P (if b then [] else option_to_list o)
    by true o is_cast is_choice = cast is_cast
    by false None is_cast is_choice = none is_cast is_choice
    by false (Some v) is_cast is_choice = some v is_cast is_choice

-- settled slots make nothing owed
pub pass_settled : {V H : Type 0} (slots : List (Slot V H)) (own : List V) (heard : List H)
    → AllByRecursion (λ slot. IsSettledAt slot own heard) slots → IsIdle slots own heard
pass_settled [] own heard settled = refl
pass_settled (slot ∷ slots) own heard settled =
    rw settled.0.none (rw append-nil (pass_settled slots own heard settled.1))

-- the converse
pub settled_idle : {V H : Type 0} (slots : List (Slot V H)) (own : List V) (heard : List H) → IsIdle slots own heard
    → AllByRecursion (λ slot. IsSettledAt slot own heard) slots
settled_idle [] own heard idle = tt
settled_idle {V} {H} (slot ∷ slots) own heard idle = by (owes slot own heard) refl idle (settled_idle slots own heard)
  where
    by : (votes : List V) → owes slot own heard ≡ votes → votes ++ pass slots (own ++ votes) heard ≡ []
        → (IsIdle slots own heard → AllByRecursion (λ slot. IsSettledAt slot own heard) slots)
        → AllByRecursion (λ slot. IsSettledAt slot own heard) (slot ∷ slots)
    by [] is h later = (record { none = is }, later (rw append-nil at h))
    by (v ∷ votes) is h later = absurd (cc (h))

-- two lists of slots are idle where each is
pub idle_both : {V H : Type 0} (first second : List (Slot V H)) (own : List V) (heard : List H) → IsIdle first own heard → IsIdle second own heard
    → IsIdle (first ++ second) own heard
idle_both {V} {H} first second own heard one two =
    pass-append first second own heard
    ∙ ap (λ (votes : List V). votes ++ pass second (own ++ votes) heard) one
    ∙ ap (λ (own : List V). pass second own heard) (append-nil own) ∙ two

front_none : {V : Type 0} (xs ys : List V) → xs ++ ys ≡ [] → xs ≡ []
front_none [] ys h = refl
front_none (x ∷ xs) ys h = absurd (cc (h))

pub idle_parts : {V H : Type 0} (first second : List (Slot V H)) (own : List V) (heard : List H) → IsIdle (first ++ second) own heard
    → IsIdle first own heard × IsIdle second own heard
idle_parts {V} {H} first second own heard idle =
    let whole = sym (pass-append first second own heard) ∙ idle in
    let one : pass first own heard ≡ [] = front_none (pass first own heard) (pass second (own ++ pass first own heard) heard) whole in (
      one,
      ap (λ (own : List V). pass second own heard) (sym (append-nil own))
          ∙ sym (ap (λ (votes : List V). votes ++ pass second (own ++ votes) heard) one) ∙ whole,
    )

-- ---- one list is owed

-- where nothing is owed, no number of passes adds anything
pub passes_idle : {V H : Type 0} (slots : List (Slot V H)) (own : List V) (heard : List H) → IsIdle slots own heard → (k : ℕ)
    → passes k slots own heard ≡ []
passes_idle slots own heard idle zero = refl
passes_idle {V} slots own heard idle (suc k) =
    ap (λ (votes : List V). votes ++ passes k slots (own ++ votes) heard) idle
    ∙ ap (λ (own : List V). passes k slots own heard) (append-nil own) ∙ passes_idle slots own heard idle k

-- what rests after one pass and so many more rests after that pass and these
rests_later : {V H : Type 0} (slots : List (Slot V H)) (own : List V) (heard : List H) (votes : List V)
    → IsIdle slots (own ++ (pass slots own heard ++ votes)) heard → IsIdle slots ((own ++ pass slots own heard) ++ votes) heard
rests_later {V} slots own heard votes idle =
    ap (λ (own : List V). pass slots own heard) (append_assoc own (pass slots own heard) votes) ∙ idle

-- once nothing is owed, more passes give no more
pub passes-settled : {V H : Type 0} (slots : List (Slot V H)) (own : List V) (heard : List H) (k m : ℕ) → k ≤ m
    → IsIdle slots (own ++ passes k slots own heard) heard → passes m slots own heard ≡ passes k slots own heard
passes-settled {V} slots own heard zero m le idle =
    passes_idle slots own heard (ap (λ (own : List V). pass slots own heard) (sym (append-nil own)) ∙ idle) m
passes-settled slots own heard (suc k) zero le idle = absurd (omega arith)
passes-settled {V} slots own heard (suc k) (suc m) le idle =
    let here : List V = pass slots own heard in
    ap (λ (votes : List V). here ++ votes)
    (passes-settled slots (own ++ here) heard k m (omega arith) (rests_later slots own heard (passes k slots (own ++ here) heard) idle))

-- so one list is owed
passes_unique : {V H : Type 0} (slots : List (Slot V H)) (own : List V) (heard : List H) (k m : ℕ)
    → IsIdle slots (own ++ passes k slots own heard) heard → IsIdle slots (own ++ passes m slots own heard) heard
    → passes k slots own heard ≡ passes m slots own heard
passes_unique {V} slots own heard zero m one two =
    sym (passes_idle slots own heard (ap (λ (own : List V). pass slots own heard) (sym (append-nil own)) ∙ one) m)
passes_unique {V} slots own heard (suc k) zero one two =
    passes_idle slots own heard (ap (λ (own : List V). pass slots own heard) (sym (append-nil own)) ∙ two) (suc k)
passes_unique {V} slots own heard (suc k) (suc m) one two =
    let here : List V = pass slots own heard in
    ap (λ (votes : List V). here ++ votes)
    (passes_unique slots (own ++ here) heard k m
    (rests_later slots own heard (passes k slots (own ++ here) heard) one)
    (rests_later slots own heard (passes m slots (own ++ here) heard) two))

-- nothing is owed after the passes that give the list
rests_given : {V H : Type 0} (slots : List (Slot V H)) (own : List V) (heard : List H) (votes : List V) (owed : IsOwed slots own heard votes)
    → IsIdle slots (own ++ passes owed.count slots own heard) heard
rests_given {V} slots own heard votes owed = ap (λ (votes : List V). pass slots (own ++ votes) heard) owed.gives ∙ owed.rests

pub IsOwed-unique : {V H : Type 0} (slots : List (Slot V H)) (own : List V) (heard : List H) (votes others : List V)
    → IsOwed slots own heard votes → IsOwed slots own heard others → votes ≡ others
IsOwed-unique slots own heard votes others one two =
    sym one.gives
    ∙ passes_unique slots own heard one.count two.count (rests_given slots own heard votes one) (rests_given slots own heard others two)
    ∙ two.gives

pub IsOwed-nil : {V H : Type 0} (slots : List (Slot V H)) (own : List V) (heard : List H) → IsIdle slots own heard → IsOwed slots own heard []
IsOwed-nil {V} slots own heard idle = record {
  count = 0;
  gives = refl;
  rests = ap (λ (own : List V). pass slots own heard) (append-nil own) ∙ idle;
}

-- where one pass rests, its votes are owed
pub IsOwed-pass : {V H : Type 0} (slots : List (Slot V H)) (own : List V) (heard : List H) → IsIdle slots (own ++ pass slots own heard) heard
    → IsOwed slots own heard (pass slots own heard)
IsOwed-pass slots own heard idle = record { count = 1; gives = append-nil (pass slots own heard); rests = idle }

-- ---- two parts, of which the first owes nothing more after its pass, whatever votes follow

pass_second : {V H : Type 0} (first second : List (Slot V H)) (own : List V) (heard : List H) → IsIdle first own heard
    → pass (first ++ second) own heard ≡ pass second own heard
pass_second {V} first second own heard idle =
    pass-append first second own heard
    ∙ ap (λ (votes : List V). votes ++ pass second (own ++ votes) heard) idle
    ∙ ap (λ (own : List V). pass second own heard) (append-nil own)

pub passes_second : {V H : Type 0} (first second : List (Slot V H)) (own : List V) (heard : List H)
    → ((more : List V) → IsIdle first (own ++ more) heard) → (k : ℕ) → passes k (first ++ second) own heard ≡ passes k second own heard
passes_second first second own heard idle zero = refl
passes_second {V} first second own heard idle (suc k) =
    let here : List V = pass second own heard in
    ap (λ (votes : List V). votes ++ passes k (first ++ second) (own ++ votes) heard)
    (pass_second first second own heard (ap (λ (own : List V). pass first own heard) (sym (append-nil own)) ∙ idle []))
    ∙ ap (λ (votes : List V). here ++ votes)
    (passes_second first second (own ++ here) heard
    (λ more. ap (λ (own : List V). pass first own heard) (append_assoc own here more) ∙ idle (here ++ more)) k)

pub IsOwed-both : {V H : Type 0} (first second : List (Slot V H)) (own : List V) (heard : List H) (votes : List V)
    → ((more : List V) → IsIdle first ((own ++ pass first own heard) ++ more) heard)
    → IsOwed second (own ++ pass first own heard) heard votes
    → IsOwed (first ++ second) own heard (pass first own heard ++ votes)
IsOwed-both {V} first second own heard votes idle owed =
    let one : List V = pass first own heard in
    let two : List V = pass second (own ++ one) heard in
    let later : passes owed.count (first ++ second) (own ++ (one ++ two)) heard ≡ passes owed.count second ((own ++ one) ++ two) heard =
    ap (λ (own : List V). passes owed.count (first ++ second) own heard) (sym (append_assoc own one two))
    ∙ passes_second first second ((own ++ one) ++ two) heard
    (λ more. ap (λ (own : List V). pass first own heard) (append_assoc (own ++ one) two more) ∙ idle (two ++ more)) owed.count in
    record {
      count = suc owed.count;
      gives =
          ap (λ (votes : List V). votes ++ passes owed.count (first ++ second) (own ++ votes) heard) (pass-append first second own heard)
          ∙ ap (λ (votes : List V). (one ++ two) ++ votes) later
          ∙ append_assoc one two (passes owed.count second ((own ++ one) ++ two) heard)
          ∙ ap (λ (votes : List V). one ++ votes)
          (passes-settled second (own ++ one) heard owed.count (suc owed.count) (omega arith) (rests_given second (own ++ one) heard votes owed)
          ∙ owed.gives);
      rests =
          ap (λ (own : List V). pass (first ++ second) own heard) (sym (append_assoc own one votes))
          ∙ idle_both first second ((own ++ one) ++ votes) heard (idle votes) owed.rests;
    }

-- ---- slots whose choice does not look at what was cast

-- what is settled stays so after more votes
pub settled_more : {V H : Type 0} (slot : Slot V H) → IsPlain slot → (own more : List V) (heard : List H) → IsSettledAt slot own heard
    → IsSettledAt slot (own ++ more) heard
settled_more slot plain own more heard settled =
    settled_parts slot own heard settled (IsSettledAt slot (own ++ more) heard)
    (λ cast. settled_if_cast slot (own ++ more) heard (plain.guarded.stays own more cast))
    (λ no_choice. settled_if_none slot (own ++ more) heard (plain.free (own ++ more) own heard ∙ no_choice))

-- a slot is settled once its own vote is cast
pub settled_after : {V H : Type 0} (slot : Slot V H) → IsPlain slot → (own : List V) (heard : List H)
    → IsSettledAt slot (own ++ owes slot own heard) heard
settled_after {V} {H} slot plain own heard =
    owes_cases slot own heard (λ (votes : List V). IsSettledAt slot (own ++ votes) heard)
    (λ cast. settled_if_cast slot (own ++ []) heard (plain.guarded.stays own [] cast))
    (λ empty none. settled_if_none slot (own ++ []) heard (plain.free (own ++ []) own heard ∙ none))
    (λ vote empty some. settled_if_cast slot (own ++ vote ∷ []) heard (plain.guarded.filled own heard vote some))

settled_all : {V H : Type 0} (slots : List (Slot V H)) → AllByRecursion IsPlain slots → (own more : List V) (heard : List H)
    → AllByRecursion (λ slot. IsSettledAt slot own heard) slots → AllByRecursion (λ slot. IsSettledAt slot (own ++ more) heard) slots
settled_all [] plain own more heard settled = tt
settled_all (slot ∷ slots) plain own more heard settled =
    (settled_more slot plain.0 own more heard settled.0, settled_all slots plain.1 own more heard settled.1)

pub plain-rests : {V H : Type 0} (slots : List (Slot V H)) → AllByRecursion IsPlain slots → (own more : List V) (heard : List H)
    → IsIdle slots own heard → IsIdle slots (own ++ more) heard
plain-rests slots plain own more heard idle =
    pass_settled slots (own ++ more) heard (settled_all slots plain own more heard (settled_idle slots own heard idle))

-- after one pass nothing is owed
pub pass-rests : {V H : Type 0} (slots : List (Slot V H)) → AllByRecursion IsPlain slots → (own : List V) (heard : List H)
    → IsIdle slots (own ++ pass slots own heard) heard
pass-rests [] plain own heard = refl
pass-rests {V} {H} (slot ∷ slots) plain own heard =
    let here : List V = owes slot own heard in
    let rest : List V = pass slots (own ++ here) heard in
    let settled : IsSettledAt slot ((own ++ here) ++ rest) heard = settled_more slot plain.0 (own ++ here) rest heard (settled_after slot plain.0 own heard) in
    rw (← append_assoc own here rest) (rw (settled.none, append-nil) (pass-rests slots plain.1 (own ++ here) heard))

-- the part of the first slots in what is owed
pub IsOwed-plain : {V H : Type 0} (first second : List (Slot V H)) (own : List V) (heard : List H) (votes : List V) → AllByRecursion IsPlain first
    → IsOwed second (own ++ pass first own heard) heard votes → IsOwed (first ++ second) own heard (pass first own heard ++ votes)
IsOwed-plain first second own heard votes plain owed =
    IsOwed-both first second own heard votes
    (λ more. plain-rests first plain (own ++ pass first own heard) more heard (pass-rests first plain own heard)) owed

-- ---- a pass that adds something fills a slot

-- how many slots are not filled
abbrev pub unfilled : {V H : Type 0} → List (Slot V H) → List V → ℕ
unfilled [] own = 0
unfilled (slot ∷ slots) own = unfilled slots own + (if slot.is_cast own then 0 else 1)

step_more : (b c : Bool) (k m : ℕ) → (b ≡ true → c ≡ true) → k ≤ m → k + (if c then 0 else 1) ≤ m + (if b then 0 else 1)
step_more true true k m stays le = omega arith
step_more true false k m stays le = absurd (cc (stays refl))
step_more false true k m stays le = omega arith
step_more false false k m stays le = omega arith

pub unfilled-more : {V H : Type 0} (slots : List (Slot V H)) → AllByRecursion IsGuarded slots → (own more : List V)
    → unfilled slots (own ++ more) ≤ unfilled slots own
unfilled-more [] guarded own more = omega arith
unfilled-more (slot ∷ slots) guarded own more =
    step_more (slot.is_cast own) (slot.is_cast (own ++ more)) (unfilled slots (own ++ more)) (unfilled slots own)
    (guarded.0.stays own more) (unfilled-more slots guarded.1 own more)

pub unfilled-few : {V H : Type 0} (slots : List (Slot V H)) (own : List V) → unfilled slots own ≤ length slots
unfilled-few [] own = omega arith
unfilled-few (slot ∷ slots) own = step (slot.is_cast own) (unfilled-few slots own)
  where
    step : (b : Bool) → unfilled slots own ≤ length slots → unfilled slots own + (if b then 0 else 1) ≤ suc (length slots)
    step true le = omega arith
    step false le = omega arith

-- the slot itself: what it makes owed fills it
fills_one : {V H : Type 0} (slot : Slot V H) → IsGuarded slot → (own : List V) (heard : List H) (rest : List V)
    → (if slot.is_cast ((own ++ owes slot own heard) ++ rest) then 0 else 1) + length (owes slot own heard) ≤ (if slot.is_cast own then 0 else 1)
fills_one {V} {H} slot guarded own heard rest =
    owes_cases slot own heard
    (λ (votes : List V). (if slot.is_cast ((own ++ votes) ++ rest) then 0 else 1) + length votes ≤ (if slot.is_cast own then 0 else 1))
    (λ cast.
    let later : slot.is_cast ((own ++ []) ++ rest) ≡ true = guarded.stays (own ++ []) rest (guarded.stays own [] cast) in
    rw (later, cast) (omega arith))
    (λ empty none. rw empty (at_most (slot.is_cast ((own ++ []) ++ rest))))
    (λ vote empty some.
    let now : slot.is_cast (own ++ vote ∷ []) ≡ true = guarded.filled own heard vote some in
    let later : slot.is_cast ((own ++ vote ∷ []) ++ rest) ≡ true = guarded.stays (own ++ vote ∷ []) rest now in
    rw (later, empty) (omega arith))
  where
    at_most : (b : Bool) → (if b then 0 else 1) + 0 ≤ 1
    at_most true = omega arith
    at_most false = omega arith

pub pass-fills : {V H : Type 0} (slots : List (Slot V H)) → AllByRecursion IsGuarded slots → (own : List V) (heard : List H)
    → unfilled slots (own ++ pass slots own heard) + length (pass slots own heard) ≤ unfilled slots own
pass-fills [] guarded own heard = omega arith
pass-fills {V} {H} (slot ∷ slots) guarded own heard =
    let here : List V = owes slot own heard in
    let rest : List V = pass slots (own ++ here) heard in
    let later : unfilled slots ((own ++ here) ++ rest) + length rest ≤ unfilled slots (own ++ here) = pass-fills slots guarded.1 (own ++ here) heard in
    let less : unfilled slots (own ++ here) ≤ unfilled slots own = unfilled-more slots guarded.1 own here in
    let one = fills_one slot guarded.0 own heard rest in
    rw (← append_assoc own here rest) (rw length-append (omega arith))

none_of_length : {V : Type 0} (xs : List V) → length xs ≤ 0 → xs ≡ []
none_of_length [] le = refl
none_of_length (x ∷ xs) le = absurd (omega arith)

-- so passes rest as soon as there were as many as slots are not filled
pub passes-rest : {V H : Type 0} (slots : List (Slot V H)) → AllByRecursion IsGuarded slots → (k : ℕ) (own : List V) (heard : List H)
    → unfilled slots own ≤ k
    → IsIdle slots (own ++ passes k slots own heard) heard
passes-rest {V} slots guarded zero own heard few =
    ap (λ (own : List V). pass slots own heard) (append-nil own)
    ∙ none_of_length (pass slots own heard) (omega (arith, pass-fills slots guarded own heard))
passes-rest {V} {H} slots guarded (suc k) own heard few =
    by (pass slots own heard) refl (pass-fills slots guarded own heard) (λ own few. passes-rest slots guarded k own heard few)
  where
    by : (votes : List V) → pass slots own heard ≡ votes → unfilled slots (own ++ votes) + length votes ≤ unfilled slots own
        → ((own : List V) → unfilled slots own ≤ k → IsIdle slots (own ++ passes k slots own heard) heard)
        → IsIdle slots (own ++ (votes ++ passes k slots (own ++ votes) heard)) heard
    by [] is fills later =
        ap (λ (votes : List V). pass slots (own ++ votes) heard)
        (ap (λ (own : List V). passes k slots own heard) (append-nil own) ∙ passes_idle slots own heard is k)
        ∙ ap (λ (own : List V). pass slots own heard) (append-nil own) ∙ is
    by (v ∷ votes) is fills later =
        ap (λ (own : List V). pass slots own heard) (sym (append_assoc own (v ∷ votes) (passes k slots (own ++ v ∷ votes) heard)))
        ∙ later (own ++ v ∷ votes) (omega arith)

pub owed_is_owed : {V H : Type 0} (slots : List (Slot V H)) → AllByRecursion IsGuarded slots → (own : List V) (heard : List H)
    → IsOwed slots own heard (owed slots own heard)
owed_is_owed slots guarded own heard = record {
  count = length slots;
  gives = refl;
  rests = passes-rest slots guarded (length slots) own heard (unfilled-few slots own);
}

-- ---- what was heard is forgotten

forgotten_all : {V H : Type 0} (slots : List (Slot V H)) → AllByRecursion IsForgetful slots → (own : List V) (heard : List H)
    → AllByRecursion (λ slot. IsSettledAt slot own heard) slots → AllByRecursion (λ slot. IsSettledAt slot own []) slots
forgotten_all [] forgetful own heard settled = tt
forgotten_all (slot ∷ slots) forgetful own heard settled = (
  settled_parts slot own heard settled.0 (IsSettledAt slot own [])
      (λ cast. settled_if_cast slot own [] cast) (λ none. settled_if_none slot own [] (forgetful.0.forgets own heard none)),
  forgotten_all slots forgetful.1 own heard settled.1,
)

pub idle-forgets : {V H : Type 0} (slots : List (Slot V H)) → AllByRecursion IsForgetful slots → (own : List V) (heard : List H)
    → IsIdle slots own heard → IsIdle slots own []
idle-forgets slots forgetful own heard idle =
    pass_settled slots own [] (forgotten_all slots forgetful own heard (settled_idle slots own heard idle))

-- ---- what is owed, as a function

pub owed_idle : {V H : Type 0} (slots : List (Slot V H)) (own : List V) (heard : List H) → IsIdle slots own heard → owed slots own heard ≡ []
owed_idle slots own heard idle = passes_idle slots own heard idle (length slots)

pub owed-rests : {V H : Type 0} (slots : List (Slot V H)) → AllByRecursion IsGuarded slots → (own : List V) (heard : List H)
    → owed slots (own ++ owed slots own heard) heard ≡ []
owed-rests slots guarded own heard = owed_idle slots (own ++ owed slots own heard) heard (owed_is_owed slots guarded own heard).rests

-- where the function gives nothing, one pass does
pub idle_owed : {V H : Type 0} (slots : List (Slot V H)) → AllByRecursion IsGuarded slots → (own : List V) (heard : List H)
    → owed slots own heard ≡ []
    → IsIdle slots own heard
idle_owed {V} slots guarded own heard none =
    ap (λ (own : List V). pass slots own heard) (sym (append-nil own))
    ∙ ap (λ (votes : List V). pass slots (own ++ votes) heard) (sym none)
    ∙ (owed_is_owed slots guarded own heard).rests

pub owed-forgets : {V H : Type 0} (slots : List (Slot V H)) → AllByRecursion IsGuarded slots → AllByRecursion IsForgetful slots
    → (own : List V) (heard : List H)
    → owed slots own heard ≡ [] → owed slots own [] ≡ []
owed-forgets slots guarded forgetful own heard none =
    owed_idle slots own [] (idle-forgets slots forgetful own heard (idle_owed slots guarded own heard none))

-- ---- what is owed may be cast in turn, and has what each slot's vote has

pub InTurn-append : {V : Type 0} (May : List V → V → Type 0) (own votes more : List V) → InTurn May own votes → InTurn May (own ++ votes) more
    → InTurn May own (votes ++ more)
InTurn-append May own [] more one two = rw append-nil at two
InTurn-append May own (v ∷ votes) more one two = (one.0, InTurn-append May (own ++ v ∷ []) votes more one.1 (rw append_assoc two))

pub pass-InTurn : {V H : Type 0} (May : List V → V → Type 0) (heard : List H) (slots : List (Slot V H))
    → AllByRecursion (IsAllowedBy May heard) slots → (own : List V) → InTurn May own (pass slots own heard)
pass-InTurn May heard [] allowed own = tt
pass-InTurn {V} {H} May heard (slot ∷ slots) allowed own =
    InTurn-append May own (owes slot own heard) (pass slots (own ++ owes slot own heard) heard)
    (owes_cases slot own heard (λ (votes : List V). InTurn May own votes) (λ cast. tt) (λ empty none. tt)
    (λ vote empty some. (allowed.0.allowed own vote empty some, tt)))
    (pass-InTurn May heard slots allowed.1 (own ++ owes slot own heard))

pub passes-InTurn : {V H : Type 0} (May : List V → V → Type 0) (heard : List H) (slots : List (Slot V H))
    → AllByRecursion (IsAllowedBy May heard) slots
    → (k : ℕ) (own : List V) → InTurn May own (passes k slots own heard)
passes-InTurn May heard slots allowed zero own = tt
passes-InTurn May heard slots allowed (suc k) own =
    InTurn-append May own (pass slots own heard) (passes k slots (own ++ pass slots own heard) heard)
    (pass-InTurn May heard slots allowed own) (passes-InTurn May heard slots allowed k (own ++ pass slots own heard))

pub IsOwed-InTurn : {V H : Type 0} (May : List V → V → Type 0) (heard : List H) (slots : List (Slot V H))
    → AllByRecursion (IsAllowedBy May heard) slots
    → (own votes : List V) → IsOwed slots own heard votes → InTurn May own votes
IsOwed-InTurn {V} May heard slots allowed own votes owed =
    subst (λ (votes : List V). InTurn May own votes) owed.gives (passes-InTurn May heard slots allowed owed.count own)

-- the vote of a slot has a property, by what was heard
pub record HasMade {V H : Type 0} (P : V → Type 0) (heard : List H) (slot : Slot V H) : Type 0 where
  pub has : (own : List V) (vote : V) → slot.choice own heard ≡ Some vote → P vote

pub pass-all : {V H : Type 0} (P : V → Type 0) (heard : List H) (slots : List (Slot V H)) → AllByRecursion (HasMade P heard) slots
    → (own : List V) → AllByRecursion P (pass slots own heard)
pass-all P heard [] all own = tt
pass-all {V} {H} P heard (slot ∷ slots) all own =
    AllByRecursion-append P (owes slot own heard) (pass slots (own ++ owes slot own heard) heard)
    (owes_cases slot own heard (λ (votes : List V). AllByRecursion P votes) (λ cast. tt) (λ empty none. tt)
    (λ vote empty some. (all.0.has own vote some, tt)))
    (pass-all P heard slots all.1 (own ++ owes slot own heard))

pub passes-all : {V H : Type 0} (P : V → Type 0) (heard : List H) (slots : List (Slot V H)) → AllByRecursion (HasMade P heard) slots
    → (k : ℕ) (own : List V) → AllByRecursion P (passes k slots own heard)
passes-all P heard slots all zero own = tt
passes-all P heard slots all (suc k) own =
    AllByRecursion-append P (pass slots own heard) (passes k slots (own ++ pass slots own heard) heard)
    (pass-all P heard slots all own) (passes-all P heard slots all k (own ++ pass slots own heard))

pub IsOwed-all : {V H : Type 0} (P : V → Type 0) (heard : List H) (slots : List (Slot V H)) → AllByRecursion (HasMade P heard) slots
    → (own votes : List V) → IsOwed slots own heard votes → AllByRecursion P votes
IsOwed-all {V} P heard slots all own votes owed =
    subst (λ (votes : List V). AllByRecursion P votes) owed.gives (passes-all P heard slots all owed.count own)
