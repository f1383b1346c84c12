-- The rows of the agreement, and going through them. The letters: lane j of node i, epoch e, round r.
use Rattle.std.specs.Prelude.{◌≡◌, ℕ, ◌+◌, ◌<◌, nat_lt, Bool, true, false, ◌⊎◌, List, [], ◌∷◌, ◌++◌, map, None, if◌then◌else◌}
use Rattle.hb_base.specs.Numbers.{Numbers}
use Rattle.hb_wire.specs.declared.vote.Vote.{Vote}
use Rattle.hb_rules.specs.declared.agreement_slot.AgreementSlot.{AgreementSlot}
use Rattle.hb_rules.specs.declared.agreement_slot.AgreementSlot.TheVariants as slot
use Rattle.hb_rules.specs.Agreement.{confirms}
use Rattle.hb_rules.specs.AgreementRows.{limit_of, agreement_slot}
use Rattle.hb_rules.specs.Hearing.{Hearing}
use Rattle.hb_rules.specs.Marks.{Mark, any_est, bval, any_aux, any_conf, any_pick, any_coin, any_decision}
use Rattle.hb_rules.specs.Slots.{Slot, each}
use Rattle.hb_rules.specs.Owing.{Place}
use Rattle.aba_core.specs.declared.passing.Row.{Row}
use Rattle.aba_core.specs.declared.passing.Row.TheVariants.{Support, Accept, ConfirmOne, ConfirmBoth, PickOne, PickBoth, ShowShare, GoOn, Decide}
use Rattle.aba_core.specs.State.{AbaView, mark_round, mark_at, choice_at, slot_round}

-- the slots of a row in one round; the last round has none after it
abbrev pub row_at : Numbers → Row → ℕ → List AgreementSlot
row_at c Support r = slot.Support r false ∷ slot.Support r true ∷ []
row_at c Accept r = slot.Accept r ∷ []
row_at c ConfirmOne r = slot.ConfirmOne r false ∷ slot.ConfirmOne r true ∷ []
row_at c ConfirmBoth r = slot.ConfirmBoth r ∷ []
row_at c PickOne r = slot.PickOne r false ∷ slot.PickOne r true ∷ []
row_at c PickBoth r = slot.PickBoth r ∷ []
row_at c ShowShare r = slot.ShowShare r ∷ []
row_at c GoOn r = if nat_lt (r + 1) c.rounds then slot.GoOn r ∷ [] else []
row_at c Decide r = slot.Decide r ∷ []

abbrev pub row_of : Numbers → Row → List AgreementSlot
row_of c row = each c.rounds (row_at c row)

-- a row of the confirm phase
abbrev pub needs_confirm : Row → Bool
needs_confirm ConfirmOne = true
needs_confirm ConfirmBoth = true
needs_confirm _ = false

-- those of the confirm phase
abbrev pub confirm_slots : Bool → Numbers → List AgreementSlot
confirm_slots false c = []
confirm_slots true c = row_of c ConfirmOne ++ row_of c ConfirmBoth

-- all slots, in their order
abbrev pub begin_slots : List AgreementSlot
begin_slots = slot.Begin true ∷ slot.Begin false ∷ []

abbrev pub names_of : Numbers → List AgreementSlot
names_of c =
    begin_slots ++ (row_of c Support ++ (row_of c Accept ++ (confirm_slots (confirms c) c
    ++ (row_of c PickOne ++ (row_of c PickBoth ++ (row_of c ShowShare ++ (row_of c GoOn ++ row_of c Decide)))))))

-- whether the rules have the slot, with a confirm phase or without
abbrev pub is_in_use : Bool → AgreementSlot → Bool
is_in_use confirm (slot.ConfirmOne r b) = confirm
is_in_use confirm (slot.ConfirmBoth r) = confirm
is_in_use confirm _ = true

-- a slot of the run: it and what fills it are of rounds that the run has
pub record IsKnown (c : Numbers) (name : AgreementSlot) : Type 0 where
  pub round : slot_round name < c.rounds
  pub limit : mark_round (limit_of name) < c.rounds
  pub in_use : is_in_use (confirms c) name ≡ true

-- the slots that names stand for
abbrev pub slots_for : Place → List AgreementSlot → List (Slot Vote Hearing)
slots_for p names = map (agreement_slot p.config p.node p.lane p.epoch) names

-- ---- slots at rest

-- the slot makes nothing owed, by the tables: it is filled, or makes no vote
abbrev pub Rests : AbaView → AgreementSlot → Type 0
Rests a name = (mark_at a (limit_of name) ≡ true) ⊎ (choice_at a name ≡ None)

-- all slots of the rounds before this one rest
abbrev pub RestsBelow : AbaView → ℕ → Type 0
RestsBelow a from = (name : AgreementSlot) → IsKnown a.config name → slot_round name < from → Rests a name

-- ---- room

-- what fills slots: each of these is filled by one vote, and each vote of the agreement fills one
abbrev pub limits_at : ℕ → List Mark
limits_at r = any_est r ∷ bval r false ∷ bval r true ∷ any_aux r ∷ any_conf r ∷ any_pick r ∷ any_coin r ∷ []

abbrev pub limits_of : ℕ → List Mark
limits_of rounds = each rounds limits_at ++ any_decision ∷ []

-- how many of these are not filled
abbrev pub free : List Mark → (Mark → Bool) → ℕ
free [] cast = 0
free (mark ∷ marks) cast = (if cast mark then 0 else 1) + free marks cast

-- how many votes may still become due
abbrev pub room_of : AbaView → ℕ
room_of a = free (limits_of a.config.rounds) (mark_at a)
