-- One round of a state replaced by another.
use Rattle.std.proofs.Common.{◌≡◌, ℕ, ◌<◌, ◌≤◌, inl, inr, List, length, slice_index_or, slice_set, sym, ◌∙◌, subst, arith}
use Rattle.std.proofs.lemmas.Bool.{cases_eq}
use Rattle.std.proofs.lemmas.List.{get_or-set_same, get_or-set_other, length-set}
use Rattle.aba_core.specs.declared.marks.Marks.{Marks}
use Rattle.aba_core.specs.declared.round.Round.{Round}
use Rattle.aba_core.specs.Marks.{no_marks}
use Rattle.aba_core.specs.Rounds.{IsRound, blank}
use Rattle.aba_core.specs.Made.{RoundsView, replaced}
use Rattle.aba_core.specs.State.{AbaView, round_in, IsAba, HoldsRounds}

pub round-same : (rounds : List Round) (r : ℕ) (x : Round) → r < length rounds → slice_index_or (slice_set rounds r x) r blank ≡ x
round-same rounds r x below = get_or-set_same rounds r x blank below

pub round-other : (rounds : List Round) (r s : ℕ) (x : Round) → (s ≡ r → ⊥) → slice_index_or (slice_set rounds r x) s blank ≡ slice_index_or rounds s blank
round-other rounds r s x apart = get_or-set_other rounds r s x blank apart

-- a property of all rounds, where it holds of the new one
pub each_round : (rounds : List Round) (r : ℕ) (x : Round) (P : ℕ → Round → Type 0) → r < length rounds → P r x
    → (s : ℕ) → P s (slice_index_or rounds s blank) → P s (slice_index_or (slice_set rounds r x) s blank)
each_round rounds r x P below new s old = elim (cases_eq s r) [
  | inl same ↦
      subst (λ (k : ℕ). P k (slice_index_or (slice_set rounds r x) k blank)) (sym same)
      (subst (P r) (sym (round-same rounds r x below)) new)
  | inr apart ↦ subst (P s) (sym (round-other rounds r s x apart)) old
]

-- the state stays sound where the new round is, and marks in it only what lies below the top
pub sound_after : (a : AbaView) (r top : ℕ) (x : Round) → IsAba a → r < a.config.rounds → IsRound a.config a.lane a.epoch r x
    → a.top ≤ top → top ≤ a.config.rounds → (top ≤ r → x.marks ≡ no_marks) → IsAba (record a { rounds = slice_set a.rounds r x; top = top })
sound_after a r top x sound below new higher inside bare = record {
  sound = sound.sound;
  node = sound.node;
  count = length-set a.rounds r x ∙ sound.count;
  each = λ s low. each_round a.rounds r x (λ s y. IsRound a.config a.lane a.epoch s y) (omega (arith, sound.count)) new s (sound.each s low);
  top = inside;
  above = λ s high.
      each_round a.rounds r x (λ s y. top ≤ s → y.marks ≡ no_marks) (omega (arith, sound.count)) bare s (λ h. sound.above s (omega arith)) high;
}

-- the same, where only marks change
pub sound_marked : (a : AbaView) (r top : ℕ) (m : Marks) → IsAba a → r < a.config.rounds → a.top ≤ top → r < top → top ≤ a.config.rounds
    → IsAba (record a { rounds = slice_set a.rounds r (record (round_in a r) { marks = m }); top = top })
sound_marked a r top m sound below higher past inside =
    sound_after a r top (record (round_in a r) { marks = m }) sound below
    (let was = sound.each r below in record { levels = was.levels; n = was.n; f = was.f; root = was.root })
    higher inside (λ h. absurd (omega (arith, h, past)))

-- the same of all that an agreement keeps
pub holds_replaced : (a : AbaView) (s t : RoundsView) (r top : ℕ) (x : Round) → HoldsRounds a s → a.rounds ≡ s.all → t ≡ replaced s r x
    → IsAba (record a { rounds = slice_set a.rounds r x; top = top }) → HoldsRounds (record a { rounds = t.all; top = top }) t
holds_replaced a s t r top x holds same is sound =
    subst (λ (t : RoundsView). HoldsRounds (record a { rounds = t.all; top = top }) t) (sym is)
    (record {
      aba = subst (λ (all : List Round). IsAba (record a { rounds = slice_set all r x; top = top })) same sound;
      config = holds.config;
      lane = holds.lane;
      epoch = holds.epoch;
    })
