-- What the words of a call ask for.
use Rattle.std.specs.Prelude.{◌≡◌, ℕ, ◌<◌, ◌^◌, List, [], ◌∷◌, Option, None, Some, codes, decimal}
use Rattle.hb_app.specs.declared.command.Command.{Command}
use Rattle.hb_app.specs.declared.command.Command.TheVariants.{Run, Audit, Soak}
use Rattle.hb_app.specs.declared.command.Text.{Text}
use Rattle.hb_app.specs.declared.command.Text.TheVariants.{Ledgers, Trace, Observed, Accused}

-- the word that asks for a text of a run
abbrev pub word_of : Text → List ℕ
word_of Ledgers = codes "run"
word_of Trace = codes "trace"
word_of Observed = codes "observe"
word_of Accused = codes "accuse"

-- a run of the scenario on the input, and this text of it
abbrev pub AsksRun : List (List ℕ) → Text → Type 0
AsksRun words text = words ≡ word_of text ∷ []

-- the verdict on the history whose text is on the input
abbrev pub AsksAudit : List (List ℕ) → Type 0
AsksAudit words = words ≡ codes "audit" ∷ []

-- the run of this number, below 2^64 and in decimal digits, with no sign and no needless zeros in front
abbrev pub AsksSoak : List (List ℕ) → ℕ → Type 0
AsksSoak words number = (number < 2 ^ 64) × (words ≡ codes "soak" ∷ decimal number ∷ [])

-- nothing that is known
abbrev pub AsksNothing : List (List ℕ) → Type 0
AsksNothing words = ((text : Text) → AsksRun words text → ⊥) × (AsksAudit words → ⊥) × ((number : ℕ) → AsksSoak words number → ⊥)

-- what these words ask for
abbrev pub Asks : List (List ℕ) → Option Command → Type 0
Asks words None = AsksNothing words
Asks words (Some (Run text)) = AsksRun words text
Asks words (Some Audit) = AsksAudit words
Asks words (Some (Soak number)) = AsksSoak words number
