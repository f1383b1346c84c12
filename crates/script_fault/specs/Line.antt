-- The line that tells a fault.
use Rattle.std.specs.Prelude.{ℕ, List, [], ◌++◌, codes, decimal, Option, Result}
use Rattle.hex.specs.Hex.{encode_lower}
use Rattle.hb_base.specs.Outside.{HasCause, Puts}
use Rattle.script_fault.specs.declared.fault.ScriptFault.{ScriptFault}
use Rattle.script_fault.specs.declared.fault.ScriptFault.TheVariants as faults
use Rattle.script_fault.specs.declared.place.ListName.{ListName}
use Rattle.script_fault.specs.declared.place.Place.{Place}
use Rattle.script_fault.specs.Place.{list_text, key_text}

-- an entry: its list and its index
unfoldable pub entry_text : ListName → ℕ → List ℕ
entry_text list index = list_text list ++ (codes " " ++ decimal index)

-- an entry and a key
unfoldable pub place_text : Place → List ℕ
place_text p = entry_text p.list p.index ++ (codes " " ++ key_text p.key)

-- the words of a fault's line, up to a text of the input that is told in hex
unfoldable pub fault_words : ScriptFault → List ℕ
fault_words faults.TooLong = codes "refused 1 TooLong"
fault_words faults.NotJson = codes "refused 2 NotJson"
fault_words (faults.WrongKind p) = codes "refused 3 WrongKind " ++ place_text p
fault_words (faults.Missing p) = codes "refused 4 Missing " ++ place_text p
fault_words (faults.Unknown list index key) = codes "refused 5 Unknown " ++ (entry_text list index ++ codes " key=")
fault_words (faults.NotNumber p) = codes "refused 6 NotNumber " ++ place_text p
fault_words (faults.OutOfRange p value) = codes "refused 7 OutOfRange " ++ (place_text p ++ (codes " value=" ++ decimal value))
fault_words (faults.TooFewNodes n f) = codes "refused 8 TooFewNodes n=" ++ (decimal n ++ (codes " f=" ++ decimal f))
fault_words (faults.TooManyLiars named f) = codes "refused 9 TooManyLiars named=" ++ (decimal named ++ (codes " f=" ++ decimal f))
fault_words (faults.LiarTwice node) = codes "refused 10 LiarTwice node=" ++ decimal node
fault_words (faults.NoSuchLiar name) = codes "refused 11 NoSuchLiar name="
fault_words (faults.BadHex p) = codes "refused 12 BadHex " ++ place_text p
fault_words (faults.BadLength p length) = codes "refused 13 BadLength " ++ (place_text p ++ (codes " length=" ++ decimal length))
fault_words (faults.BadWord p word) = codes "refused 14 BadWord " ++ (place_text p ++ codes " word=")
fault_words faults.Memory = codes "no memory"

-- the text of the input that a fault keeps
abbrev pub kept_text : ScriptFault → List ℕ
kept_text (faults.Unknown list index key) = key
kept_text (faults.NoSuchLiar name) = name
kept_text (faults.BadWord p word) = word
kept_text _ = []

-- the whole line, in lower-case hex what is kept of the input
unfoldable pub fault_line : ScriptFault → List ℕ
fault_line fault = fault_words fault ++ (encode_lower (kept_text fault) ++ codes "\n")

-- A sink took a text, in one or several puts, or failed after a front of it. Its count of faults rose where it failed,
-- and there alone.
pub record Writes {T E : Type 0} (held held_after : Option (List ℕ)) (faults faults_after : ℕ) (result : Result T E) (text : List ℕ) : Type 0 where
  pub bytes : Puts held held_after result text
  pub cause : HasCause faults faults_after result
