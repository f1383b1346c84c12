-- When bytes may spell a JSON value.
use Rattle.std.proofs.Common.{◌≡◌, ℕ, Bool, true, false, List, None, if◌then◌else◌, refl}
use Rattle.std.specs.Str.{IsUtf8, is_utf8}
use Rattle.std.proofs.lemmas.Str.{IsUtf8-from_is_utf8, is_utf8-from_IsUtf8}
use Rattle.serde_json.specs.Read.{read}
use Rattle.script_reader.specs.Reading.{json_of}

-- a text spells what serde_json reads
pub json_of_text : (bytes : List ℕ) → IsUtf8 bytes → json_of bytes ≡ read bytes
json_of_text bytes text = rw (is_utf8-from_IsUtf8 bytes text) refl

-- bytes that aren't in UTF-8 spell nothing
pub json_of_no_text : (bytes : List ℕ) → ¬ (IsUtf8 bytes) → json_of bytes ≡ None
json_of_no_text bytes no_text = by (is_utf8 bytes) refl
  where
    by : (b : Bool) → is_utf8 bytes ≡ b → (if b then read bytes else None) ≡ None
    by false is = refl
    by true is = absurd (no_text (IsUtf8-from_is_utf8 bytes is))
