-- The names of liars.
use Rattle.std.specs.Prelude.{◌≡◌, ℕ, ◌-◌, ◌≤◌, Bool, ◌&&◌, ◌||◌, ◌==◌, List, ◌++◌, length, take, drop, replicate, nat_le}
use Rattle.std.specs.List.{AllPass}
use Rattle.std.proofs.Common.{◌∙◌, ap, sym, arith, take-append-drop}
use Rattle.std.proofs.lemmas.List.{length-take-le}

-- an ASCII lower-case letter, a digit or `_`
abbrev pub is_name_byte : ℕ → Bool
is_name_byte byte = (nat_le 97 byte && nat_le byte 122) || (nat_le 48 byte && nat_le byte 57) || (byte == 95)

-- 1 to 16 such bytes
pub record IsName (text : List ℕ) : Type 0 where
  pub some : 1 ≤ length text
  pub short : length text ≤ 16
  pub plain : AllPass is_name_byte text

-- the text with zeros behind it, 16 bytes in all
abbrev pub padded : List ℕ → List ℕ
padded text = text ++ replicate (16 - length text) 0

-- of 16 bytes those from len on are zero
pub record IsPadded (len : ℕ) (bytes : List ℕ) : Type 0 where
  pub short : len ≤ 16
  pub whole : length bytes ≡ 16
  pub zeros : drop len bytes ≡ replicate (16 - len) 0

-- what is padded again is as it was
pub padded-take : (len : ℕ) (bytes : List ℕ) → IsPadded len bytes → padded (take len bytes) ≡ bytes
padded-take len bytes is_padded =
    let size : length (take len bytes) ≡ len = length-take-le len bytes (omega (arith, is_padded.short, is_padded.whole)) in
    ap (λ n. take len bytes ++ replicate (16 - n) 0) size
    ∙ ap (λ zeros. take len bytes ++ zeros) (sym is_padded.zeros)
    ∙ take-append-drop len bytes
