-- What the bytes of a journal stand for.
use Rattle.std.specs.Prelude.{◌≡◌, ◌⊎◌, ◌≤◌, ◌<◌, ◌+◌, ◌*◌, ◌/◌, ◌%◌, ◌^◌, ◌==◌, ◌&&◌, ℕ, Bool, true, false, not, zero, suc, List, [], ◌∷◌}
use Rattle.std.specs.Prelude.{◌++◌, length, take, drop, nat_lt, nat_le, nat_eq, slice_index, if◌then◌else◌}
use Rattle.std.specs.List.{concat, starts_with}
use Rattle.disk_model.specs.declared.disk.Half.{Half}
use Rattle.disk_model.specs.declared.disk.Half.TheVariants.{A, B}
use Rattle.disk_model.specs.Image.{Image, half_of}

-- `HBVJ0002`
abbrev pub magic : List ℕ
magic = 0x48 ∷ 0x42 ∷ 0x56 ∷ 0x4A ∷ 0x30 ∷ 0x30 ∷ 0x30 ∷ 0x32 ∷ []

-- the number of four bytes, the first the highest
abbrev pub size_of : ℕ → ℕ → ℕ → ℕ → ℕ
size_of a b c d = ((a * 256 + b) * 256 + c) * 256 + d

-- an open gate (0x5A), a length of four bytes, and as many bytes with another gate behind them
abbrev pub has_entry : List ℕ → Bool
has_entry (gate ∷ a ∷ b ∷ c ∷ d ∷ rest) = gate == 0x5A && nat_lt (size_of a b c d) (length rest)
has_entry other = false

-- the payload of the entry behind a gate
abbrev pub payload_of : List ℕ → List ℕ
payload_of (gate ∷ a ∷ b ∷ c ∷ d ∷ rest) = take (size_of a b c d) rest
payload_of other = []

-- what stands behind it, from the next gate on
abbrev pub behind : List ℕ → List ℕ
behind (gate ∷ a ∷ b ∷ c ∷ d ∷ rest) = drop (size_of a b c d) rest
behind other = []

-- the payloads from a gate on, at most so many, before the first gate that is closed or has no whole entry after it
unfoldable pub entries_in : ℕ → List ℕ → List (List ℕ)
entries_in zero bytes = []
entries_in (suc most) bytes = if has_entry bytes then payload_of bytes ∷ entries_in most (behind bytes) else []

-- what stands from that gate on
unfoldable pub rest_in : ℕ → List ℕ → List ℕ
rest_in zero bytes = bytes
rest_in (suc most) bytes = if has_entry bytes then rest_in most (behind bytes) else bytes

-- the entries of a half: their payloads in order. The first gate stands behind the magic
abbrev pub half_entries : List ℕ → List (List ℕ)
half_entries half = entries_in (length half) (drop 8 half)

-- the gate after them
abbrev pub gate_of : List ℕ → ℕ
gate_of half = slice_index (rest_in (length half) (drop 8 half)) 0

-- it has at most 9 bytes, or it begins with the magic and the gate after its entries is closed
abbrev pub IsSoundHalf : List ℕ → Type 0
IsSoundHalf half = (length half ≤ 9) ⊎ ((take 8 half ≡ magic) × ((gate_of half == 0x5A) ≡ false))

-- it has more than 9 bytes and doesn't begin with the magic
abbrev pub is_foreign : List ℕ → Bool
is_foreign half = nat_lt 9 (length half) && not (starts_with nat_eq half magic)

abbrev pub is_some_entry : List (List ℕ) → Bool
is_some_entry [] = false
is_some_entry (entry ∷ entries) = true

abbrev pub both_have_entries : Image → Bool
both_have_entries image = is_some_entry (half_entries image.a) && is_some_entry (half_entries image.b)

-- the payloads, put together, of the entries of a half that has entries
abbrev pub text_of : Image → List ℕ
text_of image = if is_some_entry (half_entries image.a) then concat (half_entries image.a) else concat (half_entries image.b)

-- both halves are sound, and where both have entries these say the same
pub record IsSound (image : Image) : Type 0 where
  pub a : IsSoundHalf image.a
  pub b : IsSoundHalf image.b
  pub agree : is_some_entry (half_entries image.a) ≡ true → is_some_entry (half_entries image.b) ≡ true
      → concat (half_entries image.a) ≡ concat (half_entries image.b)

-- the half with entries: where both have some the one with fewer, or A where they have as many or none
abbrev pub live_by : List (List ℕ) → List (List ℕ) → Half
live_by [] [] = A
live_by [] (entry ∷ entries) = B
live_by (entry ∷ entries) [] = A
live_by (entry ∷ entries) (entry' ∷ entries') = if nat_le (length entries) (length entries') then A else B

abbrev pub live_half : Image → Half
live_half image = live_by (half_entries image.a) (half_entries image.b)

-- the entries of the disk
abbrev pub live_entries : Image → List (List ℕ)
live_entries image = half_entries (half_of (live_half image) image)

-- a sound image of this text, in so many entries at most
pub record SaysOnly (text : List ℕ) (most : ℕ) (image : Image) : Type 0 where
  pub sound : IsSound image
  pub says : text_of image ≡ text
  pub few : length (live_entries image) ≤ most

-- a sound image of this text, or of this text and one payload more, in so many entries at most
pub record SaysMaybe (text payload : List ℕ) (most : ℕ) (image : Image) : Type 0 where
  pub sound : IsSound image
  pub says : (text_of image ≡ text) ⊎ (text_of image ≡ text ++ payload)
  pub few : length (live_entries image) ≤ most

-- the four bytes of a length
abbrev pub size_bytes : ℕ → List ℕ
size_bytes n = n / 256 / 256 / 256 ∷ (n / 256 / 256) % 256 ∷ (n / 256) % 256 ∷ n % 256 ∷ []

-- open entries of these payloads, one behind another
abbrev pub blocks : List (List ℕ) → List ℕ
blocks [] = []
blocks (entry ∷ entries) = 0x5A ∷ size_bytes (length entry) ++ (entry ++ blocks entries)

-- the length of each fits four bytes
abbrev pub AreShort : List (List ℕ) → Type 0
AreShort [] = Unit {0}
AreShort (entry ∷ entries) = (length entry < 2 ^ 32) × AreShort entries

-- the half is the magic, open entries of these payloads, and a closed gate with anything behind it
pub record HoldsEntries (half : List ℕ) (entries : List (List ℕ)) : Type 0 where
  pub gate : ℕ
  pub tail : List ℕ
  pub is : half ≡ magic ++ (blocks entries ++ gate ∷ tail)
  pub closed : (gate == 0x5A) ≡ false
  pub short : AreShort entries

-- a half that is sound and has these entries
pub record HalfHas (half : List ℕ) (entries : List (List ℕ)) : Type 0 where
  pub sound : IsSoundHalf half
  pub has : half_entries half ≡ entries

-- entries of two halves that stand for this text
pub record Agree (entries others : List (List ℕ)) (text : List ℕ) : Type 0 where
  pub first : is_some_entry entries ≡ true → concat entries ≡ text
  pub second : is_some_entry others ≡ true → concat others ≡ text
  pub none : is_some_entry entries ≡ false → is_some_entry others ≡ false → text ≡ []

-- each is a byte
pub record HasBytes (bytes : List ℕ) : Type 0 where
  pub each : (k : ℕ) → slice_index bytes k < 256
