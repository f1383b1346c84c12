-- What the steps of a journal leave of its halves.
use Rattle.std.specs.Prelude.{◌≡◌, ◌⊎◌, ◌≤◌, ◌<◌, ◌+◌, ◌^◌, ℕ, Bool, true, false, List, [], ◌∷◌, ◌++◌, length, take, nat_le, if◌then◌else◌}
use Rattle.std.specs.List.{concat}
use Rattle.disk_model.specs.declared.disk.Half.{Half}
use Rattle.disk_model.specs.Image.{Image, half_of, other, with_half}
use Rattle.disk_model.specs.Disk.{TornWrite, Cut, OnHalf, overwritten}
use Rattle.vote_journal.specs.Text.{magic, half_entries, both_have_entries, blocks, HasBytes, HoldsEntries}

-- one half has these entries, with or without one more, and the other is as it was
pub record MayGain (half : Half) (entries : List (List ℕ)) (payload spare : List ℕ) (c : Image) : Type 0 where
  pub here : HoldsEntries (half_of half c) entries ⊎ HoldsEntries (half_of half c) (entries ++ payload ∷ [])
  pub there : half_of (other half) c ≡ spare

-- one half has these entries or none, and the other is as it was
pub record MayLose (half : Half) (entries : List (List ℕ)) (spare : List ℕ) (c : Image) : Type 0 where
  pub here : HoldsEntries (half_of half c) entries ⊎ HoldsEntries (half_of half c) []
  pub there : half_of (other half) c ≡ spare

-- the first gate of one half is being closed, or what stands behind it is being cut off
abbrev pub MayShut : Half → Image → Image → Type 0
MayShut half old c = OnHalf half (TornWrite 8 1) old c ⊎ OnHalf half (Cut 9) (with_half half (overwritten 8 (0 ∷ []) (half_of half old)) old) c

-- the magic and a closed gate
abbrev pub begun : List ℕ
begun = magic ++ 0 ∷ []

-- a half that has at most 9 bytes is begun
abbrev pub begun_half : List ℕ → List ℕ
begun_half half = if nat_le (length half) 9 then begun else half

-- both halves are being begun
pub record BothTorn (old c : Image) : Type 0 where
  pub a : TornWrite 0 9 old.a c.a
  pub b : TornWrite 0 9 old.b c.b

-- a half is as it was, or it had at most 9 bytes and has no more
abbrev pub MayStart : List ℕ → List ℕ → Type 0
MayStart old new = (new ≡ old) ⊎ ((length old ≤ 9) × (length new ≤ 9))

pub record MayBegin (old c : Image) : Type 0 where
  pub a : MayStart old.a c.a
  pub b : MayStart old.b c.b

-- what was found in a half
pub record IsFoundIn (half : List ℕ) (entries : List (List ℕ)) (gate bytes : ℕ) (short : Bool) : Type 0 where
  pub are_bytes : HasBytes half
  pub is : entries ≡ half_entries half
  pub ends : gate ≡ length (blocks (half_entries half))
  pub total : bytes ≡ length (concat (half_entries half))
  pub small : 8 + gate < 2 ^ 63
  pub is_short : short ≡ nat_le (length half) 9

-- both halves once they are begun
abbrev pub begun_image : Image → Image
begun_image image = record { a = begun_half image.a; b = begun_half image.b }

-- and where both have entries, the spare one cut to its first gate, which is closed
abbrev pub arranged : Bool → Half → Image → Image
arranged false spare image = begun_image image
arranged true spare image = with_half spare (take 9 (overwritten 8 (0 ∷ []) (half_of spare (begun_image image)))) (begun_image image)

-- on the way there
abbrev pub MayArrange : Bool → Half → Image → Image → Type 0
MayArrange both spare old c = MayBegin old c ⊎ ((both ≡ true) × MayShut spare (begun_image old) c)

-- one half has its entries, and the other none
pub record Arranged (live : Half) (image new : Image) : Type 0 where
  pub live_holds : HoldsEntries (half_of live new) (half_entries (half_of live image))
  pub spare_holds : HoldsEntries (half_of (other live) new) []
  -- which is cut to its first gate where both had entries
  pub cut : both_have_entries image ≡ true → length (half_of (other live) new) ≡ 9

-- the other half has one entry of all the payloads, and the one that was live has none
pub record Folded (live : Half) (text : List ℕ) (new : Image) : Type 0 where
  pub one : HoldsEntries (half_of (other live) new) (text ∷ [])
  pub gone : HoldsEntries (half_of live new) []
  -- and no more than its magic and its first gate
  pub cut : length (half_of live new) ≡ 9
