-- What the steps of a journal leave of an image, at each of their calls.
use Rattle.std.proofs.Common.{◌≡◌, ◌<◌, ◌+◌, ◌^◌, inl, inr, ℕ, true, List, [], ◌∷◌, ◌++◌, length, take, refl, sym, ◌∙◌, ap, subst, arith}
use Rattle.disk_model.specs.declared.disk.Half.{Half}
use Rattle.disk_model.specs.declared.disk.Half.TheVariants.{A, B}
use Rattle.disk_model.specs.Image.{Image, half_of, other, with_half}
use Rattle.disk_model.specs.Disk.{overwritten, TornWrite, Cut, OnHalf}
use Rattle.vote_journal.specs.Text.{size_bytes, blocks, is_some_entry, HoldsEntries}
use Rattle.vote_journal.specs.Steps.{MayGain, MayLose}
use Rattle.vote_journal.proofs.Tears.{Staged, torn_behind, cut_behind, staged, gate_opened, gate_torn, gate_shut, shut_torn}

pub half_with : (half : Half) (bytes : List ℕ) (image : Image) → half_of half (with_half half bytes image) ≡ bytes
half_with A bytes image = refl
half_with B bytes image = refl

pub other_with : (half : Half) (bytes : List ℕ) (image : Image) → half_of (other half) (with_half half bytes image) ≡ half_of (other half) image
other_with A bytes image = refl
other_with B bytes image = refl

-- what a call made of a half, and of the other
here_is : (half : Half) (bytes : List ℕ) (old new : Image) → new ≡ with_half half bytes old → half_of half new ≡ bytes
here_is half bytes old new e = ap (half_of half) e ∙ half_with half bytes old

pub there_is : (half : Half) (bytes : List ℕ) (old new : Image) → new ≡ with_half half bytes old → half_of (other half) new ≡ half_of (other half) old
there_is half bytes old new e = ap (half_of (other half)) e ∙ other_with half bytes old

pub gains_first : (half : Half) (image c : Image) (entries : List (List ℕ)) (payload : List ℕ) (gate n : ℕ) → HoldsEntries (half_of half image) entries
    → gate ≡ 8 + length (blocks entries)
    → OnHalf half (TornWrite (gate + 1) n) image c → MayGain half entries payload (half_of (other half) image) c
gains_first half image c entries payload gate n holds e torn =
    record { here = inl (torn_behind (half_of half image) (half_of half c) entries (gate + 1) n holds (omega (arith, e)) torn.here); there = torn.there }

module _ (half : Half) (image mid : Image) (entries : List (List ℕ)) (payload framed : List ℕ) (gate : ℕ)
    (holds : HoldsEntries (half_of half image) entries) (e : gate ≡ 8 + length (blocks entries))
    (f : framed ≡ size_bytes (length payload) ++ (payload ++ 0 ∷ [])) (short : length payload < 2 ^ 32)
    (wrote : mid ≡ with_half half (overwritten (gate + 1) framed (half_of half image)) image) where
  is_staged : Staged (half_of half mid) entries payload
  is_staged = subst (λ (bytes : List ℕ). Staged bytes entries payload) (sym (here_is half _ image mid wrote))
      (staged (half_of half image) entries payload framed (gate + 1) holds (omega (arith, e)) f)

  pub gains_second : (c : Image) → OnHalf half (TornWrite gate 1) mid c → MayGain half entries payload (half_of (other half) image) c
  gains_second c torn = record {
    here = gate_torn (half_of half mid) (half_of half c) entries payload gate is_staged e short torn.here;
    there = torn.there ∙ there_is half _ image mid wrote;
  }

  pub gained : (new : Image) → new ≡ with_half half (overwritten gate (0x5A ∷ []) (half_of half mid)) mid
      → HoldsEntries (half_of half new) (entries ++ payload ∷ [])
  gained new opened = subst (λ (bytes : List ℕ). HoldsEntries bytes (entries ++ payload ∷ [])) (sym (here_is half _ mid new opened))
      (gate_opened (half_of half mid) entries payload gate is_staged e short)

pub loses_first : (half : Half) (image c : Image) (entries : List (List ℕ)) → HoldsEntries (half_of half image) entries → is_some_entry entries ≡ true
    → OnHalf half (TornWrite 8 1) image c → MayLose half entries (half_of (other half) image) c
loses_first half image c [] holds some torn = absurd (cc)
loses_first half image c (entry ∷ entries) holds some torn =
    record { here = shut_torn (half_of half image) (half_of half c) entry entries holds torn.here; there = torn.there }

module _ (half : Half) (image mid : Image) (entries : List (List ℕ)) (holds : HoldsEntries (half_of half image) entries)
    (wrote : mid ≡ with_half half (overwritten 8 (0 ∷ []) (half_of half image)) image) where
  pub shut : HoldsEntries (half_of half mid) []
  shut = subst (λ (bytes : List ℕ). HoldsEntries bytes []) (sym (here_is half _ image mid wrote)) (gate_shut (half_of half image) entries holds)

  pub loses_second : (c : Image) → OnHalf half (Cut 9) mid c → MayLose half entries (half_of (other half) image) c
  loses_second c cut = record {
    here = inr (cut_behind (half_of half mid) (half_of half c) [] 9 shut (omega arith) cut.here);
    there = cut.there
        ∙ there_is half _ image mid wrote;
  }

with_again : (half : Half) (x y : List ℕ) (image : Image) → with_half half y (with_half half x image) ≡ with_half half y image
with_again A x y image = refl
with_again B x y image = refl

pub shut_is : (half : Half) (old mid new : Image) → mid ≡ with_half half (overwritten 8 (0 ∷ []) (half_of half old)) old
    → new ≡ with_half half (take 9 (half_of half mid)) mid
    → new ≡ with_half half (take 9 (overwritten 8 (0 ∷ []) (half_of half old))) old
shut_is half old mid new wrote cut =
    let shut = overwritten 8 (0 ∷ []) (half_of half old) in
    cut ∙ ap (λ (i : Image). with_half half (take 9 (half_of half i)) i) wrote
    ∙ ap (λ (bytes : List ℕ). with_half half (take 9 bytes) (with_half half shut old)) (half_with half shut old)
    ∙ with_again half shut (take 9 shut) old
