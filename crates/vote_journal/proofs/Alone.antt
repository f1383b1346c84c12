-- What a read of the disk of a journal finds that may be appended to.
use Rattle.std.proofs.Common.{◌≡◌, ◌∷◌, [], ◌∙◌, ap, ap₂, refl, List, ℕ}
use Rattle.disk_model.specs.declared.disk.Half.{Half}
use Rattle.disk_model.specs.declared.disk.Half.TheVariants.{A, B}
use Rattle.disk_model.specs.Image.{Image, half_of, other}
use Rattle.vote_journal.specs.Text.{half_entries, live_by, live_half, live_entries, HoldsEntries}
use Rattle.vote_journal.proofs.Blocks.{holds_has}

-- entries of half A alone
live_first : (es : List (List ℕ)) → live_by es [] ≡ A
live_first [] = refl
live_first (e ∷ es) = refl

by_first : (image : Image) (es : List (List ℕ)) → half_entries image.a ≡ es → half_entries image.b ≡ [] → live_entries image ≡ es
by_first image es a b =
    let live : live_half image ≡ A = ap₂ live_by a b ∙ live_first es in
    ap (λ (half : Half). half_entries (half_of half image)) live ∙ a

-- entries of half B alone
by_second : (image : Image) (es : List (List ℕ)) → half_entries image.a ≡ [] → half_entries image.b ≡ es → live_entries image ≡ es
by_second image [] a b = ap (λ (half : Half). half_entries (half_of half image)) (ap₂ live_by a b) ∙ a
by_second image (e ∷ es) a b = ap (λ (half : Half). half_entries (half_of half image)) (ap₂ live_by a b) ∙ b

-- the entries of one half, where the other has none, are those of the disk
pub live_alone : (half : Half) (image : Image) (es : List (List ℕ)) → HoldsEntries (half_of half image) es
    → HoldsEntries (half_of (other half) image) [] → live_entries image ≡ es
live_alone A image es a b = by_first image es (holds_has image.a es a).has (holds_has image.b [] b).has
live_alone B image es a b = by_second image es (holds_has image.a [] b).has (holds_has image.b es a).has
