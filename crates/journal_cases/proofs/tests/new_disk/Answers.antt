use Rattle.std.proofs.Common.{◌≡◌, ◌≤◌, ℕ, List, [], ◌∷◌, length, refl, sym, ◌∙◌, ap, subst, arith}
use Rattle.disk_model.specs.Image.{Image}
use Rattle.disk_model.specs.Area.{at_rest}
use Rattle.disk_model.specs.Halves.{HalvesMayLeave, content_of}
use Rattle.disk_model.specs.Memory.{MemoryState}
use Rattle.vote_journal.specs.Calls.{IsEmpty}
use Rattle.journal_cases.proofs.tests.new_disk.Goals as goal

none : (xs : List ℕ) → length xs ≤ 0 → xs ≡ []
none [] h = refl
none (x ∷ xs) h = absurd (omega (arith, h))

-- of an empty disk with nothing pending a crash leaves an empty one
empty_left : (c : Image) → HalvesMayLeave (record { a = at_rest []; b = at_rest [] }) c → c ≡ record { a = []; b = [] }
empty_left c left =
    let a = none c.a (omega (arith, left.a.no_longer)) in
    let b = none c.b (omega (arith, left.b.no_longer)) in
    ap (λ (xs : List ℕ). record { a = xs; b = c.b }) a ∙ ap (λ (xs : List ℕ). record { a = []; b = xs }) b

pub returns : goal.returns
returns c =
    subst (λ (disk : MemoryState). IsEmpty (λ (d : MemoryState). content_of d.halves) (λ (d : MemoryState). HalvesMayLeave d.halves) disk)
    (sym c.new.ensures) (record { nothing = refl; durable = empty_left })
