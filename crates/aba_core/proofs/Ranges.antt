-- A test of the first rounds, one after the other, and by their numbers.
use Rattle.std.proofs.Common.{◌≡◌, ℕ, suc, ◌+◌, ◌<◌, ◌≤◌, Bool, ◌&&◌, List, [], ◌∷◌, length, take, slice_index_or, min, true, false, refl, ap, ◌∙◌, arith}
use Rattle.std.specs.List.{list_any, range_with_len}
use Rattle.std.proofs.lemmas.List.{get_or-take, length-take}
use Rattle.hb_rules.specs.AgreementRows.{was_settled}
use Rattle.hb_rules.specs.Claims.{is_bit}
use Rattle.hb_rules.specs.Marks.{single, pick}
use Rattle.aba_core.specs.declared.round.Round.{Round}
use Rattle.aba_core.specs.Bits.{holds}
use Rattle.aba_core.specs.Rounds.{blank}
use Rattle.aba_core.specs.State.{AbaView, round_in, view_at}

any_indexed : (p : Round → Bool) (q : ℕ → Bool) (low : ℕ) (xs : List Round) → ((k : ℕ) → k < length xs → p (slice_index_or xs k blank) ≡ q (low + k))
    → list_any p xs ≡ list_any q (range_with_len low (length xs))
any_indexed p q low [] same = refl
any_indexed p q low (x ∷ xs) same =
    let here : p x ≡ q low = same 0 (omega arith) ∙ ap q (let is : low + 0 ≡ low = omega arith in is) in
    rw (here, any_indexed p q (low + 1) xs (λ k below. same (suc k) (omega arith) ∙ ap q (let is : low + suc k ≡ (low + 1) + k = omega arith in is))) refl

settled_at : (a : AbaView) (b : Bool) (k : ℕ) → (holds (round_in a k).marks.picks b && is_bit b (round_in a k).coin)
    ≡ ((view_at a).cast (pick k (single b)) && is_bit b ((view_at a).coin k))
settled_at a true k = refl
settled_at a false k = refl

pub settled_before : (a : AbaView) (r : ℕ) (b : Bool) → r ≤ length a.rounds
    → list_any (λ (x : Round). holds x.marks.picks b && is_bit b x.coin) (take r a.rounds) ≡ was_settled (view_at a) r b
settled_before a r b inside =
    let size : length (take r a.rounds) ≡ r = length-take r a.rounds ∙ (let is : min r (length a.rounds) ≡ r = omega arith in is) in
    any_indexed (λ (x : Round). holds x.marks.picks b && is_bit b x.coin) (λ k. (view_at a).cast (pick k (single b)) && is_bit b ((view_at a).coin k)) 0 (take r a.rounds)
    (λ k below. ap (λ (x : Round). holds x.marks.picks b && is_bit b x.coin) (get_or-take r a.rounds k blank (omega (arith, below, size)))
    ∙ settled_at a b k ∙ ap (λ (m : ℕ). (view_at a).cast (pick m (single b)) && is_bit b ((view_at a).coin m)) (let is : k ≡ 0 + k = omega arith in is))
    ∙ ap (λ (n : ℕ). list_any (λ k. (view_at a).cast (pick k (single b)) && is_bit b ((view_at a).coin k)) (range_with_len 0 n)) size
