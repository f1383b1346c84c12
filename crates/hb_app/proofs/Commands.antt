-- Words and what they ask for.
use Rattle.std.proofs.Common.{◌≡◌, ℕ, List, [], length, slice_index_or, refl, sym, ap, ◌∙◌, arith}
use Rattle.std.proofs.lemmas.Fmt.{decimal_injective}
use Rattle.hb_app.specs.declared.command.Text.{Text}
use Rattle.hb_app.specs.declared.command.Text.TheVariants.{Ledgers, Trace, Observed, Accused}
use Rattle.hb_app.specs.Commands.{AsksRun, AsksAudit, AsksSoak, word_of}

-- words ask for one number
pub one_number : (words : List (List ℕ)) (n m : ℕ) → AsksSoak words n → AsksSoak words m → n ≡ m
one_number words n m first second =
    decimal_injective n m first.0 second.0 (ap (λ (ws : List (List ℕ)). slice_index_or ws 1 []) (sym first.1 ∙ second.1))

-- how many letters the word of a text has
abbrev letters : Text → ℕ
letters Ledgers = 3
letters Trace = 5
letters Observed = 7
letters Accused = 6

letters_of : (text : Text) → length (word_of text) ≡ letters text
letters_of Ledgers = refl
letters_of Trace = refl
letters_of Observed = refl
letters_of Accused = refl

same_letters : (one other : Text) → letters one ≡ letters other → one ≡ other
same_letters Ledgers Ledgers is = refl
same_letters Ledgers Trace is = absurd (omega (arith, is))
same_letters Ledgers Observed is = absurd (omega (arith, is))
same_letters Ledgers Accused is = absurd (omega (arith, is))
same_letters Trace Ledgers is = absurd (omega (arith, is))
same_letters Trace Trace is = refl
same_letters Trace Observed is = absurd (omega (arith, is))
same_letters Trace Accused is = absurd (omega (arith, is))
same_letters Observed Ledgers is = absurd (omega (arith, is))
same_letters Observed Trace is = absurd (omega (arith, is))
same_letters Observed Observed is = refl
same_letters Observed Accused is = absurd (omega (arith, is))
same_letters Accused Ledgers is = absurd (omega (arith, is))
same_letters Accused Trace is = absurd (omega (arith, is))
same_letters Accused Observed is = absurd (omega (arith, is))
same_letters Accused Accused is = refl

-- words ask for one text
pub one_text : (words : List (List ℕ)) (one other : Text) → AsksRun words one → AsksRun words other → one ≡ other
one_text words one other first second =
    same_letters one other
    (sym (letters_of one) ∙ ap (λ (ws : List (List ℕ)). length (slice_index_or ws 0 [])) (sym first ∙ second) ∙ letters_of other)

-- words that ask for a text ask for no verdict: the third letters differ
pub run_or_audit : (words : List (List ℕ)) (text : Text) → AsksRun words text → AsksAudit words → ⊥
run_or_audit words text run audit = by text (ap (λ (ws : List (List ℕ)). slice_index_or (slice_index_or ws 0 []) 2 0) (sym run ∙ audit))
  where
    by : (text : Text) → slice_index_or (word_of text) 2 0 ≡ 100 → ⊥
    by Ledgers is = omega (arith, is)
    by Trace is = omega (arith, is)
    by Observed is = omega (arith, is)
    by Accused is = omega (arith, is)
