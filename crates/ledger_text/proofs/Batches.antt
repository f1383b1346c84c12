-- Batches and lists, by what is read of them.
use Rattle.std.proofs.Common.{◌≡◌, ℕ, zero, suc, ◌<◌, ◌≤◌, true, false, List, [], ◌∷◌, length, get_or, refl, ap, arith}
use Rattle.std.specs.List.{AllByRecursion, flat_map}
use Rattle.hb_base.specs.Limits.{longest_transaction, IsTransaction}
use Rattle.tx_pool.specs.Pool.{is_among}
use Rattle.ledger_text.specs.Lines.{tx_line}
use Rattle.ledger_text.specs.Text.{alone, tx_text}

-- each transaction of a batch fits into a line
pub tx_short : (batch : List (List ℕ)) (t : ℕ) (tx : List ℕ) → AllByRecursion IsTransaction batch → t < length batch → get_or batch t [] ≡ tx
    → length tx ≤ longest_transaction
tx_short [] t tx all inside is = absurd (omega arith)
tx_short (x ∷ batch) zero tx all inside is = omega (arith, all.0.1, ap length is)
tx_short (x ∷ batch) (suc t) tx all inside is = tx_short batch t tx all.1 (omega (arith, inside)) is

-- transactions alone are the transactions
pub all_alone : (txs : List (List ℕ)) → flat_map alone txs ≡ txs
all_alone [] = refl
all_alone (tx ∷ txs) = ap (λ (rest : List (List ℕ)). tx ∷ rest) (all_alone txs)

-- a transaction that stands before has no line, and any other has one
pub text_known : (before : List (List ℕ)) (tx : List ℕ) → is_among before tx ≡ true → tx_text before tx ≡ []
text_known before tx known = rw known refl

pub text_new : (before : List (List ℕ)) (tx : List ℕ) → is_among before tx ≡ false → tx_text before tx ≡ tx_line tx
text_new before tx new = rw new refl
