-- Batches: what is read is spelled so, and what is spelled so is read.
use Rattle.std.proofs.Common.{◌≡◌, ℕ, zero, suc, ◌+◌, ◌-◌, ◌*◌, ◌^◌, ◌<◌, ◌≤◌, Bool, true, false, cond, ltb, eqb, ◌||◌, List, [], ◌∷◌, ◌++◌, length}
use Rattle.std.proofs.Common.{get_or, take, drop, Option, Some, None, refl, sym, ap, subst, ◌∙◌, append_assoc, add-zero, arith}
use Rattle.std.specs.List.{flat_map, AllByRecursion}
use Rattle.std.specs.Int.{w16, from_be_bytes, to_be_bytes}
use Rattle.std.proofs.lemmas.Bool.{ltb-false, le-ltb, eqb-true}
use Rattle.std.proofs.lemmas.List.{take-append-drop, length-append, length-take-le, append-nil, nil_from_length, drop-drop, take_more, take_all}
use Rattle.std.proofs.lemmas.List.{take_rest, get_or-drop, length-drop}
use Rattle.std.proofs.lemmas.Nat.{be_bytes_2, from_be_bytes-to_be_bytes_2}
use Rattle.std.specs.Prelude.{IfOk, Result, Ok, Err}
use Rattle.hb_base.specs.ByteLists.{AreBytes}
use Rattle.hb_base.specs.Limits.{most_batch, longest_transaction, longest_value, IsTransaction}
use Rattle.hb_wire.specs.Reading.{◌>>=◌, block_at}
use Rattle.hb_wire.specs.Batches.{transaction_bytes, batch_bytes, IsBatch, short_at, transaction_at, transactions_at, spelled_batch, or_none}
use Rattle.hb_wire.specs.Batches.{batch_of, after_transactions, count_at}
use Rattle.hb_wire.proofs.FieldLemmas.{IsBytes, IsBytes-drop, IsBytes-take, some, some_is, bind_some, guard_some, test_some, either_false}
use Rattle.hb_wire.proofs.FieldLemmas.{block_takes, block_again}

-- ---- a loop over transactions

pub transactions_go_on : (count i : ℕ) (bytes rest transaction : List ℕ) → i < count → transaction_at bytes ≡ Some (transaction, rest)
    → after_transactions (count - i) bytes ≡ after_transactions (count - (i + 1)) rest
unfolding after_transactions
transactions_go_on count i bytes rest transaction inside read =
    let step : count - i ≡ suc (count - (i + 1)) = omega arith in
    rw (step, read) refl

pub transactions_stop : (count i : ℕ) (bytes : List ℕ) → i < count → transaction_at bytes ≡ None → after_transactions (count - i) bytes ≡ None
unfolding after_transactions
transactions_stop count i bytes inside read =
    let step : count - i ≡ suc (count - (i + 1)) = omega arith in
    rw (step, read) refl

pub transactions_end : (count i : ℕ) (bytes : List ℕ) → count ≤ i → after_transactions (count - i) bytes ≡ Some bytes
unfolding after_transactions
transactions_end count i bytes past =
    let none : count - i ≡ 0 = omega arith in
    rw none refl

-- ---- one transaction

short_takes : (bytes : List ℕ) (n : ℕ) (rest : List ℕ) → IsBytes bytes → short_at bytes ≡ Some (n, rest)
    → (bytes ≡ to_be_bytes w16 n ++ rest) × IsBytes rest
short_takes bytes n rest fits e =
    let g = guard_some (ltb (length bytes) 2) (Some (from_be_bytes w16 (take 2 bytes), drop 2 bytes)) (n, rest) e in
    let long : 2 ≤ length bytes = ltb-false (length bytes) 2 g.0 in
    let same : (from_be_bytes w16 (take 2 bytes), drop 2 bytes) ≡ (n, rest) = some_is (from_be_bytes w16 (take 2 bytes), drop 2 bytes) (n, rest) g.1 in
    let front : to_be_bytes w16 (from_be_bytes w16 (take 2 bytes)) ≡ take 2 bytes = be_bytes_2 (take 2 bytes) _ (length-take-le 2 bytes long) (IsBytes-take 2 bytes fits) refl in
    subst (λ (p : ℕ × List ℕ). (bytes ≡ to_be_bytes w16 p.0 ++ p.1) × IsBytes p.1) same
    (sym (take-append-drop 2 bytes) ∙ ap (λ (xs : List ℕ). xs ++ drop 2 bytes) (sym front), IsBytes-drop 2 bytes fits)

short_again : (n : ℕ) (rest : List ℕ) → n < 2 ^ 16 → short_at (to_be_bytes w16 n ++ rest) ≡ Some (n, rest)
short_again n rest small =
    let long : ltb (length (to_be_bytes w16 n ++ rest)) 2 ≡ false = le-ltb _ _ (omega (arith, length-append (to_be_bytes w16 n) rest)) in
    rw long (ap (λ m. some (m, rest)) (from_be_bytes-to_be_bytes_2 n small))

transaction_takes : (bytes text rest : List ℕ) → IsBytes bytes → transaction_at bytes ≡ Some (text, rest)
    → IsTransaction text × (bytes ≡ transaction_bytes text ++ rest) × IsBytes rest
unfolding transaction_at
transaction_takes bytes text rest fits e =
    let a = bind_some (short_at bytes) (λ n. cond (ltb n.0 1 || ltb longest_transaction n.0) None (block_at n.0 n.1)) (text, rest) e in
    let t = short_takes bytes a.0.0 a.0.1 fits a.1 in
    let g = guard_some (ltb a.0.0 1 || ltb longest_transaction a.0.0) (block_at a.0.0 a.0.1) (text, rest) a.2 in
    let within = either_false (ltb a.0.0 1) (ltb longest_transaction a.0.0) g.0 in
    let low : 1 ≤ a.0.0 = ltb-false a.0.0 1 within.0 in
    let high : a.0.0 ≤ 256 = ltb-false 256 a.0.0 within.1 in
    let u = block_takes a.0.0 a.0.1 text rest t.1 g.1 in
    let len : length text ≡ a.0.0 = u.0.0 in
    let parts : bytes ≡ transaction_bytes text ++ rest =
    t.0 ∙ ap (λ (r : List ℕ). to_be_bytes w16 a.0.0 ++ r) u.1 ∙ sym (append_assoc (to_be_bytes w16 a.0.0) text rest)
    ∙ ap (λ k. (to_be_bytes w16 k ++ text) ++ rest) (sym len)
    in
    ((omega arith, omega arith), parts, u.2)

transaction_again : (text rest : List ℕ) → IsTransaction text → transaction_at (transaction_bytes text ++ rest) ≡ Some (text, rest)
unfolding transaction_at
transaction_again text rest fits =
    let low : ltb (length text) 1 ≡ false = le-ltb (length text) 1 fits.0 in
    let high : ltb 256 (length text) ≡ false = le-ltb 256 (length text) fits.1 in
    let short : length text < 2 ^ 16 = omega arith in
    ap transaction_at (append_assoc (to_be_bytes w16 (length text)) text rest)
    ∙ ap (λ (r : Option (ℕ × List ℕ)). r >>= λ n. cond (ltb n.0 1 || ltb longest_transaction n.0) None (block_at n.0 n.1)) (short_again (length text) (text ++ rest) short)
    ∙ rw (low, high) (block_again (length text) text rest refl)

-- ---- several

pub record TakesAll (count : ℕ) (bytes : List ℕ) (texts : List (List ℕ)) (rest : List ℕ) : Type 0 where
  pub count_is : length texts ≡ count
  pub fit : AllByRecursion IsTransaction texts
  pub parts : bytes ≡ flat_map transaction_bytes texts ++ rest

transactions_take : (count : ℕ) (bytes : List ℕ) (texts : List (List ℕ)) (rest : List ℕ) → IsBytes bytes
    → transactions_at count bytes ≡ Some (texts, rest) → TakesAll count bytes texts rest
unfolding transactions_at
transactions_take zero bytes texts rest fits e =
    let none : List (List ℕ) × List ℕ = ([], bytes) in
    subst (λ (w : List (List ℕ) × List ℕ). TakesAll 0 bytes w.0 w.1) (some_is none (texts, rest) e) (record { count_is = refl; fit = tt; parts = refl })
transactions_take (suc count) bytes texts rest fits e =
    let a = bind_some (transaction_at bytes) (λ first. transactions_at count first.1 >>= λ others. Some (first.0 ∷ others.0, others.1)) (texts, rest) e in
    let b = bind_some (transactions_at count a.0.1) (λ others. Some (a.0.0 ∷ others.0, others.1)) (texts, rest) a.2 in
    let t = transaction_takes bytes a.0.0 a.0.1 fits a.1 in
    let u = transactions_take count a.0.1 b.0.0 b.0.1 t.2 b.1 in
    let whole : List (List ℕ) × List ℕ = (a.0.0 ∷ b.0.0, b.0.1) in
    let taken : TakesAll (suc count) bytes (a.0.0 ∷ b.0.0) b.0.1 = record {
      count_is = ap suc u.count_is;
      fit = (t.0, u.fit);
      parts = t.1 ∙ ap (λ (r : List ℕ). transaction_bytes a.0.0 ++ r) u.parts ∙ sym (append_assoc (transaction_bytes a.0.0) (flat_map transaction_bytes b.0.0) b.0.1);
    }
    in
    subst (λ (w : List (List ℕ) × List ℕ). TakesAll (suc count) bytes w.0 w.1) (some_is whole (texts, rest) b.2) taken

transactions_again : (texts : List (List ℕ)) (rest : List ℕ) → AllByRecursion IsTransaction texts
    → transactions_at (length texts) (flat_map transaction_bytes texts ++ rest) ≡ Some (texts, rest)
unfolding transactions_at
transactions_again [] rest fit = refl
transactions_again (text ∷ texts) rest fit =
    let others = flat_map transaction_bytes texts ++ rest in
    ap (λ bs. transaction_at bs >>= λ first. transactions_at (length texts) first.1 >>= λ o. Some (first.0 ∷ o.0, o.1)) (append_assoc (transaction_bytes text) (flat_map transaction_bytes texts) rest)
    ∙ ap (λ (r : Option (List ℕ × List ℕ)). r >>= λ first. transactions_at (length texts) first.1 >>= λ o. Some (first.0 ∷ o.0, o.1)) (transaction_again text others fit.0)
    ∙ ap (λ (r : Option (List (List ℕ) × List ℕ)). r >>= λ o. Some (text ∷ o.0, o.1)) (transactions_again texts rest fit.1)

-- ---- the two laws of batches

-- what is read of a batch
pub record ReadsBatch (bytes : List ℕ) (batch : List (List ℕ)) : Type 0 where
  pub count : ℕ
  pub body : List ℕ
  pub first : short_at bytes ≡ Some (count, body)
  pub few : count ≤ 64
  pub others : transactions_at count body ≡ Some (batch, [])

batch_reads : (bytes : List ℕ) (batch : List (List ℕ)) → spelled_batch bytes ≡ Some batch → ReadsBatch bytes batch
unfolding spelled_batch
batch_reads bytes batch e =
    let a = bind_some (short_at bytes) (λ n. cond (ltb most_batch n.0) None (transactions_at n.0 n.1 >>= λ x. cond (eqb (length x.1) 0) (Some x.0) None)) batch e in
    let g = guard_some (ltb most_batch a.0.0) (transactions_at a.0.0 a.0.1 >>= λ x. cond (eqb (length x.1) 0) (Some x.0) None) batch a.2 in
    let b = bind_some (transactions_at a.0.0 a.0.1) (λ x. cond (eqb (length x.1) 0) (Some x.0) None) batch g.1 in
    let h = test_some (eqb (length b.0.1) 0) (Some b.0.0) batch b.2 in
    let nothing : b.0.1 ≡ [] = nil_from_length b.0.1 (eqb-true (length b.0.1) 0 h.0) in
    let is : b.0.0 ≡ batch = some_is b.0.0 batch h.1 in
    record {
      count = a.0.0;
      body = a.0.1;
      first = a.1;
      few = ltb-false 64 a.0.0 g.0;
      others = b.1 ∙ ap (λ (r : List ℕ). some (b.0.0, r)) nothing ∙ ap (λ (t : List (List ℕ)). some {A = List (List ℕ) × List ℕ} (t, [])) is;
    }

pub batch_takes : (bytes : List ℕ) (batch : List (List ℕ)) → IsBytes bytes → spelled_batch bytes ≡ Some batch
    → IsBatch batch × (bytes ≡ batch_bytes batch)
batch_takes bytes batch fits e =
    let r = batch_reads bytes batch e in
    let t = short_takes bytes r.count r.body fits r.first in
    let u = transactions_take r.count r.body batch [] t.1 r.others in (
      record { few = rw u.count_is r.few; fit = u.fit },
      t.0 ∙ ap (λ (b : List ℕ). to_be_bytes w16 r.count ++ b) (u.parts ∙ append-nil (flat_map transaction_bytes batch))
          ∙ ap (λ k. to_be_bytes w16 k ++ flat_map transaction_bytes batch) (sym u.count_is),
    )

pub batch_again : (batch : List (List ℕ)) → IsBatch batch → spelled_batch (batch_bytes batch) ≡ Some batch
unfolding spelled_batch
batch_again batch is =
    let few : ltb 64 (length batch) ≡ false = le-ltb 64 (length batch) is.few in
    let small : length batch < 2 ^ 16 = omega (arith, is.few) in
    let body : transactions_at (length batch) (flat_map transaction_bytes batch) ≡ Some (batch, []) =
    ap (transactions_at (length batch)) (sym (append-nil (flat_map transaction_bytes batch))) ∙ transactions_again batch [] is.fit
    in
    ap (λ (r : Option (ℕ × List ℕ)). r >>= λ n. cond (ltb most_batch n.0) None (transactions_at n.0 n.1 >>= λ x. cond (eqb (length x.1) 0) (Some x.0) None)) (short_again (length batch) (flat_map transaction_bytes batch) small)
    ∙ rw few (ap (λ (r : Option (List (List ℕ) × List ℕ)). r >>= λ x. cond (eqb (length x.1) 0) (Some x.0) None) body)

pub read_back : (batch : List (List ℕ)) → IsBatch batch → batch_of (batch_bytes batch) ≡ batch
read_back batch is = ap or_none (batch_again batch is)

spelled_by : (bytes : List ℕ) (r : Option (List (List ℕ))) → IsBytes bytes → spelled_batch bytes ≡ r → 0 < length (or_none r)
    → IsBatch (or_none r) × (bytes ≡ batch_bytes (or_none r))
spelled_by bytes None fits e some = absurd (omega arith)
spelled_by bytes (Some batch) fits e some = batch_takes bytes batch fits e

-- bytes from which something is read are its spelling
pub batch_spelled : (bytes : List ℕ) → IsBytes bytes → 0 < length (batch_of bytes) → IsBatch (batch_of bytes) × (bytes ≡ batch_bytes (batch_of bytes))
batch_spelled bytes fits some = spelled_by bytes (spelled_batch bytes) fits refl some

-- ---- the count

rest_of : Option (List (List ℕ) × List ℕ) → Option (List ℕ)
rest_of None = None
rest_of (Some x) = Some x.1

abbrev counted : Option (List (List ℕ)) → Option ℕ
counted None = None
counted (Some batch) = Some (length batch)

rest_behind : (text : List ℕ) (r : Option (List (List ℕ) × List ℕ)) → rest_of r ≡ rest_of (r >>= λ o. Some (text ∷ o.0, o.1))
unfolding rest_of
rest_behind text None = refl
rest_behind text (Some x) = refl

after_step : (count : ℕ) → ((bytes : List ℕ) → after_transactions count bytes ≡ rest_of (transactions_at count bytes))
    → (r : Option (List ℕ × List ℕ))
    → (r >>= λ first. after_transactions count first.1) ≡ rest_of (r >>= λ first. transactions_at count first.1 >>= λ o. Some (first.0 ∷ o.0, o.1))
unfolding rest_of
after_step count below None = refl
after_step count below (Some x) = below x.1 ∙ rest_behind x.0 (transactions_at count x.1)

after_is : (count : ℕ) (bytes : List ℕ) → after_transactions count bytes ≡ rest_of (transactions_at count bytes)
unfolding after_transactions transactions_at rest_of
after_is zero bytes = refl
after_is (suc count) bytes = after_step count (after_is count) (transaction_at bytes)

length_read : (count : ℕ) (bytes : List ℕ) (x : List (List ℕ) × List ℕ) → transactions_at count bytes ≡ Some x → length x.0 ≡ count
unfolding transactions_at
length_read zero bytes x e =
    let none : List (List ℕ) × List ℕ = ([], bytes) in
    let same : none ≡ x = some_is none x e in
    ap (λ (w : List (List ℕ) × List ℕ). length w.0) (sym same)
length_read (suc count) bytes x e =
    let a = bind_some (transaction_at bytes) (λ first. transactions_at count first.1 >>= λ others. Some (first.0 ∷ others.0, others.1)) x e in
    let b = bind_some (transactions_at count a.0.1) (λ others. Some (a.0.0 ∷ others.0, others.1)) x a.2 in
    let whole : List (List ℕ) × List ℕ = (a.0.0 ∷ b.0.0, b.0.1) in
    let same : whole ≡ x = some_is whole x b.2 in
    ap (λ (w : List (List ℕ) × List ℕ). length w.0) (sym same) ∙ ap suc (length_read count a.0.1 b.0 b.1)

tested : (test : Bool) (count : ℕ) (batch : List (List ℕ)) → length batch ≡ count
    → cond test (some count) None ≡ counted (cond test (some batch) None)
tested true count batch e = ap some (sym e)
tested false count batch e = refl

ended_alike : (count : ℕ) (r : Option (List (List ℕ) × List ℕ)) → ((x : List (List ℕ) × List ℕ) → r ≡ Some x → length x.0 ≡ count)
    → (rest_of r >>= λ rest. cond (eqb (length rest) 0) (some count) None) ≡ counted (r >>= λ x. cond (eqb (length x.1) 0) (some x.0) None)
unfolding rest_of
ended_alike count None len = refl
ended_alike count (Some x) len = tested (eqb (length x.1) 0) count x.0 (len x refl)

guarded_alike : (test : Bool) (n : ℕ × List ℕ)
    → cond test None (after_transactions n.0 n.1 >>= λ rest. cond (eqb (length rest) 0) (some n.0) None) ≡ counted (cond test None (transactions_at n.0 n.1 >>= λ x. cond (eqb (length x.1) 0) (some x.0) None))
guarded_alike true n = refl
guarded_alike false n =
    ap (λ (r : Option (List ℕ)). r >>= λ rest. cond (eqb (length rest) 0) (some n.0) None) (after_is n.0 n.1)
    ∙ ended_alike n.0 (transactions_at n.0 n.1) (λ x e. length_read n.0 n.1 x e)

count_alike : (r : Option (ℕ × List ℕ))
    → (r >>= λ n. cond (ltb most_batch n.0) None (after_transactions n.0 n.1 >>= λ rest. cond (eqb (length rest) 0) (some n.0) None)) ≡ counted (r >>= λ n. cond (ltb most_batch n.0) None (transactions_at n.0 n.1 >>= λ x. cond (eqb (length x.1) 0) (some x.0) None))
count_alike None = refl
count_alike (Some n) = guarded_alike (ltb most_batch n.0) n

count_is : (bytes : List ℕ) → count_at bytes ≡ counted (spelled_batch bytes)
unfolding count_at spelled_batch
count_is bytes = count_alike (short_at bytes)

len_some : (r : Option (List (List ℕ))) (count : ℕ) → counted r ≡ Some count → count ≡ length (or_none r)
len_some None count e = absurd cc
len_some (Some batch) count e = sym (some_is (length batch) count e)

len_none : (r : Option (List (List ℕ))) → counted r ≡ None → 0 ≡ length (or_none r)
len_none None e = refl
len_none (Some batch) e = absurd cc

pub count_some : (bytes : List ℕ) (count : ℕ) → count_at bytes ≡ Some count → count ≡ length (batch_of bytes)
count_some bytes count e = len_some (spelled_batch bytes) count (sym (count_is bytes) ∙ e)

pub count_none : (bytes : List ℕ) → count_at bytes ≡ None → 0 ≡ length (batch_of bytes)
count_none bytes e = len_none (spelled_batch bytes) (sym (count_is bytes) ∙ e)

-- ---- where the transactions of a batch lie

pub record Lies (bytes : List ℕ) (batch : List (List ℕ)) : Type 0 where
  pub long : 2 ≤ length bytes
  pub body : transactions_at (length batch) (drop 2 bytes) ≡ Some (batch, [])

batch_lies : (bytes : List ℕ) (batch : List (List ℕ)) → spelled_batch bytes ≡ Some batch → Lies bytes batch
batch_lies bytes batch e =
    let r = batch_reads bytes batch e in
    let g = guard_some (ltb (length bytes) 2) (Some (from_be_bytes w16 (take 2 bytes), drop 2 bytes)) (r.count, r.body) r.first in
    let front : ℕ × List ℕ = (from_be_bytes w16 (take 2 bytes), drop 2 bytes) in
    let read : ℕ × List ℕ = (r.count, r.body) in
    let same : front ≡ read = some_is front read g.1 in
    let rest : drop 2 bytes ≡ r.body = ap (λ (p : ℕ × List ℕ). p.1) same in
    let count : length batch ≡ r.count = length_read r.count r.body (batch, []) r.others in
    record {
      long = ltb-false (length bytes) 2 g.0;
      body = ap (λ k. transactions_at k (drop 2 bytes)) count ∙ ap (transactions_at r.count) rest ∙ r.others;
    }

lies_by : (bytes : List ℕ) (r : Option (List (List ℕ))) → spelled_batch bytes ≡ r → 0 < length (or_none r) → Lies bytes (or_none r)
lies_by bytes None e some = absurd (omega arith)
lies_by bytes (Some batch) e some = batch_lies bytes batch e

pub lies : (bytes : List ℕ) → 0 < length (batch_of bytes) → Lies bytes (batch_of bytes)
lies bytes some = lies_by bytes (spelled_batch bytes) refl some

-- transaction t stands behind t others
pub record Stands (t : ℕ) (bytes : List ℕ) (texts : List (List ℕ)) : Type 0 where
  pub left : List ℕ
  pub text : List ℕ
  pub after : List ℕ
  pub reached : after_transactions t bytes ≡ Some left
  pub read : transaction_at left ≡ Some (text, after)
  pub is : (d : List ℕ) → get_or texts t d ≡ text

pub stands : (count t : ℕ) (bytes : List ℕ) (x : List (List ℕ) × List ℕ) → transactions_at count bytes ≡ Some x → t < count → Stands t bytes x.0
unfolding transactions_at after_transactions
stands zero t bytes x e inside = absurd (omega arith)
stands (suc count) zero bytes x e inside =
    let a = bind_some (transaction_at bytes) (λ first. transactions_at count first.1 >>= λ others. Some (first.0 ∷ others.0, others.1)) x e in
    let b = bind_some (transactions_at count a.0.1) (λ others. Some (a.0.0 ∷ others.0, others.1)) x a.2 in
    let whole : List (List ℕ) × List ℕ = (a.0.0 ∷ b.0.0, b.0.1) in
    let same : whole ≡ x = some_is whole x b.2 in
    record { left = bytes; text = a.0.0; after = a.0.1; reached = refl; read = a.1; is = λ d. ap (λ (w : List (List ℕ) × List ℕ). get_or w.0 0 d) (sym same) }
stands (suc count) (suc t) bytes x e inside =
    let a = bind_some (transaction_at bytes) (λ first. transactions_at count first.1 >>= λ others. Some (first.0 ∷ others.0, others.1)) x e in
    let b = bind_some (transactions_at count a.0.1) (λ others. Some (a.0.0 ∷ others.0, others.1)) x a.2 in
    let whole : List (List ℕ) × List ℕ = (a.0.0 ∷ b.0.0, b.0.1) in
    let same : whole ≡ x = some_is whole x b.2 in
    let s = stands count t a.0.1 b.0 b.1 (omega arith) in
    record {
      left = s.left;
      text = s.text;
      after = s.after;
      reached = ap (λ (r : Option (List ℕ × List ℕ)). r >>= λ first. after_transactions t first.1) a.1 ∙ s.reached;
      read = s.read;
      is = λ d. ap (λ (w : List (List ℕ) × List ℕ). get_or w.0 (suc t) d) (sym same) ∙ s.is d;
    }

-- ---- a loop that takes them as parts

-- a transaction that is read from the bytes behind a place is a part of the bytes
pub record IsPart (at : ℕ) (bytes text : List ℕ) : Type 0 where
  pub within : at + (2 + length text) ≤ length bytes
  pub is : take (length text) (drop (at + 2) bytes) ≡ text
  pub read : transaction_at (drop at bytes) ≡ Some (text, drop (at + (2 + length text)) bytes)

part_here : (bytes text rest : List ℕ) → transaction_at bytes ≡ Some (text, rest)
    → (2 + length text ≤ length bytes) × (take (length text) (drop 2 bytes) ≡ text) × (drop (2 + length text) bytes ≡ rest)
unfolding transaction_at
part_here bytes text rest e =
    let a = bind_some (short_at bytes) (λ n. cond (ltb n.0 1 || ltb longest_transaction n.0) None (block_at n.0 n.1)) (text, rest) e in
    let s = guard_some (ltb (length bytes) 2) (Some (from_be_bytes w16 (take 2 bytes), drop 2 bytes)) a.0 a.1 in
    let short : (from_be_bytes w16 (take 2 bytes), drop 2 bytes) ≡ a.0 = some_is (from_be_bytes w16 (take 2 bytes), drop 2 bytes) a.0 s.1 in
    let behind : drop 2 bytes ≡ a.0.1 = ap (λ (p : ℕ × List ℕ). p.1) short in
    let g = guard_some (ltb a.0.0 1 || ltb longest_transaction a.0.0) (block_at a.0.0 a.0.1) (text, rest) a.2 in
    let b = guard_some (ltb (length a.0.1) a.0.0) (Some (take a.0.0 a.0.1, drop a.0.0 a.0.1)) (text, rest) g.1 in
    let inside : a.0.0 ≤ length a.0.1 = ltb-false (length a.0.1) a.0.0 b.0 in
    let parts : List ℕ × List ℕ = (take a.0.0 a.0.1, drop a.0.0 a.0.1) in
    let read : List ℕ × List ℕ = (text, rest) in
    let block : parts ≡ read = some_is parts read b.1 in
    let front : take a.0.0 a.0.1 ≡ text = ap (λ (p : List ℕ × List ℕ). p.0) block in
    let len : length text ≡ a.0.0 = ap length (sym front) ∙ length-take-le a.0.0 a.0.1 inside in
    let long : 2 ≤ length bytes = ltb-false (length bytes) 2 s.0 in
    let room : 2 + length text ≤ length bytes = omega (arith, len, inside, ap length behind, length-drop 2 bytes) in (
      room,
      ap (λ k. take k (drop 2 bytes)) len ∙ ap (take a.0.0) behind ∙ front,
      ap (λ k. drop (2 + k) bytes) len ∙ sym (drop-drop a.0.0 2 bytes) ∙ ap (drop a.0.0) behind ∙ ap (λ (p : List ℕ × List ℕ). p.1) block,
    )

behind_is : (at : ℕ) (bytes lent : List ℕ) → lent ≡ bytes → take (length lent - at) (drop at lent) ≡ drop at bytes
behind_is at bytes lent same = take_rest lent at ∙ ap (drop at) same

pub part_at : (at : ℕ) (bytes lent text rest : List ℕ) → lent ≡ bytes → at ≤ length bytes
    → transaction_at (take (length lent - at) (drop at lent)) ≡ Some (text, rest) → IsPart at bytes text
part_at at bytes lent text rest same inside e =
    let read : transaction_at (drop at bytes) ≡ Some (text, rest) = ap transaction_at (sym (behind_is at bytes lent same)) ∙ e in
    let p = part_here (drop at bytes) text rest read in
    record {
      within = omega (arith, p.0, length-drop at bytes, inside);
      is = ap (take (length text)) (sym (drop-drop 2 at bytes)) ∙ p.1;
      read = read ∙ ap (λ (r : List ℕ). some (text, r)) (sym p.2 ∙ drop-drop (2 + length text) at bytes);
    }

pub walk_step : (count i : ℕ) (left text after end : List ℕ) (texts items : List (List ℕ)) → i < count → transaction_at left ≡ Some (text, after)
    → transactions_at (count - i) left ≡ Some (drop i texts, end) → items ≡ take i texts
    → (transactions_at (count - (i + 1)) after ≡ Some (drop (i + 1) texts, end)) × (items ++ text ∷ [] ≡ take (i + 1) texts)
unfolding transactions_at
walk_step count i left text after end texts items inside read rest front =
    let k = count - (i + 1) in
    let step : count - i ≡ suc k = omega arith in
    let f : Option (List ℕ × List ℕ) → Option (List (List ℕ) × List ℕ) = λ r. r >>= λ first. transactions_at k first.1 >>= λ others. Some (first.0 ∷ others.0, others.1) in
    let one : transactions_at (suc k) left ≡ f (some (text, after)) = ap f read in
    let rest_is : transactions_at (suc k) left ≡ Some (drop i texts, end) = ap (λ j. transactions_at j left) (sym step) ∙ rest in
    let read_rest : f (some (text, after)) ≡ Some (drop i texts, end) = sym one ∙ rest_is in
    let b = bind_some (transactions_at k after) (λ others. Some (text ∷ others.0, others.1)) (drop i texts, end) read_rest in
    let whole : List (List ℕ) × List ℕ = (text ∷ b.0.0, b.0.1) in
    let wanted : List (List ℕ) × List ℕ = (drop i texts, end) in
    let same : whole ≡ wanted = some_is whole wanted b.2 in
    let list : text ∷ b.0.0 ≡ drop i texts = ap (λ (w : List (List ℕ) × List ℕ). w.0) same in
    let ends : b.0.1 ≡ end = ap (λ (w : List (List ℕ) × List ℕ). w.1) same in
    let below : i < length texts = omega (arith, length-drop i texts, ap length list) in
    let others : b.0.0 ≡ drop (i + 1) texts = ap (drop 1) list ∙ drop-drop 1 i texts in
    let at : get_or texts i [] ≡ text = ap (λ j. get_or texts j []) (sym (add-zero i)) ∙ sym (get_or-drop i texts 0 []) ∙ ap (λ xs. get_or xs 0 []) (sym list) in (
      b.1 ∙ ap (λ (xs : List (List ℕ)). some (xs, b.0.1)) others ∙ ap (λ (r : List ℕ). some (drop (i + 1) texts, r)) ends,
      ap (λ xs. xs ++ text ∷ []) front ∙ ap (λ y. take i texts ++ y ∷ []) (sym at) ∙ sym (take_more texts i [] below),
    )

pub none_at : (at : ℕ) (bytes lent : List ℕ) → lent ≡ bytes → transaction_at (take (length lent - at) (drop at lent)) ≡ None
    → transaction_at (drop at bytes) ≡ None
none_at at bytes lent same e = ap transaction_at (sym (behind_is at bytes lent same)) ∙ e

pub walk_stop : (count i : ℕ) (left : List ℕ) (y : List (List ℕ) × List ℕ) → i < count → transaction_at left ≡ None
    → transactions_at (count - i) left ≡ Some y → ⊥
unfolding transactions_at
walk_stop count i left y inside read rest =
    let k = count - (i + 1) in
    let step : count - i ≡ suc k = omega arith in
    let none : transactions_at (suc k) left ≡ None = ap (λ (r : Option (List ℕ × List ℕ)). r >>= λ first. transactions_at k first.1 >>= λ others. Some (first.0 ∷ others.0, others.1)) read in
    let some : transactions_at (suc k) left ≡ Some y = ap (λ j. transactions_at j left) (sym step) ∙ rest in
    cc

pub walk_end : (count i : ℕ) (bytes : List ℕ) (x : List (List ℕ) × List ℕ) (items : List (List ℕ)) → count ≤ i → transactions_at count bytes ≡ Some x
    → items ≡ take i x.0 → items ≡ x.0
walk_end count i bytes x items past e front = front ∙ take_all i x.0 (omega (arith, length_read count bytes x e))

-- ---- one transaction, behind t others

body_is : (bytes : List ℕ) → take (length bytes - 2) (drop 2 bytes) ≡ drop 2 bytes
body_is bytes = take_rest bytes 2

stands_in : (bytes : List ℕ) (t : ℕ) → t < length (batch_of bytes) → Stands t (take (length bytes - 2) (drop 2 bytes)) (batch_of bytes)
stands_in bytes t inside =
    let whole : List (List ℕ) × List ℕ = (batch_of bytes, []) in
    let some : 0 < length (batch_of bytes) = omega arith in
    subst (λ (bs : List ℕ). Stands t bs (batch_of bytes)) (sym (body_is bytes)) (stands (length (batch_of bytes)) t (drop 2 bytes) whole (lies bytes some).body inside)

pub reached : (bytes : List ℕ) (t : ℕ) → t < length (batch_of bytes) → after_transactions t (take (length bytes - 2) (drop 2 bytes)) ≡ None → ⊥
reached bytes t inside none = let s = (stands_in bytes t inside).reached in cc

pub stands_there : (bytes left : List ℕ) (t : ℕ) → t < length (batch_of bytes)
    → after_transactions t (take (length bytes - 2) (drop 2 bytes)) ≡ Some left → transaction_at left ≡ None → ⊥
stands_there bytes left t inside at none =
    let s = stands_in bytes t inside in
    let same : s.left ≡ left = some_is s.left left (sym s.reached ∙ at) in
    let read : transaction_at left ≡ Some (s.text, s.after) = ap transaction_at (sym same) ∙ s.read in
    cc

pub found_there : (bytes left text after : List ℕ) (t : ℕ) → t < length (batch_of bytes)
    → after_transactions t (take (length bytes - 2) (drop 2 bytes)) ≡ Some left → transaction_at left ≡ Some (text, after)
    → (d : List ℕ) → get_or (batch_of bytes) t d ≡ text
found_there bytes left text after t inside at read d =
    let s = stands_in bytes t inside in
    let same : s.left ≡ left = some_is s.left left (sym s.reached ∙ at) in
    let one : List ℕ × List ℕ = (s.text, s.after) in
    let other : List ℕ × List ℕ = (text, after) in
    let both : one ≡ other = some_is one other (sym s.read ∙ ap transaction_at same ∙ read) in
    s.is d ∙ ap (λ (p : List ℕ × List ℕ). p.0) both

-- ---- what is written

-- each transaction is short
pub transaction_short : (batch : List (List ℕ)) (k : ℕ) (d : List ℕ) → AllByRecursion IsTransaction batch → k < length batch
    → length (get_or batch k d) ≤ longest_transaction
transaction_short [] k d fit inside = absurd (omega arith)
transaction_short (text ∷ texts) zero d fit inside = fit.0.1
transaction_short (text ∷ texts) (suc k) d fit inside = transaction_short texts k d fit.1 (omega arith)

transactions_short : (batch : List (List ℕ)) → AllByRecursion IsTransaction batch → length (flat_map transaction_bytes batch) ≤ 258 * length batch
transactions_short [] fit = omega arith
transactions_short (text ∷ texts) fit =
    let more = transactions_short texts fit.1 in
    omega (arith, length-append (transaction_bytes text) (flat_map transaction_bytes texts), fit.0.1, more)

batch_short : (batch : List (List ℕ)) → IsBatch batch → length (batch_bytes batch) ≤ longest_value
batch_short batch is =
    let all = transactions_short batch is.fit in
    omega (arith, all, is.few)

pub written_back : {E : Type 0} (batch : List (List ℕ)) (out : List ℕ) (r : Result (List ℕ) E) → IsBatch batch → out ≡ batch_bytes batch
    → IfOk r (λ bytes. bytes ≡ out)
    → IfOk r (λ bytes. batch_of bytes ≡ batch)
written_back batch out (Ok bytes) is spelled same = ap batch_of (same ∙ spelled) ∙ read_back batch is
written_back batch out (Err fault) is spelled same = tt

pub written_value : {E : Type 0} (batch : List (List ℕ)) (out : List ℕ) (r : Result (List ℕ) E) → IsBatch batch → out ≡ batch_bytes batch
    → AreBytes out → IfOk r (λ bytes. bytes ≡ out)
    → IfOk r (λ bytes. (length bytes ≤ longest_value) × AreBytes bytes)
written_value batch out (Ok bytes) is spelled fits same =
    let size : length bytes ≡ length (batch_bytes batch) = ap length (same ∙ spelled) in
    (omega (arith, batch_short batch is), subst AreBytes (sym same) fits)
written_value batch out (Err fault) is spelled fits same = tt
