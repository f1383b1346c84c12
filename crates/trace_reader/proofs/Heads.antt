-- The first line: what is read is spelled so, and what is spelled so is read.
use Rattle.std.proofs.Common.{◌≡◌, ℕ, ◌-◌, ◌^◌, ◌≤◌, Bool, List, [], ◌++◌, length, codes, Option, Some, None, decimal, refl, sym, ap, subst, ◌∙◌, append_assoc, arith}
use Rattle.std.specs.Prelude.{IsSome, IfNone, ◌↔◌}
use Rattle.hb_base.specs.Limits.{most_nodes}
use Rattle.hb_base.specs.NodeSet.{is_in}
use Rattle.hb_base.specs.Numbers.{Numbers, numbers, AreSound}
use Rattle.hb_wire.proofs.FieldLemmas.{IsBytes, Reads, reads_pair, some_is}
use Rattle.ledger_text.specs.Lines.{counted}
use Rattle.trace_text.specs.Text.{nodes_number, trace_line}
use Rattle.trace_text.proofs.Nodes.{nodes_few}
use Rattle.trace_reader.specs.declared.head.Head.{Head}
use Rattle.trace_reader.specs.Reading.{numbers_at, head_of, head_at, numbers_of}
use Rattle.trace_reader.specs.Trace.{IsConfig, HasNoHead}
use Rattle.trace_reader.proofs.Fields.{reads_after, reads_made}
use Rattle.trace_reader.proofs.Numbers.{reads_number}
use Rattle.trace_reader.proofs.Nodes.{same_set}

abbrev Eight : Type 0
Eight = ℕ × (ℕ × (ℕ × (ℕ × (ℕ × (ℕ × (ℕ × ℕ))))))

-- the numbers of a first line, each with the words behind it
abbrev numbers_text : Eight → List ℕ
numbers_text x =
    (decimal x.0 ++ codes " faulty ") ++ ((decimal x.1.0 ++ codes " version ") ++ ((decimal x.1.1.0 ++ codes " epochs ")
    ++ ((decimal x.1.1.1.0 ++ codes " rounds ") ++ ((decimal x.1.1.1.1.0 ++ codes " batch ") ++ ((decimal x.1.1.1.1.1.0 ++ codes " seed ")
    ++ ((decimal x.1.1.1.1.1.1.0 ++ codes " liars ") ++ (decimal x.1.1.1.1.1.1.1 ++ codes "\n")))))))

abbrev AreSmall : Eight → Type 0
AreSmall x =
    (x.0 ≤ 255) × ((x.1.0 ≤ 255) × ((x.1.1.0 ≤ 255) × ((x.1.1.1.0 ≤ 255) × ((x.1.1.1.1.0 ≤ 255) × ((x.1.1.1.1.1.0 ≤ 255)
    × ((x.1.1.1.1.1.1.0 ≤ 2 ^ 64 - 1) × (x.1.1.1.1.1.1.1 ≤ 65535)))))))

reads_numbers : Reads numbers_at numbers_text AreSmall
reads_numbers =
    reads_pair (reads_number 32 (codes "faulty ") 255 (omega arith) refl) (reads_pair (reads_number 32 (codes "version ") 255 (omega arith) refl)
    (reads_pair (reads_number 32 (codes "epochs ") 255 (omega arith) refl) (reads_pair (reads_number 32 (codes "rounds ") 255 (omega arith) refl)
    (reads_pair (reads_number 32 (codes "batch ") 255 (omega arith) refl) (reads_pair (reads_number 32 (codes "seed ") 255 (omega arith) refl)
    (reads_pair (reads_number 32 (codes "liars ") (2 ^ 64 - 1) (omega arith) refl) (reads_number 10 [] 65535 (omega arith) refl)))))))

-- the numbers in the order of the line
abbrev numbers_in : Head → Eight
numbers_in h = (h.nodes, (h.faulty, (h.version, (h.epochs, (h.rounds, (h.batch, (h.seed, h.liars)))))))

abbrev head_text : Head → List ℕ
head_text h = codes "trace nodes " ++ numbers_text (numbers_in h)

reads_head : Reads head_at head_text (λ h. AreSmall (numbers_in h))
unfolding head_at
reads_head = reads_after (codes "trace nodes ") (reads_made head_of numbers_in (λ x. refl) (λ h. refl) reads_numbers)

parts : (a b c d e f g h n1 n2 n3 n4 n5 n6 n7 n8 end : List ℕ)
    → (a ++ n1) ++ ((b ++ n2) ++ ((c ++ n3) ++ ((d ++ n4) ++ ((e ++ n5) ++ ((f ++ n6) ++ ((g ++ n7) ++ ((h ++ n8) ++ end)))))))
    ≡ a ++ ((n1 ++ b) ++ ((n2 ++ c) ++ ((n3 ++ d) ++ ((n4 ++ e) ++ ((n5 ++ f) ++ ((n6 ++ g) ++ ((n7 ++ h) ++ (n8 ++ end))))))))
parts a b c d e f g h n1 n2 n3 n4 n5 n6 n7 n8 end = simp append_assoc

line_text : (c : Numbers) → trace_line c ≡ head_text (numbers_of c)
unfolding trace_line counted
line_text c =
    parts (codes "trace nodes ") (codes " faulty ") (codes " version ") (codes " epochs ") (codes " rounds ") (codes " batch ") (codes " seed ") (codes " liars ")
    (decimal c.n) (decimal c.f) (decimal c.version) (decimal c.epochs) (decimal c.rounds) (decimal c.batch) (decimal c.seed)
    (decimal (nodes_number most_nodes (is_in c.liars))) (codes "\n")

are_small : (c : Numbers) → IsConfig c → AreSmall (numbers_in (numbers_of c))
are_small c is =
    let s = is.sound in (
      omega (arith, s.nodes.1),
      (omega (arith, s.faulty.1), (omega (arith, s.version.1), (omega (arith, s.epochs.1), (omega (arith, s.rounds.1), (omega (arith, s.batch.1), (omega (arith, is.seed), omega (arith, nodes_few most_nodes (is_in c.liars)))))))),
    )

-- the line of a config is read as its numbers
line_again : (c : Numbers) (rest : List ℕ) → IsConfig c → head_at (trace_line c ++ rest) ≡ Some (numbers_of c, rest)
line_again c rest is = ap (λ (text : List ℕ). head_at (text ++ rest)) (line_text c) ∙ reads_head.again (numbers_of c) rest (are_small c is)

-- a config that has these numbers, and these liars, is this one
of_numbers : (c : Numbers) (head : Head) (liars : List Bool) → IsConfig c → length liars ≡ most_nodes → nodes_number most_nodes (is_in liars) ≡ head.liars → numbers_of c ≡ head
    → c ≡ numbers head.nodes head.faulty head.epochs head.rounds head.batch head.seed head.version liars
of_numbers c head liars is marks number same =
    let set : c.liars ≡ liars = same_set c.liars liars is.marks marks (ap (λ (h : Head). h.liars) same ∙ sym number) in
    let n : c.n ≡ head.nodes = ap (λ (h : Head). h.nodes) same in
    let f : c.f ≡ head.faulty = ap (λ (h : Head). h.faulty) same in
    let epochs : c.epochs ≡ head.epochs = ap (λ (h : Head). h.epochs) same in
    let rounds : c.rounds ≡ head.rounds = ap (λ (h : Head). h.rounds) same in
    let batch : c.batch ≡ head.batch = ap (λ (h : Head). h.batch) same in
    let seed : c.seed ≡ head.seed = ap (λ (h : Head). h.seed) same in
    let version : c.version ≡ head.version = ap (λ (h : Head). h.version) same in
    λ i. record { n = n i; f = f i; epochs = epochs i; rounds = rounds i; batch = batch i; seed = seed i; version = version i; liars = set i }

same_config : (c d : Numbers) → IsConfig c → IsConfig d → numbers_of c ≡ numbers_of d → c ≡ d
same_config c d is_c is_d same = of_numbers c (numbers_of d) d.liars is_c is_d.marks refl same

-- of two runs whose first lines bytes begin with, each is the other
pub one_head : (c d : Numbers) (x y : List ℕ) → IsConfig c → IsConfig d → trace_line c ++ x ≡ trace_line d ++ y → (c ≡ d) × (x ≡ y)
one_head c d x y is_c is_d same =
    let both : (numbers_of c, x) ≡ (numbers_of d, y) =
    some_is (numbers_of c, x) (numbers_of d, y) (sym (line_again c x is_c) ∙ ap head_at same ∙ line_again d y is_d) in
    (same_config c d is_c is_d (ap (λ (p : Head × List ℕ). p.0) both), ap (λ (p : Head × List ℕ). p.1) both)

-- ---- what the reader comes to

pub head_found : (bytes rest : List ℕ) (head : Head) (c : Numbers) → IsBytes bytes → head_at bytes ≡ Some (head, rest) → numbers_of c ≡ head → bytes ≡ trace_line c ++ rest
head_found bytes rest head c are read same =
    (reads_head.takes bytes head rest are read).1 ∙ ap (λ (h : Head). head_text h ++ rest) (sym same) ∙ ap (λ (text : List ℕ). text ++ rest) (sym (line_text c))

some_none : {A : Type 0} (x : A) → Some x ≡ None → ⊥
some_none x is = cc

pub none_read : (bytes : List ℕ) → head_at bytes ≡ None → HasNoHead bytes
none_read bytes none = record { no_head = λ c rest is text. some_none (numbers_of c, rest) (sym (line_again c rest is) ∙ ap head_at (sym text) ∙ none) }

pub none_built : (bytes rest : List ℕ) (head : Head) → head_at bytes ≡ Some (head, rest) → ((c : Numbers) → IsConfig c → numbers_of c ≡ head → ⊥) → HasNoHead bytes
none_built bytes rest head read no_config = record {
  no_head = λ c later is text.
      let both : (numbers_of c, later) ≡ (head, rest) = some_is (numbers_of c, later) (head, rest) (sym (line_again c later is) ∙ ap head_at (sym text) ∙ read) in
      no_config c is (ap (λ (p : Head × List ℕ). p.0) both);
}

-- ---- which numbers make a config

none_some : (A : Type 0) → IsSome {T = A} None → ⊥
none_some A is = cc

-- none is built only of numbers that are no config's
pub none_fits : {A : Type 0} (built : Option A) (head : Head) (liars : List Bool) → length liars ≡ most_nodes → nodes_number most_nodes (is_in liars) ≡ head.liars
    → IsSome built ↔ AreSound (numbers head.nodes head.faulty head.epochs head.rounds head.batch head.seed head.version liars)
    → IfNone built ((c : Numbers) → IsConfig c → numbers_of c ≡ head → ⊥)
none_fits (Some x) head liars marks number exact = tt
none_fits {A} None head liars marks number exact = λ c is same. none_some A (exact.1 (subst AreSound (of_numbers c head liars is marks number same) is.sound))
