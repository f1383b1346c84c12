use Rattle.std.proofs.Common.{◌-◌, ◌∙◌, ap, sym, drop, length, arith, List, ℕ}
use Rattle.std.specs.List.{concat}
use Rattle.std.proofs.lemmas.List.{length-drop}
use Rattle.vote_journal.specs.Text.{HasBytes, entries_in, rest_in}
use Rattle.vote_journal.proofs.Walk.{entries_enough, rest_enough}
use Rattle.vote_journal.proofs.Holding.{gate_stands}
use Rattle.vote_journal.proofs.recover.entries_of_half.Goals as goal

pub returns-clause-entries : goal.returns-clause-entries
returns-clause-entries c =
    let half = c.args.half.now in
    c.in_ok-found.ensures.entries ∙ ap (λ (xs : List ℕ). entries_in (length xs) xs) c.after_magic.ensures.rest
    ∙ sym (entries_enough (length half) (drop 8 half) (omega (arith, length-drop 8 half)))

pub returns-clause-gate : goal.returns-clause-gate
returns-clause-gate c =
    let half = c.args.half.now in
    let small : HasBytes half = record { each = λ k. omega (arith, c.type_inv.half k) } in
    c.in_ok-found.ensures.gate ∙ ap (λ (xs : List ℕ). length xs - length (rest_in (length xs) xs)) c.after_magic.ensures.rest
    ∙ ap (λ (xs : List ℕ). length (drop 8 half) - length xs) (sym (rest_enough (length half) (drop 8 half) (omega (arith, length-drop 8 half))))
    ∙ gate_stands half small

pub returns-clause-bytes : goal.returns-clause-bytes
returns-clause-bytes c =
    let half = c.args.half.now in
    c.in_ok-found.ensures.bytes ∙ ap (λ (xs : List ℕ). length (concat (entries_in (length xs) xs))) c.after_magic.ensures.rest
    ∙ ap (λ (es : List (List ℕ)). length (concat es)) (sym (entries_enough (length half) (drop 8 half) (omega (arith, length-drop 8 half))))

pub returns-clause-are_bytes : goal.returns-clause-are_bytes
returns-clause-are_bytes c = record { each = λ k. omega (arith, c.type_inv.half k) }
