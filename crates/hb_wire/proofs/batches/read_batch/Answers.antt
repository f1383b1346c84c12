use Rattle.std.proofs.Common.{◌≡◌, ◌<◌, ◌∙◌, List, ℕ, [], ap, length, arith}
use Rattle.hb_wire.specs.Batches.{batch_of}
use Rattle.hb_wire.proofs.BatchLemmas.{lies}
use Rattle.hb_wire.proofs.batches.read_batch.Goals as goal

pub transactions_of-requires : goal.transactions_of-requires
transactions_of-requires c =
    let bytes = c.args.bytes.now in
    let count : c.batch_len.result ≡ length (batch_of bytes) = c.batch_len.ensures.exact ∙ ap (λ bs. length (batch_of bs)) c.as_slice.ensures in
    (lies bytes (omega (arith, c.in_default, count))).long

pub returns-in_default : goal.returns-in_default
returns-in_default c =
    let bytes = c.args.bytes.now in
    let count : c.batch_len.result ≡ length (batch_of bytes) = c.batch_len.ensures.exact ∙ ap (λ bs. length (batch_of bs)) c.as_slice.ensures in
    let some : 0 < length (batch_of bytes) = omega (arith, c.in_default, count) in
    let whole : List (List ℕ) × List ℕ = (batch_of bytes, []) in
    c.transactions_of.ensures whole (rw count (lies bytes some).body)
