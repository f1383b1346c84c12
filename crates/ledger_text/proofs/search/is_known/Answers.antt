use Rattle.std.proofs.Common.{◌<◌, List, ℕ, ◌++◌, length, take, sym, ◌∙◌}
use Rattle.std.proofs.lemmas.Bool.{both_ways, false_from_ne_true}
use Rattle.tx_pool.specs.Pool.{is_among}
use Rattle.hb_wire.specs.Batches.{batch_of}
use Rattle.ledger_text.specs.Places.{in_lists, in_batches, before_batch}
use Rattle.ledger_text.specs.Seen.{txs_of}
use Rattle.ledger_text.proofs.Among.{among_parts}
use Rattle.ledger_text.proofs.Chains.{room_left}
use Rattle.ledger_text.proofs.search.is_known.Goals as goal

pub returns-then-has : goal.returns-then-has
returns-then-has g c = sym (c.requires.seen.has.stands c.args.tx.now (sym c.has.ensures ∙ c.if-has.true))

pub returns-then-not-is_full : goal.returns-then-not-is_full
returns-then-not-is_full g c =
    let txs : List (List ℕ) = txs_of c.args.seen.now in
    let before : List (List ℕ) = before_batch (g.L.Ledger.lists c.args.ledger.now) c.args.spot ++ take c.args.t (batch_of c.args.value.now) in
    let room : length txs < c.args.seen.now.room =
    room_left (length txs) c.args.seen.now.room c.is_full.result c.is_full.ensures c.if-not-is_full.true in
    sym (false_from_ne_true (is_among before c.args.tx.now) (λ among.
    both_ways (is_among txs c.args.tx.now) (sym c.has.ensures ∙ c.if-has.false) (c.requires.seen.has.all room c.args.tx.now among)))

pub returns : goal.returns
returns g c =
    c.stands_before.ensures
    ∙ sym (among_parts (in_lists (g.L.Ledger.lists c.args.ledger.now) c.args.spot.place) (in_batches c.args.spot.rest.now c.args.spot.index)
    (take c.args.t (batch_of c.args.value.now)) c.args.tx.now)
