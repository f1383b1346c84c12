use Rattle.std.proofs.Common.{◌++◌, ◌∷◌, [], length, drop, ap, ◌∙◌, arith}
use Rattle.hb_wire.proofs.BatchLemmas.{IsPart, part_at, none_at, walk_step, walk_stop, walk_end}
use Rattle.hb_wire.proofs.batches.transactions_of.Goals as goal

pub returns-in_default : goal.returns-in_default
returns-in_default c = λ x e.
    let s = c.transactions in
    let bytes = c.args.bytes.now in
    absurd (walk_stop c.args.count s.counter (drop s.at bytes) _ c.transactions-test.true
    (none_at s.at bytes c.as_slice.result.now c.as_slice.ensures c.in_default.ensures) (s.invariant.reads x e).0)

pub part-requires : goal.part-requires
part-requires c =
    let s = c.transactions in
    let text = c.in-Some.transaction.now in
    let part : IsPart s.at c.args.bytes.now text =
    part_at s.at c.args.bytes.now c.as_slice.result.now text c.in-Some.field-0-1.now c.as_slice.ensures s.invariant.within c.in-Some.ensures in
    omega (arith, part.within)

pub overflow_add-at-in-transactions-2 : goal.overflow_add-at-in-transactions-2
overflow_add-at-in-transactions-2 c =
    let s = c.transactions in
    let text = c.in-Some.transaction.now in
    let part : IsPart s.at c.args.bytes.now text =
    part_at s.at c.args.bytes.now c.as_slice.result.now text c.in-Some.field-0-1.now c.as_slice.ensures s.invariant.within c.in-Some.ensures in
    omega (arith, part.within, c.as_slice.type_inv, ap length c.as_slice.ensures)

pub transactions-preserved : goal.transactions-preserved
transactions-preserved c =
    let s = c.transactions in
    let bytes = c.args.bytes.now in
    let text = c.in-Some.transaction.now in
    let part : IsPart s.at bytes text =
    part_at s.at bytes c.as_slice.result.now text c.in-Some.field-0-1.now c.as_slice.ensures s.invariant.within c.in-Some.ensures in
    record {
      within = part.within;
      reads = λ x e.
          let kept = s.invariant.reads x e in
          let step = walk_step c.args.count s.counter (drop s.at bytes) text _ x.1 x.0 s.batch.items c.transactions-test.true part.read kept.0 kept.1 in
          (step.0, c.in_ok-push.ensures.items ∙ ap (λ t. s.batch.items ++ t ∷ []) (c.in_ok-part.ensures ∙ part.is) ∙ step.1);
    }

pub returns : goal.returns
returns c = λ x e. walk_end c.args.count c.transactions.counter (drop 2 c.args.bytes.now) x c.transactions.batch.items c.transactions-test.false e
    (c.transactions.invariant.reads x e).1
