use Rattle.std.proofs.Common.{◌∙◌, ◌+◌, ◌∷◌, sym, ap, drop, slice_index_or, ℕ, List, arith}
use Rattle.std.proofs.lemmas.List.{at_drop_more, at_drop_all, with_items_is}
use Rattle.disk_model.specs.declared.span.Span.{Span}
use Rattle.disk_model.specs.Area.{torn_from}
use Rattle.disk_model.proofs.Lists.{on_err}
use Rattle.disk_model.proofs.Tears.{length-torn_from, torn_more, torn_none}
use Rattle.disk_model.proofs.area.torn.Goals as goal

pub returns-in_err-bytes-clause-wanting : goal.returns-in_err-bytes-clause-wanting
returns-in_err-bytes-clause-wanting c =
    on_err c.from_residual.result _ (omega (arith, c.in_err-bytes.ensures.wanting, length-torn_from c.args.written.now 0 c.args.content.now))

pub loop-span-preserved : goal.loop-span-preserved
loop-span-preserved c =
    let none : Span = record { at = 0; len = 0 } in
    let span : Span = slice_index_or c.args.written.now c.loop-span.span-index none in
    let rest : List Span = drop (c.loop-span.span-index + 1) c.args.written.now in
    ap (λ (xs : List ℕ). torn_from rest 0 xs) (with_items_is c.loop-span.bytes c.tear.new.bytes (c.tear.auto.bytes ∙ c.deref_mut.ensures.len))
    ∙ torn_more span rest c.deref_mut.result.now c.tear.new.bytes c.tear.auto.bytes c.tear.ensures
    ∙ ap (λ (xs : List ℕ). torn_from (span ∷ rest) 0 xs) c.deref_mut.ensures.value
    ∙ sym (at_drop_more (λ (spans : List Span). torn_from spans 0 c.loop-span.bytes.items) c.args.written.now c.loop-span.span-index none c.loop-span-test.true)
    ∙ c.loop-span.invariant

pub returns-clause-ok : goal.returns-clause-ok
returns-clause-ok c =
    sym (torn_none 0 c.loop-span.bytes.items)
    ∙ sym (at_drop_all (λ (spans : List Span). torn_from spans 0 c.loop-span.bytes.items) c.args.written.now c.loop-span.span-index c.loop-span-test.false)
    ∙ c.loop-span.invariant
