use Rattle.std.proofs.Common.{ℕ, ◌+◌, ◌≤◌, List, ◌++◌, length, take, arith, length-append}
use Rattle.std.proofs.lemmas.Grind.{common_steps}
use Rattle.std.specs.Io.KnownBytes.{Consumes}
use Rattle.std.proofs.KnownBytes.{Consumes-trans}
use Rattle.input_reader.specs.Streams.{SourceView, TakesAtMost, source_view}
use Rattle.input_reader.proofs.input.read_input.Goals as goal

-- some bytes were taken, and then more
takes_more : (most : ℕ) (old now new : SourceView) (taken more : List ℕ) → Consumes old.left now.left taken → Consumes now.left new.left more → length taken + length more ≤ most
    → TakesAtMost most old new
takes_more most old now new taken more first then few = record {
  taken = taken ++ more;
  few = omega (arith, few, length-append taken more);
  rest = Consumes-trans old.left now.left new.left taken more first then;
}

pub returns-then-is_err-clause-taken : goal.returns-then-is_err-clause-taken
returns-then-is_err-clause-taken g c =
    let few : length c.pieces.bytes.items + length (take c.in-Ok.count c.take.new.buf) ≤ (c.args.longest + 1) = grind (arith, common_steps) in
    takes_more (c.args.longest + 1) (source_view g.S.Source.left g.S.Source.faults c.args.source.now) (source_view g.S.Source.left g.S.Source.faults c.pieces.source)
    (source_view g.S.Source.left g.S.Source.faults c.take.new.self) c.pieces.bytes.items (take c.in-Ok.count c.take.new.buf) c.pieces.invariant.taken c.in-Ok.ensures.bytes.0 few

pub returns-clause-read : goal.returns-clause-read
returns-clause-read g c = (c.pieces.bytes.items, grind (arith, common_steps), c.pieces.invariant.taken, c.pieces.invariant.quiet)

pub returns-clause-taken : goal.returns-clause-taken
returns-clause-taken g c = record { taken = c.pieces.bytes.items; few = c.pieces.invariant.few; rest = c.pieces.invariant.taken }
