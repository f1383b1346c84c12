use Rattle.std.proofs.Common.{[]}
use Rattle.input_reader.specs.Streams.{source_view}
use Rattle.votes_app.specs.Steps.{Moves}
use Rattle.votes_app.proofs.feed.take_line.Given as goal

-- bytes were taken into the window, and none was used
abbrev pub invariant-pieces : goal.invariant-pieces
invariant-pieces g l = Moves (source_view g.S.Source.left g.S.Source.faults l.fn.source) (source_view g.S.Source.left g.S.Source.faults l.source) l.fn.window l.window []

abbrev pub decreases-pieces : goal.decreases-pieces
decreases-pieces g l = l.window.budget
