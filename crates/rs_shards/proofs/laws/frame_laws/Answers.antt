use Rattle.std.proofs.Common.{ap, ◌∙◌}
use Rattle.rs_shards.specs.Frame.{value_in}
use Rattle.rs_shards.proofs.Pieces.{frame-whole}
use Rattle.rs_shards.proofs.Values.{value_in-frame}
use Rattle.rs_shards.proofs.Wholes.{no-value}
use Rattle.rs_shards.proofs.laws.frame_laws.Goals as goal

pub returns-clause-whole : goal.returns-clause-whole
returns-clause-whole c k value some = frame-whole k value some

pub returns-clause-read_back : goal.returns-clause-read_back
returns-clause-read_back c k value shards some short is = ap (value_in k) is ∙ value_in-frame k value some short

pub returns-clause-false_frame : goal.returns-clause-false_frame
returns-clause-false_frame c n k shards some within few h none = no-value n k shards within few h some none
