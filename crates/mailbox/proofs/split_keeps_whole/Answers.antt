use Rattle.mailbox.proofs.Parts.{whole_first, whole_split}
use Rattle.mailbox.proofs.split_keeps_whole.Goals as goal

pub returns : goal.returns
returns c = record { first = whole_first; split = whole_split }
