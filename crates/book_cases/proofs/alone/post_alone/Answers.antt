use Rattle.book_cases.proofs.Runs.{may_as}
use Rattle.book_cases.proofs.alone.post_alone.Goals as goal

pub post_and_read-read-requires : goal.post_and_read-read-requires
post_and_read-read-requires g c = may_as _ _ _ _ c.requires.vote c.desk_seat-desk.ensures.may
