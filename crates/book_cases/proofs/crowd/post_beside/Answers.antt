use Rattle.book_cases.proofs.Runs.{may_as}
use Rattle.book_cases.proofs.crowd.post_beside.Goals as goal

pub on_five_threads-sent-requires-clause-a : goal.on_five_threads-sent-requires-clause-a
on_five_threads-sent-requires-clause-a g c = λ κs lives. may_as _ _ _ _ c.requires.vote c.desk_seat-a.ensures.may

pub on_five_threads-sent-requires-clause-b : goal.on_five_threads-sent-requires-clause-b
on_five_threads-sent-requires-clause-b g c = λ κs lives. may_as _ _ _ _ c.requires.vote c.desk_seat-b.ensures.may

pub on_five_threads-sent-requires-clause-c : goal.on_five_threads-sent-requires-clause-c
on_five_threads-sent-requires-clause-c g c = λ κs lives. may_as _ _ _ _ c.requires.vote c.desk_seat-c.ensures.may

pub on_five_threads-sent-requires-clause-d : goal.on_five_threads-sent-requires-clause-d
on_five_threads-sent-requires-clause-d g c = λ κs lives. may_as _ _ _ _ c.requires.vote c.desk_seat-d.ensures.may
