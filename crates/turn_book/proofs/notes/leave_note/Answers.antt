use Rattle.std.proofs.Common.{[], ap, sym, ◌∙◌, Result, Ok, Err, OnErr}
use Rattle.std.proofs.lemmas.List.{append-nil}
use Rattle.turn_book.specs.declared.notes.Note.{Note}
use Rattle.turn_book.specs.SeatState.{SeatState}
use Rattle.turn_book.proofs.notes.leave_note.Goals as goal

always : {T E : Type 0} {P : Type 0} (result : Result T E) → P → OnErr result P
always (Ok value) holds = tt
always (Err error) holds = holds

pub returns-in_err-left-clause-none : goal.returns-in_err-left-clause-none
returns-in_err-left-clause-none g c =
    let begun = c.begin-notes.new.seat in
    let seen = ap (λ (s : SeatState Note). s.seen) c.begin-notes.ensures.turn in
    let mine = ap (λ (s : SeatState Note). s.mine) c.begin-notes.ensures.turn in
    always c.from_residual.result
    (c.pass.ensures.mine [] (c.in_err-left.ensures.items ∙ sym seen ∙ sym (append-nil begun.seen)) ∙ append-nil begun.mine ∙ mine)
