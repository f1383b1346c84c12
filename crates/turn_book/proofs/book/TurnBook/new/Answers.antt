use Rattle.std.proofs.Common.{[], ◌∷◌, ◌++◌, ap, sym, subst, ◌∙◌, Some}
use Rattle.atomic_table.specs.Table.{opening}
use Rattle.turn_book.specs.Kept.{Kept}
use Rattle.turn_book.specs.Told.{first_view}
use Rattle.turn_book.proofs.Seating.{starts}
use Rattle.turn_book.proofs.book.TurnBook.new.Goals as goal

pub new-requires : goal.new-requires
new-requires g c =
    let items = c.in_ok-push.ensures.items ∙ ap (λ xs. xs ++ Some c.args.first ∷ []) c.in_ok-slots.ensures.items in
    subst (λ xs. Kept g.S.History.entries g.S.History.names (opening (0 ∷ []) xs first_view)) (sym items)
    (starts g.S.History.entries g.S.History.names c.args.first c.requires)
