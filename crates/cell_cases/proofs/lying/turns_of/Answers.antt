use Rattle.std.proofs.Common.{sym, ◌∙◌}
use Rattle.cell_cases.proofs.lying.turns_of.Goals as goal

-- the seat that comes back is of the other handle too
pub posts-posts-requires : goal.posts-posts-requires
posts-posts-requires g c = record {
  seat = g.met.B.NamedBook.by_name c.into_liar.result.book c.args.again c.into_parts-seat.result.0
      (c.requires.again ∙ sym c.into_parts-seat.ensures.held.book) c.into_parts-seat.ensures.of_book;
}
