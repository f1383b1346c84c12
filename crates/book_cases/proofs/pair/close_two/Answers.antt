use Rattle.std.proofs.Common.{ℕ, List, [], ◌∷◌, ◌++◌, ap, ◌∙◌, subst}
use Rattle.std.specs.Prelude.{All, Contains}
use Rattle.hb_wire.specs.declared.post.Post.{Post}
use Rattle.hb_rules.specs.Book.{mine_in}
use Rattle.post_book.specs.Numbering.{seat_number, post_number}
use Rattle.post_book.specs.SharedSeats.{FirstView}
use Rattle.book_cases.proofs.Seatings.{AreOut-given, IsPrefix-trans, joined_first, joined_last}
use Rattle.book_cases.proofs.pair.close_two.Goals as goal

pub close_all-requires-clause-none : goal.close_all-requires-clause-none
close_all-requires-clause-none g c =
    let b = c.args.b.seat in
    c.take_in-2.ensures.out [] (c.take_in.ensures.out (seat_number b.node b.actor ∷ []) (AreOut-given c.args.first _ c.requires.given))

pub returns-clause-a : goal.returns-clause-a
returns-clause-a g c =
    let c0 = g.J.Naming.config in
    let a = c.args.a.seat in
    let b = c.args.b.seat in
    let mine_a : List Post = mine_in c0 a.node a.actor a.seen in
    let mine_b : List Post = mine_in c0 b.node b.actor b.seen in
    let joined = ap (λ (s : FirstView). s.joined) c.take_in-2.ensures.joined
    ∙ ap (λ (s : FirstView). s.joined ++ (seat_number b.node b.actor, mine_b) ∷ []) c.take_in.ensures.joined in
    record {
      begins =
          IsPrefix-trans _ _ _ (IsPrefix-trans _ _ _ c.take_in.ensures.both.1 c.take_in-2.ensures.both.0) c.close_all.ensures.begins;
      mine = λ place. c.close_all.ensures.mine a.node a.actor mine_a place
          (joined_first c.args.first.joined _ (seat_number a.node a.actor) (seat_number b.node b.actor) mine_a mine_b joined);
    }

pub returns-clause-b : goal.returns-clause-b
returns-clause-b g c =
    let c0 = g.J.Naming.config in
    let b = c.args.b.seat in
    let mine_b : List Post = mine_in c0 b.node b.actor b.seen in
    record {
      begins = IsPrefix-trans _ _ _ c.take_in-2.ensures.both.1 c.close_all.ensures.begins;
      mine = λ place. c.close_all.ensures.mine b.node b.actor mine_b place
          (joined_last _ _ (seat_number b.node b.actor) mine_b (ap (λ (s : FirstView). s.joined) c.take_in-2.ensures.joined));
    }

pub returns-clause-others : goal.returns-clause-others
returns-clause-others g c =
    let given = ap (λ (s : FirstView). s.given) c.take_in-2.ensures.joined ∙ ap (λ (s : FirstView). s.given) c.take_in.ensures.joined in
    subst (λ (numbers : List ℕ). All (λ post. Contains numbers (post_number g.J.Naming.config post)) c.close_all.result.items) given
    c.close_all.ensures.others
