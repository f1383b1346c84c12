use Rattle.std.proofs.Common.{ℕ, List, [], ◌∷◌, ◌++◌, sym, ap, ◌∙◌}
use Rattle.hb_wire.specs.declared.post.Post.{Post}
use Rattle.hb_rules.specs.BookLaws.{Watched-refl}
use Rattle.post_book.specs.Numbering.{IsPlace, seat_number}
use Rattle.post_book.specs.SharedSeats.{SharedView, FirstView}
use Rattle.book_cases.proofs.Postings.{one_seat, of_either, same_refl}
use Rattle.book_cases.proofs.pair.post_two.Goals as goal

pub returns : goal.returns
returns g c =
    let config = g.J.Naming.config in
    let x : ℕ = c.args.actor in
    let vote = c.args.vote.now in
    let history = c.close_two-history.result.items in
    let zero : IsPlace config 0 x = record { small = c.ranges.actor.fits; liar = λ lies. absurd (cc (sym c.requires.honest.0 ∙ lies)) } in
    let one : IsPlace config 1 x = record { small = c.ranges.actor.fits; liar = λ lies. absurd (cc (sym c.requires.honest.1 ∙ lies)) } in
    let none = ap (λ (s : FirstView). s.seen) c.in_ok-made.ensures in
    let made_a = ap (λ (s : SharedView). s.seat) c.seat_for-a.ensures.seat
    ∙ ap (λ (seen : List Post). record { config = config; node = 0; actor = x; seen = seen }) none in
    let made_b = ap (λ (s : SharedView). s.seat) c.seat_for-b.ensures.seat
    ∙ ap (λ (seen : List Post). record { config = config; node = 1; actor = x; seen = seen })
    (ap (λ (s : FirstView). s.seen) c.seat_for-a.ensures.first ∙ none) in
    let a = one_seat config 0 x vote c.post_both-a.result.0.number c.seat_for-a.result c.post_both-a.result.0.seat c.look_by-look.new.seat history zero made_a
    c.post_both-a.ensures.a c.look_by-look.ensures.same c.look_by-look.ensures.watched c.close_two-history.ensures.a in
    let b = one_seat config 1 x vote c.post_both-a.result.1.number c.seat_for-b.result c.post_both-a.result.1.seat c.post_both-a.result.1.seat history one made_b
    c.post_both-a.ensures.b (same_refl c.post_both-a.result.1.seat) (Watched-refl _ _ _ _) c.close_two-history.ensures.b in
    let given = ap (λ (s : FirstView). s.given) c.seat_for-b.ensures.first
    ∙ ap (λ (s : FirstView). s.given ++ seat_number 1 x ∷ []) c.seat_for-a.ensures.first
    ∙ ap (λ (s : FirstView). (s.given ++ seat_number 0 x ∷ []) ++ seat_number 1 x ∷ []) c.in_ok-made.ensures in
    record {
      legal = c.close_two-history.ensures.legal;
      mine_one = a.mine;
      mine_two = b.mine;
      others = of_either config x _ history zero one given c.close_two-history.ensures.others;
      at_one = a.stands;
      at_two = b.stands;
    }
