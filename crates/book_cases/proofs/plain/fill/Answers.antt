use Rattle.std.proofs.Common.{◌≡◌, ℕ, ap, arith}
use Rattle.hb_rules.specs.Book.{SeatView, BookView, IsSeatOf, Moved}
use Rattle.hb_rules.specs.BookLaws.{IsSeatOf-moved}
use Rattle.book_cases.proofs.plain.fill.Goals as goal

-- a call on a seat keeps the seats of other nodes
kept : (i x : ℕ) (a b : BookView) (s : SeatView) → Moved i x a b → (s.node ≡ i → ⊥) → IsSeatOf a s → IsSeatOf b s
kept i x a b s moved apart seat = IsSeatOf-moved i x a b s moved (λ same. absurd (apart same)) seat

pub tell_all-requires-clause-seat : goal.tell_all-requires-clause-seat
tell_all-requires-clause-seat c =
    let desk : c.seat-desk.result.node ≡ 0 = ap (λ (s : SeatView). s.node) c.seat-desk.ensures.seat in
    let liar : c.seat-liar.result.node ≡ 3 = ap (λ (s : SeatView). s.node) c.seat-liar.ensures.seat in
    kept c.seat-desk.result.node c.seat-desk.result.actor c.seat-liar.new.self c.post.new.self c.seat-liar.result c.post.ensures.moved
    (λ same. omega (arith, same, desk, liar)) c.seat-liar.ensures.knows

pub returns : goal.returns
returns c =
    let desk : c.seat-desk.result.node ≡ 0 = ap (λ (s : SeatView). s.node) c.seat-desk.ensures.seat in
    let liar : c.seat-liar.result.node ≡ 3 = ap (λ (s : SeatView). s.node) c.seat-liar.ensures.seat in
    kept c.seat-liar.result.node c.seat-liar.result.actor c.post.new.self c.tell_all.new.book c.post.new.seat c.in_ok-tell_all.ensures.moved
    (λ same. omega (arith, same, desk, liar, c.post.ensures.same.1)) c.post.ensures.seat
