-- What callers see of a seat, from what it knows.
use Rattle.std.proofs.Common.{◌≡◌, ℕ, inl, inr, ⊎_elim, false, List, [], ◌∷◌, ◌++◌, ap, sym, subst, ◌∙◌, Option, Some, unwrap_or}
use Rattle.std.specs.List.{Contains}
use Rattle.std.proofs.lemmas.List.Elements.{Contains-push}
use Rattle.atomic_table.specs.Seated.{TableId}
use Rattle.atomic_table.specs.Table.{Final, Seen}
use Rattle.turn_book.specs.declared.view.View.{View}
use Rattle.turn_book.specs.Entries.{entries_of, AddsAtMostOne, NamesGiven}
use Rattle.turn_book.specs.SeatState.{SeatState, shown, new_seat, AllEnded, IsReady}
use Rattle.turn_book.specs.Kept.{IsOnce, Kept}
use Rattle.turn_book.specs.Told.{right_of, both_ended, ended_of, Settles, Seated}
use Rattle.turn_book.proofs.Lists.{prefix_of_either, nothing_added, same_added, entries_of-append, entries_of-own, once_last}
use mathlib.Core.List.{IsPrefix}
use mathlib.Core.Option.{some}
use lib.ListN.{get_elem?}
use Rattle.turn_book.proofs.Seating.{closes_at}
use mathlib.Core.Path.{Path}

-- What a seat knows, as its callers see it
pub record Sits {S E : Type 0} (names : E → ℕ) (book : TableId) (me : Seated S E) (seat : SeatState E) : Type 0 where
  pub book_is : book ≡ seat.book
  pub number : me.0.number ≡ Some seat.number
  pub in_turn : me.0.in_turn ≡ seat.in_turn
  pub seen : me.0.seen ≡ seat.seen
  pub given : me.0.given ≡ seat.given
  pub ended : me.0.ended ≡ seat.ended
  pub mine : seat.mine ≡ entries_of names seat.number seat.seen

pub sits : {S E : Type 0} (names : E → ℕ) (book : TableId) (me : Seated S E) (seat : SeatState E) → Path (SeatState E) (shown names book me.0) seat
    → IsReady me → Sits names book me seat
sits {S} {E} names book me seat is ready = record {
  book_is = ap (λ (s : SeatState E). s.book) is;
  number = ready.numbered.1 ∙ ap Some (sym (ap (λ (o : Option ℕ). unwrap_or o 0) ready.numbered.1) ∙ ap (λ (s : SeatState E). s.number) is);
  in_turn = ap (λ (s : SeatState E). s.in_turn) is;
  seen = ap (λ (s : SeatState E). s.seen) is;
  given = ap (λ (s : SeatState E). s.given) is;
  ended = ap (λ (s : SeatState E). s.ended) is;
  mine = sym (ap (λ (s : SeatState E). s.mine) is) ∙ (λ i. entries_of names (is i).number (is i).seen);
}

module _ {E : Type 0} (names : E → ℕ) where
  -- entries more, of the seat's own number, are its own
  pub mine_more : (n : ℕ) (seen all added : List E) → AddsAtMostOne names n seen all → all ≡ seen ++ added
      → entries_of names n all ≡ entries_of names n seen ++ added
  mine_more n seen all added adds is =
      let own : entries_of names n added ≡ added = ⊎_elim
      (λ (same : all ≡ seen). let none : added ≡ [] = nothing_added seen added (sym same ∙ is) in ap (entries_of names n) none ∙ sym none)
      (λ (t : (e : E) × (names e ≡ n) × (all ≡ seen ++ e ∷ [])).
      let one : added ≡ t.0 ∷ [] = same_added seen added (t.0 ∷ []) (sym is ∙ t.2) in
      ap (entries_of names n) one ∙ (entries_of-own names t.0 n t.1 ∙ sym one))
      adds in
      ap (entries_of names n) is ∙ (entries_of-append names n seen added ∙ ap (λ w. entries_of names n seen ++ w) own)

module _ {S E : Type 0} (names : E → ℕ) (number : ℕ) (v : View E) (m m' : Seated S E) (is : Path (Seated S E) m (right_of number v, []))
    (settled : Settles names m m') where
  -- a new seat, once it has settled, has seen what the first one had
  saw : m'.0.seen ≡ v.seen
  saw = prefix_of_either m'.0.seen v.seen
      (subst (λ (l : List E). IsPrefix l m'.0.seen) (ap (λ (x : Seated S E). x.0.beside) is) settled.that)
      (⊎_elim (λ e. inl (e ∙ ap (λ (x : Seated S E). x.0.seen) is)) (λ e. inr (e ∙ ap (λ (x : Seated S E). x.0.beside) is)) settled.one)

  known : Path (Seated S E) m' (record (right_of number v) { seen = m'.0.seen }, [])
  known = settled.view ∙ (λ i. (record (is i).0 { seen = m'.0.seen }, (is i).1))

  mine_none : entries_of names number m'.0.seen ≡ []
  mine_none = settled.mine number (ap (λ (x : Seated S E). x.0.number) is) ∙ ap (λ (x : Seated S E). entries_of names number x.0.seen) is

  pub new_ready : IsReady m'
  new_ready = record {
    numbered = (number, ap (λ (x : Seated S E). x.0.number) known);
    outside = λ _. ap (λ (x : Seated S E). x.1) known;
    inside = λ e. absurd (cc (e, ap (λ (x : Seated S E). x.0.in_turn) known));
  }

  pub new_shown : (book : TableId) → Path (SeatState E) (shown names book m'.0) (new_seat book number v.seen)
  new_shown book = ap (λ (x : Seated S E). shown names book x.0) known ∙ (λ i. record (new_seat book number (saw i)) { mine = mine_none i })

module _ {S E : Type 0} (names : E → ℕ) (n : ℕ) (v w : View E) (m m' : Seated S E) (is : Path (View E) m.0 (both_ended names v w))
    (first : v.number ≡ Some 0) (number : w.number ≡ Some n) (settled : Settles names m m') where
  ended_is : m.0.ended ≡ v.ended ++ (n, entries_of names n w.seen) ∷ []
  ended_is = ap (λ (u : View E). u.ended) is ∙ (λ i. v.ended ++ ended_of names (number i) w.seen)

  first_still : m.0.number ≡ Some 0
  first_still = ap (λ (u : View E). u.number) is ∙ first

  -- the number of a seat that has just ended was given
  pub end_given : Contains v.given n
  end_given = subst (λ (g : List ℕ). Contains g n) (ap (λ (u : View E). u.given) is)
      (settled.given first_still n (entries_of names n w.seen)
      (subst (λ (d : List (ℕ × List E)). Contains d (n, entries_of names n w.seen)) (sym ended_is)
      (Contains-push v.ended (n, entries_of names n w.seen))))

  -- and it had not ended before
  pub end_once : (l : List E) → ¬ Contains v.ended (n, l)
  end_once l = once_last v.ended n (entries_of names n w.seen) (subst IsOnce ended_is (settled.once first_still)) l

module _ {S E : Type 0} (entries : S → List E) (names : E → ℕ) where
  -- what a value has that a closed book gives back
  pub record Gives (seat : SeatState E) (x : S) : Type 0 where
    pub begins : IsPrefix seat.seen (entries x)
    pub mine : entries_of names 0 (entries x) ≡ seat.mine
    pub ended : (n : ℕ) (l : List E) → Contains seat.ended (n, l) → entries_of names n (entries x) ≡ l
    pub others : NamesGiven names seat.given (entries x)

  pub gives : (id : ℕ) (book : TableId) (me : Seated S E) (seat : SeatState E) (ws : List ℕ) (xs : List (Option S)) (y : Option S)
      → Sits names book me seat → seat.number ≡ 0 → seat.in_turn ≡ false → AllEnded seat
      → Final (Seen (Kept entries names) id me.0) ws xs → get_elem? xs 0 ≡ some y → (x : S) × (y ≡ Some x) × Gives seat x
  gives id book me seat ws xs y s first out all final there =
      let whole = closes_at entries names id me.0 ws xs y (s.number ∙ ap Some first) (s.in_turn ∙ out)
      (λ n c. let e = all n (subst (λ (l : List ℕ). Contains l n) s.given c) in (e.0, subst (λ (d : List (ℕ × List E)). Contains d (n, e.0)) (sym s.ended) e.1))
      final there in
      let w = whole.2 in (
        whole.0,
        whole.1,
        record {
          begins = subst (λ (l : List E). IsPrefix l (entries whole.0)) s.seen w.begins;
          mine = w.first ∙ (ap (entries_of names 0) s.seen ∙ (ap (λ (n : ℕ). entries_of names n seat.seen) (sym first) ∙ sym s.mine));
          ended = λ n l c. w.ended n l (subst (λ (d : List (ℕ × List E)). Contains d (n, l)) (sym s.ended) c);
          others = subst (λ (g : List ℕ). NamesGiven names g (entries whole.0)) s.given w.others;
        },
      )
