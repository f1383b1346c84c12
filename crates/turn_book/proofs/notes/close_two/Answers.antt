use Rattle.std.proofs.Common.{◌≡◌, arith, ⊎_elim, ℕ, List, [], ◌∷◌, ◌++◌, ap, sym, subst, ◌∙◌}
use Rattle.std.specs.List.{Contains}
use Rattle.std.proofs.lemmas.List.Elements.{Contains-push, Contains-push_cases, Contains-append_left}
use Rattle.turn_book.specs.declared.notes.Note.{Note}
use Rattle.turn_book.specs.SeatState.{SeatState}
use Rattle.turn_book.proofs.notes.close_two.Goals as goal

abbrev Ends : List (ℕ × List Note) → ℕ → Type 0
Ends ended number = (entries : List Note) × Contains ended (number, entries)

-- two numbers were given, and the seats of both have ended
two_ended : (old ended : List (ℕ × List Note)) (a b : ℕ) (ma mb : List Note) (given : List ℕ) → given ≡ a ∷ b ∷ []
    → ended ≡ (old ++ (a, ma) ∷ []) ++ (b, mb) ∷ [] → (number : ℕ) → Contains given number → Ends ended number
two_ended old ended a b ma mb given is_given is_ended number has =
    subst (λ (xs : List (ℕ × List Note)). Ends xs number) (sym is_ended)
    (⊎_elim
    (λ (first : Contains (a ∷ []) number). ⊎_elim (λ (none : Contains [] number). absurd (omega (arith, none.1)))
    (λ (is : a ≡ number). subst (Ends ((old ++ (a, ma) ∷ []) ++ (b, mb) ∷ [])) is
    (ma, Contains-append_left (old ++ (a, ma) ∷ []) ((b, mb) ∷ []) (a, ma) (Contains-push old (a, ma))))
    (Contains-push_cases [] a number first))
    (λ (is : b ≡ number). subst (Ends ((old ++ (a, ma) ∷ []) ++ (b, mb) ∷ [])) is (mb, Contains-push (old ++ (a, ma) ∷ []) (b, mb)))
    (Contains-push_cases (a ∷ []) b number (subst (λ (xs : List ℕ). Contains xs number) is_given has)))

pub close-requires-clause-ended : goal.close-requires-clause-ended
close-requires-clause-ended c =
    let a = c.args.a in
    let b = c.args.b in
    let given = ap (λ (s : SeatState Note). s.given) c.join-2.ensures.ended ∙ ap (λ (s : SeatState Note). s.given) c.join.ensures.ended ∙ c.requires.first.1 in
    let ended = ap (λ (s : SeatState Note). s.ended) c.join-2.ensures.ended
    ∙ ap (λ (s : SeatState Note). s.ended ++ (b.number, b.mine) ∷ []) c.join.ensures.ended in
    two_ended c.args.first.ended _ a.number b.number a.mine b.mine _ given ended

pub returns-clause-a : goal.returns-clause-a
returns-clause-a c =
    let a = c.args.a in
    let b = c.args.b in
    let old = c.args.first.ended in
    let ended = ap (λ (s : SeatState Note). s.ended) c.join-2.ensures.ended
    ∙ ap (λ (s : SeatState Note). s.ended ++ (b.number, b.mine) ∷ []) c.join.ensures.ended in
    c.close.ensures.ended a.number a.mine (subst (λ (xs : List (ℕ × List Note)). Contains xs (a.number, a.mine)) (sym ended)
    (Contains-append_left (old ++ (a.number, a.mine) ∷ []) ((b.number, b.mine) ∷ []) (a.number, a.mine) (Contains-push old (a.number, a.mine))))

pub returns-clause-b : goal.returns-clause-b
returns-clause-b c =
    let b = c.args.b in
    let ended = ap (λ (s : SeatState Note). s.ended) c.join-2.ensures.ended in
    c.close.ensures.ended b.number b.mine (subst (λ (xs : List (ℕ × List Note)). Contains xs (b.number, b.mine)) (sym ended)
    (Contains-push c.join.new.seat.ended (b.number, b.mine)))
