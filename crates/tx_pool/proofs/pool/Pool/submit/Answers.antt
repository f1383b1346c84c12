use Rattle.std.proofs.Common.{◌≡◌, ℕ, List, true, false, None, is_some, refl, sym, ap, ◌∙◌}
use Rattle.tx_pool.specs.Pool.{is_known}
use Rattle.tx_pool.specs.Standings.{standing_of}
use Rattle.tx_pool.proofs.Tied.{known_is, none_from, tied_push, settled_of-push}
use Rattle.tx_pool.proofs.Told.{told_submit}
use Rattle.tx_pool.proofs.pool.Pool.submit.Goals as goal

pub returns-then-is_some-clause-answer : goal.returns-then-is_some-clause-answer
returns-then-is_some-clause-answer c =
    let known : is_known c.args.self.now c.args.tx.now ≡ true =
    rw (← c.self.view_is) (known_is c.self.inside.pooled.items c.self.inside.standings c.args.tx.now c.self.invariant
    ∙ ap (λ (tx : List ℕ). is_some (standing_of c.self.inside.standings tx)) (sym c.as_slice.ensures)
    ∙ ap is_some (sym c.get.ensures) ∙ sym c.is_some.ensures ∙ c.if-is_some.true) in
    rw known refl

pub returns-then-is_some-clause-pooled : goal.returns-then-is_some-clause-pooled
returns-then-is_some-clause-pooled c =
    let known : is_known c.args.self.now c.args.tx.now ≡ true =
    rw (← c.self.view_is) (known_is c.self.inside.pooled.items c.self.inside.standings c.args.tx.now c.self.invariant
    ∙ ap (λ (tx : List ℕ). is_some (standing_of c.self.inside.standings tx)) (sym c.as_slice.ensures)
    ∙ ap is_some (sym c.get.ensures) ∙ sym c.is_some.ensures ∙ c.if-is_some.true) in
    rw known refl

pub returns-then-is_some-clause-told : goal.returns-then-is_some-clause-told
returns-then-is_some-clause-told c calls is_of =
    let known : is_known c.args.self.now c.args.tx.now ≡ true =
    rw (← c.self.view_is) (known_is c.self.inside.pooled.items c.self.inside.standings c.args.tx.now c.self.invariant
    ∙ ap (λ (tx : List ℕ). is_some (standing_of c.self.inside.standings tx)) (sym c.as_slice.ensures)
    ∙ ap is_some (sym c.get.ensures) ∙ sym c.is_some.ensures ∙ c.if-is_some.true) in
    told_submit calls c.args.tx.now c.args.self.now c.args.self.now is_of (rw known refl) refl

pub invariant_of-self-2 : goal.invariant_of-self-2
invariant_of-self-2 c =
    let fresh : standing_of c.self.inside.standings c.args.tx.now ≡ None =
    none_from (standing_of c.self.inside.standings c.args.tx.now)
    (ap (λ (tx : List ℕ). is_some (standing_of c.self.inside.standings tx)) (sym c.as_slice.ensures)
    ∙ ap is_some (sym c.get.ensures) ∙ sym c.is_some.ensures ∙ c.if-is_some.false) in
    rw (c.push_within.ensures, c.reserve.ensures.items, c.in_ok-shared.ensures.cases)
    (tied_push c.self.inside.pooled.items c.self.inside.standings c.insert.new.self c.args.tx.now c.requires c.self.invariant fresh c.in_ok-insert.ensures.ok)

pub returns-clause-answer : goal.returns-clause-answer
returns-clause-answer c =
    let fresh : is_known c.args.self.now c.args.tx.now ≡ false =
    rw (← c.self.view_is) (known_is c.self.inside.pooled.items c.self.inside.standings c.args.tx.now c.self.invariant
    ∙ ap (λ (tx : List ℕ). is_some (standing_of c.self.inside.standings tx)) (sym c.as_slice.ensures)
    ∙ ap is_some (sym c.get.ensures) ∙ sym c.is_some.ensures ∙ c.if-is_some.false) in
    rw fresh refl

pub returns-clause-pooled : goal.returns-clause-pooled
returns-clause-pooled c =
    let fresh : is_known c.args.self.now c.args.tx.now ≡ false =
    rw (← c.self.view_is) (known_is c.self.inside.pooled.items c.self.inside.standings c.args.tx.now c.self.invariant
    ∙ ap (λ (tx : List ℕ). is_some (standing_of c.self.inside.standings tx)) (sym c.as_slice.ensures)
    ∙ ap is_some (sym c.get.ensures) ∙ sym c.is_some.ensures ∙ c.if-is_some.false) in
    rw fresh (rw (c.push_within.ensures, c.reserve.ensures.items, c.in_ok-shared.ensures.cases, ← c.self.view_is) refl)

pub returns-clause-settled : goal.returns-clause-settled
returns-clause-settled c =
    let fresh : standing_of c.self.inside.standings c.args.tx.now ≡ None =
    none_from (standing_of c.self.inside.standings c.args.tx.now)
    (ap (λ (tx : List ℕ). is_some (standing_of c.self.inside.standings tx)) (sym c.as_slice.ensures)
    ∙ ap is_some (sym c.get.ensures) ∙ sym c.is_some.ensures ∙ c.if-is_some.false) in
    rw (← c.self.view_is) (settled_of-push c.self.inside.pooled.items c.self.inside.standings c.insert.new.self c.args.tx.now c.self.invariant fresh
    c.in_ok-insert.ensures.ok)

pub returns-clause-told : goal.returns-clause-told
returns-clause-told c calls is_of =
    told_submit calls c.args.tx.now c.args.self.now _ is_of (returns-clause-pooled c) (returns-clause-settled c)
