use Rattle.std.proofs.Common.{◌≡◌, ℕ, List, None, Some, Option, length, drop, slice_get, slice_index_or, sym, ap, ◌∙◌, subst, arith}
use Rattle.hb_wire.specs.declared.items.Item.{Item}
use Rattle.hb_wire.specs.Glances.{IsClosedRest}
use Rattle.hb_wire.specs.Lists.{listed}
use Rattle.observer.specs.Standing.{ObserverView, IsSoundView}
use Rattle.observer.proofs.Taken.{heard_ledger}
use Rattle.observer.proofs.Leading.{ledger_short, stored, closed_rest}
use Rattle.observer.proofs.observer.Observer.list.Goals as goal

pub bytes_at-requires : goal.bytes_at-requires
bytes_at-requires c =
    let sound : IsSoundView c.args.self.now = subst IsSoundView c.self.view_is c.self.invariant in
    let places = ap (λ (x : ObserverView). length x.taken) c.self.view_is in
    let lent = ap (λ (xs : List (Option (List ℕ))). length xs) c.as_slice.ensures.value in
    omega (arith, c.requires, ledger_short c.args.self.now, sound.places, places, lent)

pub rest_of-requires : goal.rest_of-requires
rest_of-requires c =
    let sound : IsSoundView c.args.self.now = subst IsSoundView c.self.view_is c.self.invariant in
    let s = stored c.args.self.now c.args.e sound c.requires in
    let is : c.bytes_at.result.now ≡ s.0 =
    c.bytes_at.ensures s.0 (ap (λ (xs : List (Option (List ℕ))). slice_index_or xs c.args.e None) c.as_slice.ensures.value
    ∙ ap (λ (x : ObserverView). slice_index_or x.taken c.args.e None) c.self.view_is ∙ s.1) in
    omega (arith, (closed_rest c.args.self.now.config s.0 s.2.list s.2.is).long, ap (λ (b : List ℕ). length b) is)

pub returns-clause-value : goal.returns-clause-value
returns-clause-value c =
    let sound : IsSoundView c.args.self.now = subst IsSoundView c.self.view_is c.self.invariant in
    let s = stored c.args.self.now c.args.e sound c.requires in
    let is : c.bytes_at.result.now ≡ s.0 =
    c.bytes_at.ensures s.0 (ap (λ (xs : List (Option (List ℕ))). slice_index_or xs c.args.e None) c.as_slice.ensures.value
    ∙ ap (λ (x : ObserverView). slice_index_or x.taken c.args.e None) c.self.view_is ∙ s.1) in
    let rest = closed_rest c.args.self.now.config s.0 s.2.list s.2.is in
    let items : listed c.rest_of.result.now ≡ s.2.list = ap (λ (b : List ℕ). listed b) (c.rest_of.ensures ∙ ap (λ (b : List ℕ). drop 2 b) is) ∙ rest.listed_is in
    s.2.there ∙ ap (λ (l : List Item). Some l) (sym items)

pub returns-clause-shown : goal.returns-clause-shown
returns-clause-shown c =
    let sound : IsSoundView c.args.self.now = subst IsSoundView c.self.view_is c.self.invariant in
    let s = stored c.args.self.now c.args.e sound c.requires in
    let is : c.bytes_at.result.now ≡ s.0 =
    c.bytes_at.ensures s.0 (ap (λ (xs : List (Option (List ℕ))). slice_index_or xs c.args.e None) c.as_slice.ensures.value
    ∙ ap (λ (x : ObserverView). slice_index_or x.taken c.args.e None) c.self.view_is ∙ s.1) in
    let rest = closed_rest c.args.self.now.config s.0 s.2.list s.2.is in
    let behind : c.rest_of.result.now ≡ drop 2 s.0 = c.rest_of.ensures ∙ ap (λ (b : List ℕ). drop 2 b) is in
    subst (λ (r : List ℕ). IsClosedRest r (listed r)) (sym behind) (subst (λ (l : List Item). IsClosedRest (drop 2 s.0) l) (sym rest.listed_is) rest.shown)

pub returns-clause-observed : goal.returns-clause-observed
returns-clause-observed c = λ heard has.
    ap (λ (lists : List (List Item)). slice_get lists c.args.e) (sym (heard_ledger c.args.self.now heard has)) ∙ returns-clause-value c
