use Rattle.std.proofs.Common.{◌∙◌, ◌-◌, ◌∷◌, [], ◌++◌, ap, sym, refl, length, List, ℕ}
use Rattle.std.specs.List.{concat}
use Rattle.vote_journal.proofs.Walk.{walk_on, walk_ends}
use Rattle.vote_journal.proofs.parse.entries_from.Goals as goal

pub loop-payload-preserved : goal.loop-payload-preserved
loop-payload-preserved c =
    walk_on c.args.bytes.now c.loop-payload.rest.now c.in-Some.after.now c.in-Some.payload.now c.loop-payload.entries.items c.push.new.self.items
    c.loop-payload.total _ c.loop-payload.invariant
    (sym c.in-Some.ensures.some) c.in-Some.ensures.payload c.in-Some.ensures.rest
    (c.in_ok-push.ensures.items ∙ ap (λ (x : List ℕ). c.loop-payload.entries.items ++ x ∷ []) c.in_ok-copy.ensures) refl

pub returns-clause-entries : goal.returns-clause-entries
returns-clause-entries c = (walk_ends c.args.bytes.now c.loop-payload.rest.now c.loop-payload.entries.items c.loop-payload.total
    c.loop-payload.invariant (sym c.in_default.ensures.some)).0

pub returns-clause-gate : goal.returns-clause-gate
returns-clause-gate c =
    ap (λ (xs : List ℕ). length c.args.bytes.now - length xs)
    (walk_ends c.args.bytes.now c.loop-payload.rest.now c.loop-payload.entries.items c.loop-payload.total c.loop-payload.invariant
    (sym c.in_default.ensures.some)).1

pub returns-clause-bytes : goal.returns-clause-bytes
returns-clause-bytes c =
    c.loop-payload.invariant.total_is
    ∙ ap (λ (es : List (List ℕ)). length (concat es))
    (walk_ends c.args.bytes.now c.loop-payload.rest.now c.loop-payload.entries.items c.loop-payload.total c.loop-payload.invariant
    (sym c.in_default.ensures.some)).0
