use Rattle.std.proofs.Common.{◌≡◌, ◌≤◌, ◌+◌, ◌-◌, length, take, drop, ap, refl, subst, sym, ◌∙◌, arith, ℕ, List, [], ◌∷◌, ◌++◌}
use Rattle.disk_model.specs.Disk.{overwritten}
use Rattle.disk_model.specs.declared.undo.Saved.{Saved}
use Rattle.disk_model.specs.Undo.{UndoState, put_back, AreWithin}
use Rattle.disk_model.proofs.Lists.{length-overwritten}
use Rattle.disk_model.proofs.PutBack.{within_push, stays_settled, same_state}
use Rattle.disk_model.proofs.undo.UndoBytes.write.Goals as goal

pub invariant_of-self-in-Ok : goal.invariant_of-self-in-Ok
invariant_of-self-in-Ok c =
    let old : List ℕ = c.self.inside.bytes.items in
    let at_end : c.args.at ≤ length old = omega (arith, c.requires, ap (λ (s : UndoState). length s.current) c.self.view_is) in (
      subst (λ (xs : List Saved). AreWithin c.self.inside.settled_len xs) (sym c.in_ok-push.ensures.items)
          (within_push c.self.inside.settled_len c.self.inside.saved.items _ c.self.invariant.0
          (omega (arith, c.in_ok-bytes_before.ensures.len, c.min-from.ensures, c.min-over.ensures, c.self.invariant.1, ap length c.deref.ensures.value))),
      omega (arith, c.self.invariant.1, ap length c.in-Ok.ensures.ok, length-overwritten c.args.at c.args.bytes.now old at_end),
    )

pub returns-in-Ok-clause-ok : goal.returns-in-Ok-clause-ok
returns-in-Ok-clause-ok c =
    let old : List ℕ = c.self.inside.bytes.items in
    let at_end : c.args.at ≤ length old = omega (arith, c.requires, ap (λ (s : UndoState). length s.current) c.self.view_is) in
    same_state _ _ _ _ _ _ refl refl (c.in-Ok.ensures.ok ∙ ap (λ (s : UndoState). overwritten c.args.at c.args.bytes.now s.current) c.self.view_is)
    (ap (λ (xs : List Saved). put_back xs (take c.self.inside.settled_len c.overwrite-2.new.target.items)) c.in_ok-push.ensures.items
    ∙ ap (λ (xs : List ℕ). put_back (c.self.inside.saved.items ++ record { at = c.min-from.result; bytes = c.in_ok-bytes_before.bytes_before } ∷ []) (take c.self.inside.settled_len xs)) c.in-Ok.ensures.ok
    ∙ stays_settled c.self.inside.settled_len c.args.at c.min-from.result c.min-over.result c.args.bytes.now old _ c.self.inside.saved.items _ (omega (arith, c.min-from.ensures)) (omega (arith, c.min-over.ensures)) at_end c.self.invariant.1 refl refl
    (c.in_ok-bytes_before.ensures.items ∙ ap (λ (n : ℕ). take n (drop c.min-from.result c.deref.result.now)) (let g : c.min-from.result + c.min-over.result - c.min-from.result ≡ c.min-over.result = omega arith in g)
    ∙ ap (λ (xs : List ℕ). take c.min-over.result (drop c.min-from.result xs)) c.deref.ensures.value)
    ∙ ap (λ (s : UndoState). s.settled) c.self.view_is)
