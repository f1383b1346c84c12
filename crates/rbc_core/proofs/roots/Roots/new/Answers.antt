use Rattle.std.proofs.Common.{List, ℕ, sym, ap, subst, arith}
use Rattle.std.specs.Cmp.Lexicographic.{slice_cmp}
use Rattle.std.specs.BTreeMap.{is_at}
use Rattle.std.specs.Global.{Box}
use Rattle.std.specs.Map.{lookup}
use Rattle.std.specs.Ordering.{nat_cmp}
use Rattle.rbc_core.specs.declared.root_state.RootState.{RootState}
use Rattle.rbc_core.specs.Roots.{IsRootView}
use Rattle.rbc_core.proofs.RootStates.{IsRootView-unheard}
use Rattle.rbc_core.proofs.Tables.{view-none}
use Rattle.rbc_core.proofs.roots.Roots.new.Goals as goal

pub invariant_of-result : goal.invariant_of-result
invariant_of-result c = record {
  each = λ root.
      subst (IsRootView c.args.config.now root)
      (sym (view-none c.args.config.now c.new.result root
      (ap (λ (es : List (List ℕ × Box RootState)). lookup (is_at (slice_cmp nat_cmp root)) es) c.new.ensures.empty)))
      (IsRootView-unheard c.args.config.now root (omega arith));
}
