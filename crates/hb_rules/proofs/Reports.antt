-- Running nodes: they are correct, and each of their actors has an end with the fate Running.
use Rattle.std.proofs.Common.{◌≡◌, ℕ, zero, suc, ◌+◌, ◌<◌, ◌≤◌, ◌&&◌, ◌==◌, not, nat_lt, Bool, true, inl, inr, List, Contains, refl, ap, ◌∙◌, arith}
use Rattle.std.specs.List.{list_all, range_with_len}
use Rattle.std.proofs.lemmas.Bool.{cases_lt, and_parts, eqb-true, ltb-true, not-true}
use Rattle.hb_base.specs.NodeSet.{is_in}
use Rattle.hb_rules.specs.declared.report.End.{End}
use Rattle.hb_rules.specs.declared.report.Fate.{Fate}
use Rattle.hb_rules.specs.declared.report.Fate.TheVariants.{Running, Memory, Journal, Full}
use Rattle.hb_rules.specs.declared.report.Report.{Report}
use Rattle.hb_rules.specs.Ledger.{IsCorrect}
use Rattle.hb_rules.specs.Report.{is_running_fate, works, none_ended, all_work, is_running}
use Rattle.hb_rules.proofs.Among.{any_stands}

pub running_of : (fate : Fate) → is_running_fate fate ≡ true → fate ≡ Running
running_of Running is = refl
running_of Memory is = absurd (cc (is))
running_of Journal is = absurd (cc (is))
running_of Full is = absurd (cc (is))

pub running_correct : (report : Report) (i : ℕ) → is_running report i ≡ true → IsCorrect report.config i
running_correct report i runs =
    let parts = and_parts (nat_lt i report.config.n) (not (is_in report.config.liars i) && all_work report.config.n report.ends.items i) runs in
    let inner = and_parts (not (is_in report.config.liars i)) (all_work report.config.n report.ends.items i) parts.1 in
    record { known = ltb-true i report.config.n parts.0; honest = not-true (is_in report.config.liars i) inner.0 }

-- ---- actors that work

-- an end of actor x of node i with the fate Running
pub record IsAtWork (ends : List End) (i x : ℕ) : Type 0 where
  pub end : End
  pub stands : Contains ends end
  pub node : end.node ≡ i
  pub actor : end.actor ≡ x
  pub fate : end.fate ≡ Running

pub works_end : (ends : List End) (i x : ℕ) → works ends i x ≡ true → IsAtWork ends i x
works_end ends i x h =
    let test : End → Bool = λ end. ((end.node == i) && (end.actor == x)) && is_running_fate end.fate in
    let found = any_stands test ends h in
    let parts = and_parts ((found.0.node == i) && (found.0.actor == x)) (is_running_fate found.0.fate) found.2 in
    let name = and_parts (found.0.node == i) (found.0.actor == x) parts.0 in
    record {
      end = found.0;
      stands = found.1;
      node = eqb-true found.0.node i name.0;
      actor = eqb-true found.0.actor x name.1;
      fate = running_of found.0.fate parts.1;
    }

range_all : (p : ℕ → Bool) (s k : ℕ) → list_all p (range_with_len s k) ≡ true → (m : ℕ) → s ≤ m → m < s + k → p m ≡ true
range_all p s zero all m low high = absurd (omega arith)
range_all p s (suc k) all m low high =
    let parts = and_parts (p s) (list_all p (range_with_len (s + 1) k)) all in
    elim (cases_lt s m) [
      | inl behind ↦ range_all p (s + 1) k parts.1 m (omega arith) (omega arith)
      | inr not_behind ↦ let here : m ≡ s = omega arith in ap p here ∙ parts.0
    ]

-- each actor of a running node works
pub running_works : (report : Report) (i x : ℕ) → is_running report i ≡ true → x ≤ report.config.n → works report.ends.items i x ≡ true
running_works report i x runs few =
    let parts = and_parts (nat_lt i report.config.n) (not (is_in report.config.liars i) && all_work report.config.n report.ends.items i) runs in
    let inner = and_parts (not (is_in report.config.liars i)) (all_work report.config.n report.ends.items i) parts.1 in
    let all = and_parts (list_all (works report.ends.items i) (range_with_len 0 (report.config.n + 1))) (none_ended report.ends.items i) inner.1 in
    range_all (works report.ends.items i) 0 (report.config.n + 1) all.0 x (omega arith) (omega arith)
