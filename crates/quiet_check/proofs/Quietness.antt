-- Whether a report is quiet, end by end.
use Rattle.std.proofs.Common.{◌≡◌, ℕ, ◌+◌, ◌<◌, inl, inr, List, length, map, get_or, Contains, Some, slice_get, sym, ap, ◌∙◌, subst, arith}
use Rattle.std.proofs.lemmas.Bool.{cases_eq}
use Rattle.std.proofs.lemmas.List.{length-map}
use Rattle.std.proofs.lemmas.Option.{slice_get-get_or, slice_get_within}
use Rattle.hb_rules.specs.declared.report.End.{End}
use Rattle.hb_rules.specs.declared.report.Report.{Report}
use Rattle.hb_rules.specs.Report.{actors, IsQuiet}
use Rattle.hb_rules.proofs.Lists.{contains_at, at_contains}
use Rattle.quiet_check.specs.Ends.{IsEndQuiet}
use Rattle.quiet_check.proofs.Naming.{IsOfRun, actor_of_run, end_at}

-- the ends are those of the actors of the run, in order
abbrev pub AreOfRun : Report → Type 0
AreOfRun report = map (λ (end : End). (end.node, end.actor)) report.ends.items ≡ actors report.config

pub are_of_run : (report : Report) (items : List End) → items ≡ report.ends.items → map (λ (end : End). (end.node, end.actor)) items ≡ actors report.config
    → AreOfRun report
are_of_run report items same named = subst (λ (ends : List End). map (λ (end : End). (end.node, end.actor)) ends ≡ actors report.config) same named

-- the end at a place is that of an actor of the run
end_of_run : (report : Report) (p : ℕ) (d : End) → AreOfRun report
    → p < length report.ends.items
    → IsOfRun report.config.n ((get_or report.ends.items p d).node, (get_or report.ends.items p d).actor)
end_of_run report p d same below =
    let names : List (ℕ × ℕ) = actors report.config in
    let long : length report.ends.items ≡ length names = sym (length-map report.ends.items (λ (end : End). (end.node, end.actor))) ∙ ap length same in
    actor_of_run report.config ((get_or report.ends.items p d).node, (get_or report.ends.items p d).actor)
    (at_contains names p ((get_or report.ends.items p d).node, (get_or report.ends.items p d).actor)
    (slice_get-get_or names p ((get_or report.ends.items p d).node, (get_or report.ends.items p d).actor) (omega (arith, long))
    ∙ ap Some (sym (end_at report.ends.items names p d ((get_or report.ends.items p d).node, (get_or report.ends.items p d).actor) below same))))

-- what stands at a place of the ends, and is that of an actor of the run
pub record IsEndAt (report : Report) (k : ℕ) (end : End) : Type 0 where
  pub at : slice_get report.ends.items k ≡ Some end
  pub stands : Contains report.ends.items end
  pub of_run : IsOfRun report.config.n (end.node, end.actor)

pub end_there : (report : Report) (items : List End) (k : ℕ) (end : End) → AreOfRun report → items ≡ report.ends.items → k < length items
    → end ≡ get_or items k end → IsEndAt report k end
end_there report items k end all same below is = record {
  at = at;
  stands = at_contains report.ends.items k end at;
  of_run = subst (λ (end : End). IsOfRun report.config.n (end.node, end.actor)) (sym here) (end_of_run report k end all inside);
}
  where
    inside : k < length report.ends.items
    inside = omega (arith, below, ap (λ (ends : List End). length ends) same)

    here : end ≡ get_or report.ends.items k end
    here = is ∙ ap (λ (ends : List End). get_or ends k end) same

    at : slice_get report.ends.items k ≡ Some end
    at = slice_get-get_or report.ends.items k end inside ∙ ap Some (sym here)

-- nothing is left to do for an end of a quiet report
pub end_quiet : (report : Report) (end : End) → IsQuiet report → Contains report.ends.items end → IsEndQuiet report end
end_quiet report end quiet stands = record { got = quiet.got end stands; settled = quiet.settled end stands }

pub all_quiet : (report : Report) → AreOfRun report
    → ((p : ℕ) (end : End) → p < length report.ends.items → slice_get report.ends.items p ≡ Some end → IsEndQuiet report end) → IsQuiet report
all_quiet report same each = record {
  ends = same;
  got = λ end stands. (at end stands).got;
  settled = λ end stands. (at end stands).settled;
}
  where
    at : (end : End) → Contains report.ends.items end → IsEndQuiet report end
    at end stands =
        let place = contains_at report.ends.items end stands in
        each place.0 end (slice_get_within report.ends.items place.0 end place.1) place.1

-- one end more
pub quiet_more : (report : Report) (k : ℕ) (item : End)
    → ((p : ℕ) (end : End) → p < k → slice_get report.ends.items p ≡ Some end → IsEndQuiet report end)
    → slice_get report.ends.items k ≡ Some item → IsEndQuiet report item
    → (p : ℕ) (end : End) → p < k + 1 → slice_get report.ends.items p ≡ Some end → IsEndQuiet report end
quiet_more report k item before here quiet p end below at = elim (cases_eq p k) [
  | inl same ↦
      let is : item ≡ end = cc (sym here ∙ ap (slice_get report.ends.items) (sym same) ∙ at) in
      subst (IsEndQuiet report) is quiet
  | inr other ↦ before p end (less p k below other) at
]
  where
    less : (p k : ℕ) → p < k + 1 → (p ≡ k → ⊥) → p < k
    less p k below other = omega arith
