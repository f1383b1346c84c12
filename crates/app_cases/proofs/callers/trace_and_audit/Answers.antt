use Rattle.std.proofs.Common.{rules, ◌≡◌, ◌∷◌, [], ◌++◌, codes, length, map, string_bytes, Some, sym, refl, ap, ◌∙◌}
use Rattle.hb_base.specs.Memory.{Shelf, Tape}
use Rattle.history_verdict.specs.declared.verdict.Verdict.TheVariants.{Legal}
use Rattle.verdict_text.specs.Text.{verdict_line}
use Rattle.hb_app.specs.declared.command.Text.TheVariants.{Trace}
use Rattle.app_cases.proofs.Audited.{printed_found, not_3, not_8, is_one_of, tells}
use Rattle.app_cases.proofs.callers.trace_and_audit.Goals as goal

pub returns : goal.returns
returns g c =
    let trace : map string_bytes c.as_slice.result.now ≡ codes "trace" ∷ [] = search rules in
    let audit : map string_bytes c.as_slice-2.result.now ≡ codes "audit" ∷ [] = search rules in
    let judged = c.hb_main-judged.ensures.audit audit in
    let posts = length c.hb_main-judged.new.report.history.items in
    let found =
    printed_found c.in_ok-printed.printed c.audit_laws.ensures.printed (c.hb_main-ran.ensures.run Trace trace) judged
    (ap (λ (s : Shelf). Some s.held) c.new-text.ensures) (ap Some (sym (c.in_ok-printed.ensures ∙ c.held.ensures)))
    (ap (λ (t : Tape). Some t.left) c.new-kept.ensures) refl in
    record {
      legal = λ ran short apart. let finds = found ran short apart in (not_8 posts judged finds, not_3 posts judged finds);
      status = λ ran short apart. is_one_of posts judged (found ran short apart) refl refl;
      told = λ ran short apart zero.
          tells posts judged (found ran short apart) zero ∙ ap (λ (s : Shelf). s.held ++ verdict_line (Legal posts)) c.new-verdict.ensures;
    }
