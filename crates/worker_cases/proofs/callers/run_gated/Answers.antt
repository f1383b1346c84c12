use Rattle.std.proofs.Common.{rules, ◌≡◌, ◌∷◌, [], ◌++◌, codes, map, string_bytes, Some, ap, ◌∙◌}
use Rattle.hb_base.specs.Memory.{Shelf, Tape}
use Rattle.hb_app.specs.declared.command.Text.TheVariants.{Ledgers}
use Rattle.ledger_text.specs.Text.{run_text}
use Rattle.app_cases.proofs.Running.{is_run_of}
use Rattle.worker_cases.proofs.callers.run_gated.Goals as goal

pub returns-clause-ran : goal.returns-clause-ran
returns-clause-ran g c ran =
    let asks : map string_bytes c.as_slice.result.now ≡ codes "run" ∷ [] = search rules in
    is_run_of c.args.input (c.hb_main-status.ensures.run Ledgers asks) (ap (λ (t : Tape). Some t.left) c.new-source.ensures) ran

pub returns-clause-told : goal.returns-clause-told
returns-clause-told g c ran =
    let asks : map string_bytes c.as_slice.result.now ≡ codes "run" ∷ [] = search rules in
    ((c.hb_main-status.ensures.run Ledgers asks).ran ran).1

pub returns-clause-text : goal.returns-clause-text
returns-clause-text g c ran =
    let asks : map string_bytes c.as_slice.result.now ≡ codes "run" ∷ [] = search rules in
    ((c.hb_main-status.ensures.run Ledgers asks).ran ran).2.0
    ∙ ap (λ (s : Shelf). s.held ++ run_text c.hb_main-status.new.report) c.new-out.ensures

pub returns-clause-legal : goal.returns-clause-legal
returns-clause-legal g c ran =
    let asks : map string_bytes c.as_slice.result.now ≡ codes "run" ∷ [] = search rules in
    ((c.hb_main-status.ensures.run Ledgers asks).ran ran).0.2.kept.legal

pub returns-clause-quiet : goal.returns-clause-quiet
returns-clause-quiet g c ran =
    let asks : map string_bytes c.as_slice.result.now ≡ codes "run" ∷ [] = search rules in
    ((c.hb_main-status.ensures.run Ledgers asks).ran ran).0.2.kept.quiet

pub returns-clause-plan : goal.returns-clause-plan
returns-clause-plan g c ran =
    let asks : map string_bytes c.as_slice.result.now ≡ codes "run" ∷ [] = search rules in
    ((c.hb_main-status.ensures.run Ledgers asks).ran ran).0.2.kept.plan

pub returns-clause-agree : goal.returns-clause-agree
returns-clause-agree g c ran apart =
    let asks : map string_bytes c.as_slice.result.now ≡ codes "run" ∷ [] = search rules in
    let safe = ((c.hb_main-status.ensures.run Ledgers asks).ran ran).0.2.safe apart in
    (safe.ledgers, safe.enough, safe.unaltered)
