use Rattle.std.proofs.Common.{◌≡◌, ◌<◌, ◌≤◌, ◌==◌, ◌∷◌, [], List, length, get_or, if◌then◌else◌, ap, ◌∙◌, arith}
use Rattle.std.specs.List.{flat_map}
use Rattle.std.proofs.lemmas.List.{take_all}
use Rattle.net_script.specs.declared.script.Submit.{Submit}
use Rattle.ledger_run.proofs.Gathered.{gathered_more, kept_is}
use Rattle.ledger_run.proofs.submissions.submitted_at.Goals as goal

pub loop-submit-preserved : goal.loop-submit-preserved
loop-submit-preserved c =
    let submits = c.args.script.now.submit.items in
    let below : c.loop-submit.submit-index < length submits = omega (arith, c.loop-submit-test.true, ap length c.deref-submit-items.ensures.value) in
    let is : c.submit-item.result ≡ get_or submits c.loop-submit.submit-index c.submit-item.result =
    c.submit-item.is ∙ ap (λ (xs : List Submit). get_or xs c.loop-submit.submit-index c.submit-item.result) c.deref-submit-items.ensures.value in
    record {
      exact =
          gathered_more (λ (s : Submit). if s.node == c.args.node then s.tx ∷ [] else []) submits
          c.loop-submit.submit-index c.submit-item.result c.loop-submit.txs.items c.add_submitted.new.txs.items below is
          c.loop-submit.invariant.exact c.in_ok-add_submitted.ensures.exact;
      bytes = c.in_ok-add_submitted.ensures.bytes c.loop-submit.invariant.bytes;
    }

pub returns-clause-exact : goal.returns-clause-exact
returns-clause-exact c =
    let submits = c.args.script.now.submit.items in
    let past : length submits ≤ c.loop-submit.submit-index = omega (arith, c.loop-submit-test.false, ap length c.deref-submit-items.ensures.value) in
    c.loop-submit.invariant.exact
    ∙ ap (flat_map (λ (s : Submit). if s.node == c.args.node then s.tx ∷ [] else [])) (take_all c.loop-submit.submit-index submits past)
    ∙ kept_is (λ (s : Submit). s.node == c.args.node) (λ (s : Submit). s.tx) submits
