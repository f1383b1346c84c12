use Rattle.std.proofs.Common.{◌≡◌, true, [], ◌∷◌}
use Rattle.std.proofs.lemmas.List.Elements.{All-push}
use Rattle.hb_rules.specs.History.{HasSpelling}
use Rattle.hb_rules.proofs.Lists.{AllByRecursion-append}
use Rattle.rbc_judge.specs.Checked.{is_checked}
use Rattle.judge_cases.proofs.broadcasts.heard_of.Goals as goal

pub loop-word-preserved : goal.loop-word-preserved
loop-word-preserved c =
    let conf = c.args.config.now in
    let before = c.loop-word.invariant in
    let one = c.in_ok-one.one in (
      rw c.in_ok-push.ensures.items (AllByRecursion-append (λ h. HasSpelling conf h.vote) c.loop-word.heard.items (one ∷ []) before.0 (c.in_ok-one.ensures.spelled, tt)),
      rw c.in_ok-push.ensures.items (All-push (λ h. is_checked conf.n h.from h.vote ≡ true) c.loop-word.heard.items one before.1 c.in_ok-one.ensures.checked),
    )
