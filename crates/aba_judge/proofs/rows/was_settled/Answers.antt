use Rattle.std.proofs.Common.{◌+◌, ◌-◌, ◌||◌, Bool, sym, ap, ◌∙◌, arith}
use Rattle.std.specs.List.{list_any, range_with_len}
use Rattle.std.proofs.lemmas.Bool.{or_left}
use Rattle.hb_rules.specs.AgreementRows.{View, view_of}
use Rattle.aba_judge.specs.Tests.{settles}
use Rattle.aba_judge.proofs.KnownCoins.{any_from}
use Rattle.aba_judge.proofs.rows.was_settled.Goals as goal

pub returns-then-settled : goal.returns-then-settled
returns-then-settled c =
    let v : View = view_of c.args.place.now.config c.args.place.now.node c.args.place.now.lane c.args.place.now.epoch c.args.own.now c.args.heard.now in
    let rounds = c.args.place.now.config.rounds in
    let r = c.loop-round.round in
    sym (c.loop-round.invariant ∙ any_from (settles v c.args.bit) rounds r (omega (arith, c.loop-round-test.true, c.rounds-round-end.ensures.value))
    ∙ or_left (settles v c.args.bit r) (list_any (settles v c.args.bit) (range_with_len (r + 1) (rounds - (r + 1)))) (sym c.settles-settled.ensures ∙ c.if-settled.true))

pub loop-round-preserved : goal.loop-round-preserved
loop-round-preserved c =
    let v : View = view_of c.args.place.now.config c.args.place.now.node c.args.place.now.lane c.args.place.now.epoch c.args.own.now c.args.heard.now in
    let rounds = c.args.place.now.config.rounds in
    let r = c.loop-round.round in
    c.loop-round.invariant ∙ any_from (settles v c.args.bit) rounds r (omega (arith, c.loop-round-test.true, c.rounds-round-end.ensures.value))
    ∙ ap (λ (t : Bool). t || list_any (settles v c.args.bit) (range_with_len (r + 1) (rounds - (r + 1)))) (sym c.settles-settled.ensures ∙ c.if-settled.false)
