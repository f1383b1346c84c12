use Rattle.std.proofs.Common.{rules, ◌≡◌, Ok, decimal, sym, ap, ◌∙◌, arith}
use Rattle.std.proofs.lemmas.Fmt.{parse-decimal}
use Rattle.std.proofs.lemmas.Grind.{common_steps}
use Rattle.hb_app.proofs.command.number_of.Goals as goal

pub returns-in_err-number-clause-none : goal.returns-in_err-number-clause-none
returns-in_err-number-clause-none c none n small is =
    let parsed : c.parse.result ≡ Ok n = parse-decimal 64 n c.args.word.now c.parse.result small small is c.parse.ensures.value.0 in
    grind (arith, common_steps)

pub returns-else-eq-clause-none : goal.returns-else-eq-clause-none
returns-else-eq-clause-none c none n small is =
    let parsed : c.parse.result ≡ Ok n = parse-decimal 64 n c.args.word.now c.parse.result small small is c.parse.ensures.value.0 in
    let number : c.in_ok-number.number ≡ n = grind (arith, common_steps) in
    let same : c.format.result.now ≡ c.args.word.now = c.format.ensures.text ∙ ap decimal number ∙ sym is in
    search rules
