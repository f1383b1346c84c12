use Rattle.std.proofs.Common.{◌≡◌, true, sym, ◌∙◌}
use Rattle.aba_core.specs.declared.passing.Row.TheVariants.{ConfirmOne, ConfirmBoth}
use Rattle.hb_rules.specs.Agreement.{confirms}
use Rattle.aba_core.specs.Rows.{row_of}
use Rattle.aba_core.proofs.Passes.{Passed-then}
use Rattle.aba_core.proofs.aba.Aba.confirm_rows.Goals as goal

pub returns-clause-passed : goal.returns-clause-passed
returns-clause-passed c =
    let yes : confirms c.args.self.now.config ≡ true = sym c.confirms.ensures ∙ c.if-not-confirms.false in
    rw yes (Passed-then c.args.from c.args.self.now c.row.new.self c.row-2.new.self (row_of c.args.self.now.config ConfirmOne) (λ n. row_of n ConfirmBoth)
    c.args.due.now c.row.new.due c.row-2.new.due c.row.ensures.passed c.row-2.ensures.passed)
