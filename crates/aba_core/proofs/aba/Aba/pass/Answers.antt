use Rattle.std.proofs.Common.{List, ◌++◌}
use Rattle.hb_base.specs.Numbers.{Numbers}
use Rattle.hb_rules.specs.declared.agreement_slot.AgreementSlot.{AgreementSlot}
use Rattle.hb_rules.specs.Agreement.{confirms}
use Rattle.aba_core.specs.declared.passing.Row.TheVariants.{Support, Accept, PickOne, PickBoth, ShowShare, GoOn, Decide}
use Rattle.aba_core.specs.Rows.{row_of, begin_slots, confirm_slots}
use Rattle.aba_core.proofs.Passes.{Passed-then}
use Rattle.aba_core.proofs.aba.Aba.pass.Goals as goal

-- the rows from each one on
abbrev from_show : Numbers → List AgreementSlot
from_show c = row_of c ShowShare ++ (row_of c GoOn ++ row_of c Decide)

abbrev from_pick : Numbers → List AgreementSlot
from_pick c = row_of c PickOne ++ (row_of c PickBoth ++ from_show c)

abbrev from_accept : Numbers → List AgreementSlot
from_accept c = row_of c Accept ++ (confirm_slots (confirms c) c ++ from_pick c)

pub returns-clause-passed : goal.returns-clause-passed
returns-clause-passed c =
    let from = c.args.from in
    let end = c.row-7.new.self in
    let last = c.row-7.new.due in
    let shown = Passed-then from c.row-4.new.self c.row-5.new.self end (row_of c.row-4.new.self.config ShowShare) (λ n. row_of n GoOn ++ row_of n Decide)
    c.row-4.new.due c.row-5.new.due last c.row-5.ensures.passed
    (Passed-then from c.row-5.new.self c.row-6.new.self end (row_of c.row-5.new.self.config GoOn) (λ n. row_of n Decide)
    c.row-5.new.due c.row-6.new.due last c.row-6.ensures.passed c.row-7.ensures.passed) in
    let picked = Passed-then from c.confirm_rows.new.self c.row-3.new.self end (row_of c.confirm_rows.new.self.config PickOne) (λ n. row_of n PickBoth ++ from_show n)
    c.confirm_rows.new.due c.row-3.new.due last c.row-3.ensures.passed
    (Passed-then from c.row-3.new.self c.row-4.new.self end (row_of c.row-3.new.self.config PickBoth) from_show
    c.row-3.new.due c.row-4.new.due last c.row-4.ensures.passed shown) in
    let accepted = Passed-then from c.row.new.self c.row-2.new.self end (row_of c.row.new.self.config Accept) (λ n. confirm_slots (confirms n) n ++ from_pick n)
    c.row.new.due c.row-2.new.due last c.row-2.ensures.passed
    (Passed-then from c.row-2.new.self c.confirm_rows.new.self end (confirm_slots (confirms c.row-2.new.self.config) c.row-2.new.self.config) from_pick
    c.row-2.new.due c.confirm_rows.new.due last c.confirm_rows.ensures.passed picked) in
    Passed-then from c.args.self.now c.begin_rows.new.self end begin_slots (λ n. row_of n Support ++ from_accept n)
    c.args.due.now c.begin_rows.new.due last c.begin_rows.ensures.passed
    (Passed-then from c.begin_rows.new.self c.row.new.self end (row_of c.begin_rows.new.self.config Support) from_accept
    c.begin_rows.new.due c.row.new.due last c.row.ensures.passed accepted)
