use Rattle.std.proofs.Common.{inl, inr, subst}
use Rattle.std.proofs.lemmas.Result.{IfOk-weaker}
use Rattle.disk_model.specs.Image.{Image}
use Rattle.disk_model.specs.Disk.{Cut, OnHalf}
use Rattle.vote_journal.proofs.Moments.{refused, and_then, done_unfailed}
use Rattle.vote_journal.proofs.Gains.{shut_is}
use Rattle.vote_journal.proofs.steps.retire.Goals as goal

pub returns-in_err-shut_gate-clause-step : goal.returns-in_err-shut_gate-clause-step
returns-in_err-shut_gate-clause-step g c = refused c.from_residual.result c.from_residual.ensures.1 c.in_err-shut_gate.ensures.step (λ image torn. inl torn)

pub returns-clause-shut : goal.returns-clause-shut
returns-clause-shut g c =
    let seen = g.D.Disk.seen in
    IfOk-weaker c.cut_through.result _ _
    (λ _ cut. shut_is c.args.half (seen c.args.disk.now) (seen c.shut_gate.new.disk) (seen c.cut_through.new.disk) c.in_ok-shut_gate.ensures.written cut)
    c.cut_through.ensures.cut

pub returns-clause-step : goal.returns-clause-step
returns-clause-step g c =
    and_then c.shut_gate.ensures.step.runs (done_unfailed c.in_ok-shut_gate.ensures.step) c.cut_through.ensures.step (λ image torn. inl torn)
    (λ image cut. inr (subst (λ (mid : Image). OnHalf c.args.half (Cut 9) mid image) c.in_ok-shut_gate.ensures.written cut))
