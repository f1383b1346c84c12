use Rattle.std.proofs.Common.{◌≡◌, ℕ, false, refl, sym, ◌∙◌, below_more, arith}
use Rattle.quiet_check.specs.Desks.{owes_in}
use Rattle.quiet_check.proofs.DeskTests.{desk_idle, desk_owes}
use Rattle.quiet_check.proofs.desks.is_desk_idle.Goals as goal

pub loop-epoch-init : goal.loop-epoch-init
loop-epoch-init c = λ e below. absurd (omega arith)

pub loop-epoch-preserved : goal.loop-epoch-preserved
loop-epoch-preserved c =
    below_more (λ (e : ℕ). owes_in c.args.config.now e c.args.own.now c.args.heard.now ≡ false) c.loop-epoch.epoch c.loop-epoch.invariant
    (sym c.owes_in-owes.ensures ∙ c.if-owes.false)

pub returns-then-owes : goal.returns-then-owes
returns-then-owes c = λ submitted. (
  λ no. absurd (cc (no)),
  λ idle. absurd (desk_owes c.args.config.now submitted c.args.own.now c.args.heard.now c.loop-epoch.epoch
      (omega (arith, c.epochs-epoch-end.ensures.value)) (sym c.owes_in-owes.ensures ∙ c.if-owes.true) idle),
)

pub returns : goal.returns
returns c = λ submitted. (
  λ yes. desk_idle c.args.config.now submitted c.args.own.now c.args.heard.now (λ e below. c.loop-epoch.invariant e (omega (arith, c.epochs-epoch-end.ensures.value))),
  λ idle. refl,
)
