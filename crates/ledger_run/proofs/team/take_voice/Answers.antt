use Rattle.std.proofs.Common.{◌∙◌}
use native.Mathlib.Omega.{arith}
use Rattle.ledger_run.proofs.Voices.{taken_past, taken_there}
use Rattle.ledger_run.proofs.team.take_voice.Goals as goal

pub returns-then-place-len : goal.returns-then-place-len
returns-then-place-len g c =
    let past = taken_past (λ voice. voice.liar) c.args.voices.now.items c.args.place (omega (arith, c.if-place-len.true, c.len.ensures)) in
    record { voice = c.silent.ensures ∙ past.0; left = past.1 }

pub returns : goal.returns
returns g c =
    let there = taken_there (λ voice. voice.liar) c.args.voices.now.items c.args.place c.index_mut-voice.result.now c.taken.new.self
    (omega (arith, c.if-place-len.false, c.len.ensures)) c.index_mut-voice.ensures.value c.taken.ensures.left in
    record { voice = c.taken.ensures.taken ∙ there.0; left = there.1 }
