use Rattle.std.proofs.Common.{◌∙◌, rules}
use Rattle.vote_journal.proofs.Moments.{and_then}
use Rattle.vote_journal.proofs.Starts.{both_run, left_by_both}
use Rattle.vote_journal.proofs.steps.begin_both.Goals as goal

pub returns-in_err-write_at-2-clause-step : goal.returns-in_err-write_at-2-clause-step
returns-in_err-write_at-2-clause-step g c =
    let old = c.args.disk.now in
    let one = c.write_at.ensures in
    let two = c.write_at-2.ensures in
    record {
      durable = search rules;
      runs = both_run (g.D.Disk.seen old) _ _ _ c.requires.durable one.crash two.crash _ c.write_at.new.self c.write_at-2.new.self (g.met.D.Disk.only_now old)
          one.time one.cause.later one.supply two.time two.cause.later two.supply;
      failed = search rules;
      no_other = search rules;
      unfailed = search rules;
    }

pub returns-clause-step : goal.returns-clause-step
returns-clause-step g c =
    let old = c.args.disk.now in
    let image = g.D.Disk.seen old in
    let one = c.write_at.ensures in
    let two = c.write_at-2.ensures in
    and_then
    (both_run image _ _ _ c.requires.durable one.crash two.crash _ c.write_at.new.self c.write_at-2.new.self (g.met.D.Disk.only_now old)
    one.time one.cause.later one.supply two.time two.cause.later two.supply)
    (record {
      no_fault = c.in_ok-write_at-2.ensures.cause.quiet ∙ c.in_ok-write_at.ensures.cause.quiet;
      power = c.in_ok-write_at-2.ensures.power (λ failed. absurd (cc (failed))) ∙ c.in_ok-write_at.ensures.power (λ failed. absurd (cc (failed)));
    })
    c.make_durable.ensures.step (λ c' both. both) (left_by_both image _ _ _ c.requires.durable one.crash two.crash)
