use Rattle.hb_app.proofs.running.run_alone.Goals as goal

pub returns-clause-ran : goal.returns-clause-ran
returns-clause-ran g c = c.with_status.ensures c.args.script c.requires.scenario c.in_ok-made.ensures.ran
