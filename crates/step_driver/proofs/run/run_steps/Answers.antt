use Rattle.std.proofs.Common.{List, sym, subst}
use Rattle.hb_wire.specs.declared.post.Post.{Post}
use Rattle.hb_rules.specs.History.{IsLegal}
use Rattle.step_driver.specs.declared.run.Done.{Done}
use Rattle.step_driver.specs.Places.{spots}
use Rattle.step_driver.proofs.Endings.{HasEnded, HasEnded-of, quiet, plan, rule, full}
use Rattle.step_driver.proofs.run.run_steps.Goals as goal

pub returns : goal.returns
returns g c =
    let all = spots g.A.Actor.seat g.A.Actor.view c.run_all.new.places.items in
    let ended : HasEnded c.args.book.config c.args.script.now c.into_history.result.items all =
    HasEnded-of c.args.book.config c.run_all.new.book.config c.args.script.now c.run_all.new.book.posts c.into_history.result.items all c.in_ok-ends.ensures.ran c.in_ok-ends.ensures.config
    (subst (λ (ps : List Post). IsLegal c.run_all.new.book.config ps) (sym c.into_history.ensures.posts) c.into_history.ensures.legal) c.into_history.ensures.posts in
    let done : Done = record { history = c.into_history.result; ends = c.in_ok-ends.ends } in
    record {
      legal = ended.legal;
      quiet = quiet all c.args.book.config c.args.script.now done ended c.in_ok-ends.ensures.ends;
      plan = plan all c.args.book.config c.args.script.now done ended c.in_ok-ends.ensures.ends;
      rule = rule all c.args.book.config c.args.script.now done ended;
      full = full all c.args.book.config c.args.script.now done ended c.in_ok-ends.ensures.ends;
    }
