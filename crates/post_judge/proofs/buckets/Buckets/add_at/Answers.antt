use Rattle.std.proofs.Common.{sym, subst}
use Rattle.std.specs.Prelude.{Option, Some}
use Rattle.hb_wire.specs.declared.vote.Vote.{Vote}
use Rattle.post_judge.specs.declared.place.Place.{Place}
use Rattle.post_judge.specs.Tables.{Adds}
use Rattle.post_judge.proofs.Adding.{adds_one}
use Rattle.post_judge.proofs.buckets.Buckets.add_at.Goals as goal

pub returns-in_ok-add-in-Some-clause-ok : goal.returns-in_ok-add-in-Some-clause-ok
returns-in_ok-add-in-Some-clause-ok c =
    let old = c.args.self.now.by_place in
    let new = c.add.new.self.by_place in
    subst (λ (o : Option Place). Adds old new o c.args.number c.args.vote.now) (sym c.in-Some.is)
    (subst (λ (v : Vote). Adds old new (Some c.in-Some.place) c.args.number v) c.in_ok-kept-in-Some.ensures.cases
    (adds_one old new c.in-Some.place c.args.number c.in_ok-kept-in-Some.kept c.in_ok-add-in-Some.ensures.numbers c.in_ok-add-in-Some.ensures.votes))
