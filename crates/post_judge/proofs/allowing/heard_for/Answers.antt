use Rattle.std.proofs.Common.{sym, ap, ◌∙◌, subst, List}
use Rattle.hb_rules.specs.Terms.{AreHeardSpelled}
use Rattle.rbc_judge.specs.Checked.{AreChecked}
use Rattle.aba_judge.specs.Checked.{AreSharesChecked}
use Rattle.post_judge.specs.declared.place.Place.{Place}
use Rattle.post_judge.specs.Places.{looked_at}
use Rattle.post_judge.specs.Tables.{told_from}
use Rattle.post_judge.proofs.Heard.{told_checked, told_shares_checked, told_spelled}
use Rattle.post_judge.proofs.Places.{looked_at-listens}
use Rattle.post_judge.proofs.allowing.heard_for.Goals as goal

pub returns-clause-exact : goal.returns-clause-exact
returns-clause-exact c =
    let t = c.args.table.now in
    c.in_ok-heard.ensures
    ∙ ap (λ (ps : List Place). told_from t.config c.args.node c.args.actor t.posts.items t.buckets.by_place ps) (c.deref.ensures.value ∙ c.in_ok-places.ensures)

pub returns-clause-checked : goal.returns-clause-checked
returns-clause-checked c =
    let t = c.args.table.now in
    λ lane. subst (AreChecked t.config.n) (sym (returns-clause-exact c))
    (told_checked t.config t.posts.items t.buckets.by_place c.requires.told c.args.node c.args.actor lane
    (looked_at t.config c.args.node c.args.actor c.args.vote.now) (looked_at-listens t.config c.args.node c.args.actor c.args.vote.now c.requires.casts))

pub returns-clause-shares : goal.returns-clause-shares
returns-clause-shares c =
    let t = c.args.table.now in
    λ lane. subst (AreSharesChecked t.config c.args.actor) (sym (returns-clause-exact c))
    (told_shares_checked t.config t.posts.items t.buckets.by_place c.requires.told c.args.node c.args.actor lane
    (looked_at t.config c.args.node c.args.actor c.args.vote.now) (looked_at-listens t.config c.args.node c.args.actor c.args.vote.now c.requires.casts))

pub returns-clause-spelled : goal.returns-clause-spelled
returns-clause-spelled c =
    let t = c.args.table.now in
    subst (AreHeardSpelled t.config) (sym (returns-clause-exact c))
    (told_spelled t.config t.posts.items t.buckets.by_place c.requires.told c.args.node c.args.actor
    (looked_at t.config c.args.node c.args.actor c.args.vote.now) (looked_at-listens t.config c.args.node c.args.actor c.args.vote.now c.requires.casts))
