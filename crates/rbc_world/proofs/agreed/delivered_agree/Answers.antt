use Rattle.std.proofs.Common.{List}
use Rattle.hb_base.specs.Numbers.{Numbers}
use Rattle.hb_wire.specs.declared.post.Post.{Post}
use Rattle.rbc_world.specs.declared.claims.Kind.TheVariants.{Ready, Delivered}
use Rattle.rbc_world.specs.Claimed.{AreEntries, AreLeft}
use Rattle.rbc_world.proofs.Exact.{readies_one, deliveries_one, agreed_from, none_from_agreed}
use Rattle.rbc_world.proofs.Theorems.{roots_bound, said_roots_bound, legal_agreed}
use Rattle.rbc_world.proofs.agreed.delivered_agree.Goals as goal

pub returns-in_default-clause-exact : goal.returns-in_default-clause-exact
returns-in_default-clause-exact c = (
  λ yes_it_is. absurd (cc (yes_it_is)),
  λ agreed. absurd (c.in_default.ensures.differ (rw c.as_slice-posts.ensures.value (readies_one c.args.report.now.config c.args.report.now.history.items agreed.readies))),
)

pub returns-in_default-clause-legal : goal.returns-in_default-clause-legal
returns-in_default-clause-legal c = λ legal premise.
    (returns-in_default-clause-exact c).1 (legal_agreed c.args.report.now.config c.args.report.now.history.items c.liars-liars.ensures.sound legal premise)

pub returns-in_default-first_claims-clause-exact : goal.returns-in_default-first_claims-clause-exact
returns-in_default-first_claims-clause-exact c = (
  λ yes_it_is. absurd (cc (yes_it_is)),
  λ agreed. absurd (c.in_default-first_claims.ensures.differ (rw c.as_slice-posts.ensures.value (deliveries_one c.args.report.now.config c.args.report.now.history.items agreed.deliveries))),
)

pub returns-in_default-first_claims-clause-legal : goal.returns-in_default-first_claims-clause-legal
returns-in_default-first_claims-clause-legal c = λ legal premise.
    (returns-in_default-first_claims-clause-exact c).1
    (legal_agreed c.args.report.now.config c.args.report.now.history.items c.liars-liars.ensures.sound legal premise)

pub returns-clause-exact : goal.returns-clause-exact
returns-clause-exact c =
    let config : Numbers = c.args.report.now.config in
    let posts : List Post = c.args.report.now.history.items in
    let readies : AreEntries config Ready posts posts c.in-Some._readies = rw c.as_slice-posts.ensures.value at c.in-Some.ensures.agree in
    let deliveries : AreEntries config Delivered posts posts c.in-Some-first_claims.deliveries =
    rw c.as_slice-posts.ensures.value at c.in-Some-first_claims.ensures.agree in
    let left : AreLeft config posts posts c.in-Some-first_claims.deliveries c.unproposed.result =
    rw c.as_slice-posts.ensures.value at c.unproposed.ensures in (
      λ none.
          agreed_from config posts c.in-Some._readies c.in-Some-first_claims.deliveries c.unproposed.result readies deliveries left
          (rw c.liars-liars.ensures.value at (c.are_none.ensures.0 none)),
      λ agreed.
          c.are_none.ensures.1
          (rw c.liars-liars.ensures.value (none_from_agreed config posts c.in-Some-first_claims.deliveries c.unproposed.result deliveries left agreed)),
    )

pub returns-clause-legal : goal.returns-clause-legal
returns-clause-legal c = λ legal premise.
    (returns-clause-exact c).1 (legal_agreed c.args.report.now.config c.args.report.now.history.items c.liars-liars.ensures.sound legal premise)

pub returns-in_default-clause-roots : goal.returns-in_default-clause-roots
returns-in_default-clause-roots c = roots_bound c.args.report.now.config c.args.report.now.history.items c.liars-liars.ensures.sound

pub returns-in_default-first_claims-clause-roots : goal.returns-in_default-first_claims-clause-roots
returns-in_default-first_claims-clause-roots c = roots_bound c.args.report.now.config c.args.report.now.history.items c.liars-liars.ensures.sound

pub returns-clause-roots : goal.returns-clause-roots
returns-clause-roots c = roots_bound c.args.report.now.config c.args.report.now.history.items c.liars-liars.ensures.sound

pub returns-in_default-clause-said : goal.returns-in_default-clause-said
returns-in_default-clause-said c = said_roots_bound c.args.report.now.config c.args.report.now.history.items c.liars-liars.ensures.sound

pub returns-in_default-first_claims-clause-said : goal.returns-in_default-first_claims-clause-said
returns-in_default-first_claims-clause-said c = said_roots_bound c.args.report.now.config c.args.report.now.history.items c.liars-liars.ensures.sound

pub returns-clause-said : goal.returns-clause-said
returns-clause-said c = said_roots_bound c.args.report.now.config c.args.report.now.history.items c.liars-liars.ensures.sound
