use Rattle.std.proofs.Common.{take, sym, ap, ◌∙◌}
use Rattle.std.specs.Option.{option_map}
use Rattle.std.proofs.lemmas.Bool.{both_ways}
use Rattle.rbc_world.specs.Claimed.{shown}
use Rattle.rbc_world.proofs.FirstClaims.{IsPostAt, number_inside, entries_first, entries_same, first_like}
use Rattle.rbc_world.proofs.entries.take_claim.Goals as goal

pub returns-in-None-clause-agrees : goal.returns-in-None-clause-agrees
returns-in-None-clause-agrees c = λ _.
    entries_first c.args.config.now c.args.kind c.args.posts.now c.args.number c.in-Some.claim.place c.index-posts-number.result c.in-Some.claim.body.now
    c.args.table.now (record { inside = c.requires.inside; is = c.index-posts-number.is })
    (sym c.claim_of.ensures.exact ∙ ap (option_map shown) c.in-Some.is) c.in-Some.ensures.inside (sym c.entry_at.ensures ∙ c.in-None.is) c.requires.sound

first : (c : goal.After-has_body) → IsPostAt c.args.posts.now c.in-Some-entry_at.first c.index-posts-first.result
first c =
    let found = c.requires.sound.sound c.in-Some.claim.place c.in-Some-entry_at.first (sym c.entry_at.ensures ∙ c.in-Some-entry_at.is) in
    record {
      inside = number_inside c.args.config.now c.args.kind c.args.posts.now c.in-Some-entry_at.first c.in-Some.claim.place found.0 found.1;
      is = c.index-posts-first.is;
    }

pub returns-in-Some-entry_at-clause-agrees : goal.returns-in-Some-entry_at-clause-agrees
returns-in-Some-entry_at-clause-agrees c = λ passes.
    entries_same c.args.config.now c.args.kind c.args.posts.now c.args.number c.in-Some.claim.place c.in-Some-entry_at.first c.index-posts-number.result
    c.index-posts-first.result c.in-Some.claim.body.now c.args.table.now (record { inside = c.requires.inside; is = c.index-posts-number.is }) (first c)
    (sym c.claim_of.ensures.exact ∙ ap (option_map shown) c.in-Some.is) (sym c.entry_at.ensures ∙ c.in-Some-entry_at.is)
    (c.has_body.ensures.0 passes) c.requires.sound

pub returns-in-Some-entry_at-clause-differs : goal.returns-in-Some-entry_at-clause-differs
returns-in-Some-entry_at-clause-differs c = λ fails all.
    both_ways c.has_body.result fails
    (c.has_body.ensures.1 (first_like c.args.config.now c.args.kind c.args.posts.now (take c.args.number c.args.posts.now) c.args.number c.in-Some.claim.place
    c.in-Some-entry_at.first c.index-posts-number.result c.index-posts-first.result c.in-Some.claim.body.now c.args.table.now
    (record { inside = c.requires.inside; is = c.index-posts-number.is }) (first c)
    (sym c.claim_of.ensures.exact ∙ ap (option_map shown) c.in-Some.is) (sym c.entry_at.ensures ∙ c.in-Some-entry_at.is) c.requires.sound all))
