use Rattle.std.proofs.Common.{sym, ap, ◌∙◌}
use Rattle.std.specs.Option.{option_map}
use Rattle.std.proofs.lemmas.Bool.{both_ways}
use Rattle.rbc_world.specs.Claimed.{shown}
use Rattle.rbc_world.proofs.Striking.{delivery_at, strikes_one, strikes_no_other}
use Rattle.rbc_world.proofs.proposed.strike.Goals as goal

pub returns-then-has_body : goal.returns-then-has_body
returns-then-has_body c =
    strikes_one c.args.config.now c.args.posts.now c.args.post.now c.index-posts-number.result c.args.table.now c.in-Some.proposal.place
    c.in-Some-entry_at.number c.in-Some.proposal.body.now c.requires (sym c.claim_of.ensures.exact ∙ ap (option_map shown) c.in-Some.is)
    c.in-Some.ensures.inside (sym c.entry_at.ensures ∙ c.in-Some-entry_at.is)
    (delivery_at c.args.config.now c.args.posts.now c.args.table.now c.in-Some.proposal.place c.in-Some-entry_at.number c.index-posts-number.result
    c.requires (sym c.entry_at.ensures ∙ c.in-Some-entry_at.is) c.index-posts-number.is)
    (c.has_body.ensures.0 c.if-has_body.true)

pub returns-else-has_body : goal.returns-else-has_body
returns-else-has_body c =
    strikes_no_other c.args.config.now c.args.posts.now c.args.post.now c.index-posts-number.result c.args.table.now c.in-Some.proposal.place
    c.in-Some-entry_at.number c.in-Some.proposal.body.now c.requires (sym c.claim_of.ensures.exact ∙ ap (option_map shown) c.in-Some.is)
    (sym c.entry_at.ensures ∙ c.in-Some-entry_at.is)
    (delivery_at c.args.config.now c.args.posts.now c.args.table.now c.in-Some.proposal.place c.in-Some-entry_at.number c.index-posts-number.result
    c.requires (sym c.entry_at.ensures ∙ c.in-Some-entry_at.is) c.index-posts-number.is)
    (λ like. both_ways c.has_body.result c.if-has_body.false (c.has_body.ensures.1 like))
