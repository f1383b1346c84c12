use Rattle.std.proofs.Common.{[], sym, subst}
use Rattle.hb_wire.specs.declared.vote.Vote.{Vote}
use Rattle.hb_wire.specs.Votes.{Spells, spelling}
use Rattle.hb_rules.specs.History.{IsAllowed}
use Rattle.book_cases.proofs.Runs.{proposal_spells, may_propose}
use Rattle.book_cases.proofs.tests.post_row.Goals as goal

pub post_two-requires-clause-spelled : goal.post_two-requires-clause-spelled
post_two-requires-clause-spelled g c =
    let config = g.J.Naming.config in
    λ κs lives. subst (λ (vote : Vote). Spells config.n config.version (spelling vote) vote) (sym c.requires.vote)
    (proposal_spells config.n config.version c.requires.run.version)

pub post_two-requires-clause-allowed : goal.post_two-requires-clause-allowed
post_two-requires-clause-allowed g c = λ κs lives i below.
    subst (λ (vote : Vote). IsAllowed g.J.Naming.config i 5 [] vote) (sym c.requires.vote) (may_propose g.J.Naming.config i c.requires.run)
