use Rattle.std.proofs.Common.{◌≡◌, inl, sym, ap, ◌∙◌, List}
use Rattle.std.specs.List.{list_any}
use Rattle.std.proofs.lemmas.Result.{IfOk-weaker}
use Rattle.hb_wire.specs.declared.vote.Vote.{Vote}
use Rattle.hb_rules.specs.Same.{same_vote}
use Rattle.post_judge.specs.Tables.{own_votes}
use Rattle.post_judge.proofs.Judging.{correct_node, cast_before, not_cast_before}
use Rattle.post_judge.proofs.allowing.is_allowed.Goals as goal

pub returns-then-is_among-clause-sound : goal.returns-then-is_among-clause-sound
returns-then-is_among-clause-sound c =
    let t = c.args.table.now in
    let own : c.own_votes-own.result.now ≡ own_votes t.config c.args.node c.args.actor c.args.vote.now t.posts.items t.buckets.by_place =
    c.own_votes-own.ensures in
    λ _. inl (cast_before t.config t.posts.items t.buckets.by_place c.args.node c.args.actor c.args.vote.now c.requires.told
    (ap (λ (vs : List Vote). list_any (same_vote c.args.vote.now) vs) (sym own) ∙ sym c.is_among.ensures ∙ c.if-is_among.true))

pub returns-clause-complete : goal.returns-clause-complete
returns-clause-complete c =
    let t = c.args.table.now in
    let own : c.own_votes-own.result.now ≡ own_votes t.config c.args.node c.args.actor c.args.vote.now t.posts.items t.buckets.by_place =
    c.own_votes-own.ensures in
    IfOk-weaker c.may_cast_now.result _ _
    (λ may told legal apart allowed.
    told legal apart
    (not_cast_before t.config t.posts.items t.buckets.by_place c.args.node c.args.actor c.args.vote.now c.requires.told
    (correct_node t.config c.args.node c.requires.node c.requires.correct)
    (ap (λ (vs : List Vote). list_any (same_vote c.args.vote.now) vs) (sym own) ∙ sym c.is_among.ensures ∙ c.if-is_among.false) allowed))
    c.may_cast_now.ensures.complete
