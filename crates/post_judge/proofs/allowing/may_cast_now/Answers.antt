use Rattle.std.proofs.Common.{◌≡◌, true, nat_lt, sym, ◌∙◌, subst, List}
use Rattle.std.proofs.lemmas.Bool.{and_parts, both_ways}
use Rattle.std.proofs.lemmas.Result.{IfOk-weaker}
use Rattle.hb_wire.specs.Votes.{epoch_of}
use Rattle.hb_wire.specs.declared.vote.Vote.{Vote}
use Rattle.hb_rules.specs.Hearing.{Hearing}
use Rattle.hb_rules.specs.Rules.{MayCast}
use Rattle.hb_rules.specs.Apart.{IsHeardApart}
use Rattle.post_judge.specs.Places.{casts, is_cast_ever, looked_at}
use Rattle.post_judge.specs.Tables.{told_from}
use Rattle.post_judge.proofs.Judging.{correct_node, cast_ever, cast_sound, cast_complete, told_apart}
use Rattle.post_judge.proofs.allowing.may_cast_now.Goals as goal

pub returns-then-not-is_cast_ever-clause-complete : goal.returns-then-not-is_cast_ever-clause-complete
returns-then-not-is_cast_ever-clause-complete c =
    let t = c.args.table.now in
    λ legal apart may. absurd (both_ways (is_cast_ever t.config c.args.actor c.args.vote.now)
    (sym c.is_cast_ever.ensures ∙ c.if-not-is_cast_ever.true)
    (cast_ever t.config c.args.node c.args.actor c.args.vote.now t.posts.items c.liars-sound.ensures.sound c.requires.correct legal may))

pub returns-clause-sound : goal.returns-clause-sound
returns-clause-sound c =
    let t = c.args.table.now in
    let i = c.args.node in
    let x = c.args.actor in
    let vote : Vote = c.args.vote.now in
    let such : casts t.config.n x vote ≡ true =
    (and_parts (casts t.config.n x vote) (nat_lt (epoch_of vote) t.config.epochs) (sym c.is_cast_ever.ensures ∙ c.if-not-is_cast_ever.false)).0 in
    IfOk-weaker c.may_cast.result _ _
    (λ may told yes.
    cast_sound t.config t.posts.items t.buckets.by_place c.requires.told i x vote (correct_node t.config i c.requires.node c.requires.correct) such
    (subst (λ (own : List Vote). MayCast t.config i x own (told_from t.config i x t.posts.items t.buckets.by_place (looked_at t.config i x vote)) vote) c.requires.own
    (subst (λ (hs : List Hearing). MayCast t.config i x c.args.own.now hs vote) (c.deref.ensures.value ∙ c.in_ok-heard.ensures.exact) (told yes))))
    c.may_cast.ensures.sound

pub returns-clause-complete : goal.returns-clause-complete
returns-clause-complete c =
    let t = c.args.table.now in
    let i = c.args.node in
    let x = c.args.actor in
    let vote : Vote = c.args.vote.now in
    let such : casts t.config.n x vote ≡ true =
    (and_parts (casts t.config.n x vote) (nat_lt (epoch_of vote) t.config.epochs) (sym c.is_cast_ever.ensures ∙ c.if-not-is_cast_ever.false)).0 in
    let heard : c.deref.result.now ≡ told_from t.config i x t.posts.items t.buckets.by_place (looked_at t.config i x vote) =
    c.deref.ensures.value ∙ c.in_ok-heard.ensures.exact in
    let known = correct_node t.config i c.requires.node c.requires.correct in
    IfOk-weaker c.may_cast.result _ _
    (λ may told legal apart allowed.
    told
    (λ lane. subst (IsHeardApart t.config i x) (sym heard)
    (told_apart t.config t.posts.items t.buckets.by_place c.requires.told i x vote known such legal apart lane))
    (subst (λ (hs : List Hearing). MayCast t.config i x c.args.own.now hs vote) (sym heard)
    (subst (λ (own : List Vote). MayCast t.config i x own (told_from t.config i x t.posts.items t.buckets.by_place (looked_at t.config i x vote)) vote) (sym c.requires.own)
    (cast_complete t.config t.posts.items t.buckets.by_place c.requires.told i x vote known such c.requires.correct legal allowed))))
    c.may_cast.ensures.complete
