use Rattle.std.proofs.Common.{◌≡◌, true, sym, ◌∙◌, subst, IfOk}
use Rattle.std.proofs.lemmas.Result.{IfOk-weaker}
use Rattle.hb_wire.specs.declared.vote.Vote.{Vote}
use Rattle.hb_rules.specs.Broadcast.{MayBroadcast}
use Rattle.hb_rules.specs.Apart.{IsHeardApart}
use Rattle.rbc_judge.proofs.Allowed.{send_told, may_echo, may_be_ready, must_be_ready, may_deliver, must_deliver}
use Rattle.rbc_judge.proofs.broadcast.may_broadcast.Goals as goal

pub returns-in-Val-clause-sound : goal.returns-in-Val-clause-sound
returns-in-Val-clause-sound c =
    let lane = c.args.lane.now in
    IfOk-weaker c.may_send.result _ _ (λ may told h. (send_told lane.config lane.node lane.lane c.in-Val.epoch c.in-Val.target c.in-Val.root c.in-Val.shard c.in-Val.branch c.args.own.now c.args.heard.now c.liars-sound.ensures.sound (rw c.in-Val.is at c.requires.vote).fields.0 c.requires.spelled c.args.vote.now c.in-Val.is).0 (sym told ∙ h)) c.may_send.ensures

pub returns-in-Val-clause-complete : goal.returns-in-Val-clause-complete
returns-in-Val-clause-complete c =
    let lane = c.args.lane.now in
    IfOk-weaker c.may_send.result _ _ (λ may told from allowed. told ∙ (send_told lane.config lane.node lane.lane c.in-Val.epoch c.in-Val.target c.in-Val.root c.in-Val.shard c.in-Val.branch c.args.own.now c.args.heard.now c.liars-sound.ensures.sound (rw c.in-Val.is at c.requires.vote).fields.0 c.requires.spelled c.args.vote.now c.in-Val.is).1 allowed) c.may_send.ensures

pub returns-in-Echo-clause-sound : goal.returns-in-Echo-clause-sound
returns-in-Echo-clause-sound c =
    let lane = c.args.lane.now in
    subst (λ (v : Vote). IfOk c.may_echo.result (λ may. may ≡ true → MayBroadcast lane.config lane.node lane.lane c.args.own.now c.args.heard.now v)) (sym c.in-Echo.is)
    (IfOk-weaker c.may_echo.result _ _ (λ may told h. (may_echo lane.config lane.node lane.lane c.in-Echo.epoch c.in-Echo.root c.in-Echo.shard c.in-Echo.branch c.args.own.now c.args.heard.now).0 (sym told ∙ h)) c.may_echo.ensures)

pub returns-in-Echo-clause-complete : goal.returns-in-Echo-clause-complete
returns-in-Echo-clause-complete c =
    let lane = c.args.lane.now in
    subst (λ (v : Vote). IfOk c.may_echo.result (λ may. IsHeardApart lane.config lane.node lane.lane c.args.heard.now
    → MayBroadcast lane.config lane.node lane.lane c.args.own.now c.args.heard.now v → may ≡ true)) (sym c.in-Echo.is)
    (IfOk-weaker c.may_echo.result _ _ (λ may told from allowed. told ∙ (may_echo lane.config lane.node lane.lane c.in-Echo.epoch c.in-Echo.root c.in-Echo.shard c.in-Echo.branch c.args.own.now c.args.heard.now).1 allowed) c.may_echo.ensures)

pub returns-in-Ready-clause-sound : goal.returns-in-Ready-clause-sound
returns-in-Ready-clause-sound c =
    let lane = c.args.lane.now in
    subst (λ (v : Vote). IfOk c.may_be_ready.result (λ may. may ≡ true → MayBroadcast lane.config lane.node lane.lane c.args.own.now c.args.heard.now v)) (sym c.in-Ready.is)
    (IfOk-weaker c.may_be_ready.result _ _ (λ may told h. may_be_ready lane.config lane.node lane.lane c.in-Ready.epoch c.in-Ready.root c.args.own.now c.args.heard.now c.liars-sound.ensures.sound (sym told ∙ h)) c.may_be_ready.ensures)

pub returns-in-Ready-clause-complete : goal.returns-in-Ready-clause-complete
returns-in-Ready-clause-complete c =
    let lane = c.args.lane.now in
    subst (λ (v : Vote). IfOk c.may_be_ready.result (λ may. IsHeardApart lane.config lane.node lane.lane c.args.heard.now
    → MayBroadcast lane.config lane.node lane.lane c.args.own.now c.args.heard.now v → may ≡ true)) (sym c.in-Ready.is)
    (IfOk-weaker c.may_be_ready.result _ _ (λ may told from allowed. told ∙ must_be_ready lane.config lane.node lane.lane c.in-Ready.epoch c.in-Ready.root c.args.own.now c.args.heard.now c.liars-sound.ensures.sound from allowed) c.may_be_ready.ensures)

pub returns-in-Delivered-clause-sound : goal.returns-in-Delivered-clause-sound
returns-in-Delivered-clause-sound c =
    let lane = c.args.lane.now in
    subst (λ (v : Vote). IfOk c.may_deliver.result (λ may. may ≡ true → MayBroadcast lane.config lane.node lane.lane c.args.own.now c.args.heard.now v)) (sym c.in-Delivered.is)
    (IfOk-weaker c.may_deliver.result _ _ (λ may told h. may_deliver lane.config lane.node lane.lane c.in-Delivered.epoch c.in-Delivered.value c.args.own.now c.args.heard.now c.liars-sound.ensures.sound (sym told ∙ h)) c.may_deliver.ensures)

pub returns-in-Delivered-clause-complete : goal.returns-in-Delivered-clause-complete
returns-in-Delivered-clause-complete c =
    let lane = c.args.lane.now in
    subst (λ (v : Vote). IfOk c.may_deliver.result (λ may. IsHeardApart lane.config lane.node lane.lane c.args.heard.now
    → MayBroadcast lane.config lane.node lane.lane c.args.own.now c.args.heard.now v → may ≡ true)) (sym c.in-Delivered.is)
    (IfOk-weaker c.may_deliver.result _ _ (λ may told from allowed. told ∙ must_deliver lane.config lane.node lane.lane c.in-Delivered.epoch c.in-Delivered.value c.args.own.now c.args.heard.now c.liars-sound.ensures.sound from allowed) c.may_deliver.ensures)
