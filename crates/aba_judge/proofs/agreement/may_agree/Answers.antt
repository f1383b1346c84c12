use Rattle.std.proofs.Common.{◌≡◌, ℕ, true, sym, ap, ◌∙◌, subst}
use Rattle.std.specs.Prelude.{◌↔◌}
use Rattle.hb_wire.specs.declared.vote.Vote.{Vote}
use Rattle.hb_wire.specs.declared.vote.Vote.TheVariants.{Est, Bval, Aux, Conf, Pick, Coin, Decided}
use Rattle.hb_wire.specs.Votes.{epoch_of}
use Rattle.hb_rules.specs.Agreement.{MayAgree}
use Rattle.hb_rules.specs.AgreementRows.{view_of}
use Rattle.aba_judge.specs.Tests.{allows_coin}
use Rattle.aba_judge.proofs.Allowed.{support_told, accept_told, confirm_told, pick_told, show_told, estimate_stands, estimate_found, decide_stands, decide_found}
use Rattle.aba_judge.proofs.agreement.may_agree.Goals as goal

pub returns-in-Est-clause-sound : goal.returns-in-Est-clause-sound
returns-in-Est-clause-sound c =
    let p = c.args.place.now in
    let vote : c.args.vote.now ≡ Est p.epoch c.in-Est.round c.in-Est.bit =
    c.in-Est.is ∙ ap (λ (k : ℕ). Est k c.in-Est.round c.in-Est.bit) (ap epoch_of (sym c.in-Est.is) ∙ c.requires.same) in
    λ told. subst (λ (v : Vote). MayAgree p.config p.node p.lane c.args.own.now c.args.heard.now v) (sym vote) (estimate_stands p.config p.node p.lane p.epoch c.args.own.now c.args.heard.now c.liars-sound.ensures.sound c.requires.spelled c.in-Est.round c.in-Est.bit (sym c.may_estimate.ensures ∙ told))

pub returns-in-Est-clause-complete : goal.returns-in-Est-clause-complete
returns-in-Est-clause-complete c =
    let p = c.args.place.now in
    let vote : c.args.vote.now ≡ Est p.epoch c.in-Est.round c.in-Est.bit =
    c.in-Est.is ∙ ap (λ (k : ℕ). Est k c.in-Est.round c.in-Est.bit) (ap epoch_of (sym c.in-Est.is) ∙ c.requires.same) in
    λ from allowed. c.may_estimate.ensures ∙ estimate_found p.config p.node p.lane p.epoch c.args.own.now c.args.heard.now c.liars-sound.ensures.sound c.requires.spelled c.in-Est.round c.in-Est.bit from (subst (λ (v : Vote). MayAgree p.config p.node p.lane c.args.own.now c.args.heard.now v) vote allowed)

pub returns-in-Bval-clause-sound : goal.returns-in-Bval-clause-sound
returns-in-Bval-clause-sound c =
    let p = c.args.place.now in
    let vote : c.args.vote.now ≡ Bval p.epoch c.in-Bval.round c.in-Bval.bit =
    c.in-Bval.is ∙ ap (λ (k : ℕ). Bval k c.in-Bval.round c.in-Bval.bit) (ap epoch_of (sym c.in-Bval.is) ∙ c.requires.same) in
    λ told. subst (λ (v : Vote). MayAgree p.config p.node p.lane c.args.own.now c.args.heard.now v) (sym vote) ((support_told p.config p.node p.lane p.epoch c.args.own.now c.args.heard.now c.in-Bval.round c.in-Bval.bit).0 (sym c.may_support.ensures ∙ told))

pub returns-in-Bval-clause-complete : goal.returns-in-Bval-clause-complete
returns-in-Bval-clause-complete c =
    let p = c.args.place.now in
    let vote : c.args.vote.now ≡ Bval p.epoch c.in-Bval.round c.in-Bval.bit =
    c.in-Bval.is ∙ ap (λ (k : ℕ). Bval k c.in-Bval.round c.in-Bval.bit) (ap epoch_of (sym c.in-Bval.is) ∙ c.requires.same) in
    λ from allowed. c.may_support.ensures ∙ (support_told p.config p.node p.lane p.epoch c.args.own.now c.args.heard.now c.in-Bval.round c.in-Bval.bit).1 (subst (λ (v : Vote). MayAgree p.config p.node p.lane c.args.own.now c.args.heard.now v) vote allowed)

pub returns-in-Aux-clause-sound : goal.returns-in-Aux-clause-sound
returns-in-Aux-clause-sound c =
    let p = c.args.place.now in
    let vote : c.args.vote.now ≡ Aux p.epoch c.in-Aux.round c.in-Aux.bit =
    c.in-Aux.is ∙ ap (λ (k : ℕ). Aux k c.in-Aux.round c.in-Aux.bit) (ap epoch_of (sym c.in-Aux.is) ∙ c.requires.same) in
    λ told. subst (λ (v : Vote). MayAgree p.config p.node p.lane c.args.own.now c.args.heard.now v) (sym vote) ((accept_told p.config p.node p.lane p.epoch c.args.own.now c.args.heard.now c.in-Aux.round c.in-Aux.bit).0 (sym c.may_accept.ensures ∙ told))

pub returns-in-Aux-clause-complete : goal.returns-in-Aux-clause-complete
returns-in-Aux-clause-complete c =
    let p = c.args.place.now in
    let vote : c.args.vote.now ≡ Aux p.epoch c.in-Aux.round c.in-Aux.bit =
    c.in-Aux.is ∙ ap (λ (k : ℕ). Aux k c.in-Aux.round c.in-Aux.bit) (ap epoch_of (sym c.in-Aux.is) ∙ c.requires.same) in
    λ from allowed. c.may_accept.ensures ∙ (accept_told p.config p.node p.lane p.epoch c.args.own.now c.args.heard.now c.in-Aux.round c.in-Aux.bit).1 (subst (λ (v : Vote). MayAgree p.config p.node p.lane c.args.own.now c.args.heard.now v) vote allowed)

pub returns-in-Conf-clause-sound : goal.returns-in-Conf-clause-sound
returns-in-Conf-clause-sound c =
    let p = c.args.place.now in
    let vote : c.args.vote.now ≡ Conf p.epoch c.in-Conf.round c.in-Conf.vals =
    c.in-Conf.is ∙ ap (λ (k : ℕ). Conf k c.in-Conf.round c.in-Conf.vals) (ap epoch_of (sym c.in-Conf.is) ∙ c.requires.same) in
    λ told. subst (λ (v : Vote). MayAgree p.config p.node p.lane c.args.own.now c.args.heard.now v) (sym vote) ((confirm_told p.config p.node p.lane p.epoch c.args.own.now c.args.heard.now c.in-Conf.round c.in-Conf.vals).0 (sym c.may_confirm.ensures ∙ told))

pub returns-in-Conf-clause-complete : goal.returns-in-Conf-clause-complete
returns-in-Conf-clause-complete c =
    let p = c.args.place.now in
    let vote : c.args.vote.now ≡ Conf p.epoch c.in-Conf.round c.in-Conf.vals =
    c.in-Conf.is ∙ ap (λ (k : ℕ). Conf k c.in-Conf.round c.in-Conf.vals) (ap epoch_of (sym c.in-Conf.is) ∙ c.requires.same) in
    λ from allowed. c.may_confirm.ensures ∙ (confirm_told p.config p.node p.lane p.epoch c.args.own.now c.args.heard.now c.in-Conf.round c.in-Conf.vals).1 (subst (λ (v : Vote). MayAgree p.config p.node p.lane c.args.own.now c.args.heard.now v) vote allowed)

pub returns-in-Pick-clause-sound : goal.returns-in-Pick-clause-sound
returns-in-Pick-clause-sound c =
    let p = c.args.place.now in
    let vote : c.args.vote.now ≡ Pick p.epoch c.in-Pick.round c.in-Pick.vals =
    c.in-Pick.is ∙ ap (λ (k : ℕ). Pick k c.in-Pick.round c.in-Pick.vals) (ap epoch_of (sym c.in-Pick.is) ∙ c.requires.same) in
    λ told. subst (λ (v : Vote). MayAgree p.config p.node p.lane c.args.own.now c.args.heard.now v) (sym vote) ((pick_told p.config p.node p.lane p.epoch c.args.own.now c.args.heard.now c.in-Pick.round c.in-Pick.vals).0 (sym c.may_pick.ensures ∙ told))

pub returns-in-Pick-clause-complete : goal.returns-in-Pick-clause-complete
returns-in-Pick-clause-complete c =
    let p = c.args.place.now in
    let vote : c.args.vote.now ≡ Pick p.epoch c.in-Pick.round c.in-Pick.vals =
    c.in-Pick.is ∙ ap (λ (k : ℕ). Pick k c.in-Pick.round c.in-Pick.vals) (ap epoch_of (sym c.in-Pick.is) ∙ c.requires.same) in
    λ from allowed. c.may_pick.ensures ∙ (pick_told p.config p.node p.lane p.epoch c.args.own.now c.args.heard.now c.in-Pick.round c.in-Pick.vals).1 (subst (λ (v : Vote). MayAgree p.config p.node p.lane c.args.own.now c.args.heard.now v) vote allowed)

pub returns-in-Decided-clause-sound : goal.returns-in-Decided-clause-sound
returns-in-Decided-clause-sound c =
    let p = c.args.place.now in
    let vote : c.args.vote.now ≡ Decided p.epoch c.in-Decided.bit =
    c.in-Decided.is ∙ ap (λ (k : ℕ). Decided k c.in-Decided.bit) (ap epoch_of (sym c.in-Decided.is) ∙ c.requires.same) in
    λ told. subst (λ (v : Vote). MayAgree p.config p.node p.lane c.args.own.now c.args.heard.now v) (sym vote) (decide_stands p.config p.node p.lane p.epoch c.args.own.now c.args.heard.now c.liars-sound.ensures.sound c.requires.spelled c.in-Decided.bit (sym c.may_decide.ensures ∙ told))

pub returns-in-Decided-clause-complete : goal.returns-in-Decided-clause-complete
returns-in-Decided-clause-complete c =
    let p = c.args.place.now in
    let vote : c.args.vote.now ≡ Decided p.epoch c.in-Decided.bit =
    c.in-Decided.is ∙ ap (λ (k : ℕ). Decided k c.in-Decided.bit) (ap epoch_of (sym c.in-Decided.is) ∙ c.requires.same) in
    λ from allowed. c.may_decide.ensures ∙ decide_found p.config p.node p.lane p.epoch c.args.own.now c.args.heard.now c.liars-sound.ensures.sound c.requires.spelled c.in-Decided.bit from (subst (λ (v : Vote). MayAgree p.config p.node p.lane c.args.own.now c.args.heard.now v) vote allowed)

pub returns-in-Coin-clause-sound : goal.returns-in-Coin-clause-sound
returns-in-Coin-clause-sound c =
    let p = c.args.place.now in
    let vote : c.args.vote.now ≡ Coin p.epoch c.in-Coin.round c.in-Coin.share c.in-Coin.salt c.in-Coin.branch =
    c.in-Coin.is ∙ ap (λ (e : ℕ). Coin e c.in-Coin.round c.in-Coin.share c.in-Coin.salt c.in-Coin.branch) (ap epoch_of (sym c.in-Coin.is) ∙ c.requires.same) in
    let both =
    subst (λ (v : Vote). (allows_coin p.config p.node p.lane p.epoch (view_of p.config p.node p.lane p.epoch c.args.own.now c.args.heard.now) c.in-Coin.round v ≡ true) ↔ MayAgree p.config p.node p.lane c.args.own.now c.args.heard.now v) (sym vote) (show_told p.config p.node p.lane p.epoch c.args.own.now c.args.heard.now c.in-Coin.round c.in-Coin.share c.in-Coin.salt c.in-Coin.branch) in
    λ told. both.0 (sym c.may_show.ensures ∙ told)

pub returns-in-Coin-clause-complete : goal.returns-in-Coin-clause-complete
returns-in-Coin-clause-complete c =
    let p = c.args.place.now in
    let vote : c.args.vote.now ≡ Coin p.epoch c.in-Coin.round c.in-Coin.share c.in-Coin.salt c.in-Coin.branch =
    c.in-Coin.is ∙ ap (λ (e : ℕ). Coin e c.in-Coin.round c.in-Coin.share c.in-Coin.salt c.in-Coin.branch) (ap epoch_of (sym c.in-Coin.is) ∙ c.requires.same) in
    let both =
    subst (λ (v : Vote). (allows_coin p.config p.node p.lane p.epoch (view_of p.config p.node p.lane p.epoch c.args.own.now c.args.heard.now) c.in-Coin.round v ≡ true) ↔ MayAgree p.config p.node p.lane c.args.own.now c.args.heard.now v) (sym vote) (show_told p.config p.node p.lane p.epoch c.args.own.now c.args.heard.now c.in-Coin.round c.in-Coin.share c.in-Coin.salt c.in-Coin.branch) in
    λ from allowed. c.may_show.ensures ∙ both.1 allowed
