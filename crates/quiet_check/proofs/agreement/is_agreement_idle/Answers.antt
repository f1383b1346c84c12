use Rattle.std.proofs.Common.{◌≡◌, ◌↔◌, ◌+◌, Bool, true, List, ◌∷◌, [], ◌++◌, take, sym, ap, ◌∙◌, subst, arith}
use Rattle.std.proofs.lemmas.Bool.{lt-ltb, le-ltb}
use Rattle.std.proofs.lemmas.List.{take_all, take_more}
use Rattle.aba_core.specs.State.{AbaView, place_of}
use Rattle.aba_core.specs.Standing.{slots_at, Shows}
use Rattle.hb_wire.specs.declared.vote.Vote.{Vote}
use Rattle.hb_rules.specs.Slots.{IsIdle}
use Rattle.hb_rules.specs.Hearing.{Hearing}
use Rattle.hb_rules.specs.Owing.{Place}
use Rattle.quiet_check.proofs.Noting.{HasNoted, noted_inside, noted_outside, noted_told, if_ok}
use Rattle.quiet_check.proofs.agreement.is_agreement_idle.Goals.{then-said-n, else-said-n}
use Rattle.quiet_check.proofs.agreement.is_agreement_idle.Goals as goal

pub loop-said-preserved : goal.loop-said-preserved
loop-said-preserved c =
    let p : Place = record { config = c.args.place.now.config; node = c.args.place.now.node; lane = c.args.place.now.lane; epoch = c.args.place.now.epoch } in
    let before : List Hearing = take c.loop-said.said-index c.args.heard.now in
    let h : Hearing = record { from = c.said.inside.from; vote = c.said.inside.spoken } in
    let more : before ++ h ∷ [] ≡ take (c.loop-said.said-index + 1) c.args.heard.now =
    ap (λ (h : Hearing). before ++ h ∷ []) (c.said.view_is ∙ c.said-item.is)
    ∙ sym (take_more c.args.heard.now c.loop-said.said-index c.said-item.result c.loop-said-test.true) in
    subst (HasNoted c.if-said-n.aba p c.args.own.now) more
    (elim c.if-said-n.branch [
      | then-said-n w ↦
          subst (λ (a : AbaView). HasNoted a p c.args.own.now (before ++ h ∷ [])) (sym w.aba-is)
          (noted_inside c.loop-said.aba w.note.new.self p c.args.own.now before h c.loop-said.invariant
          (lt-ltb c.said.inside.from c.args.place.now.config.n (omega (arith, w.if-said-n.true, c.n-n.ensures.value)))
          (record { place = w.note.ensures.place; shows = rw w.vote.ensures at w.note.ensures.shows }))
      | else-said-n w ↦
          subst (λ (a : AbaView). HasNoted a p c.args.own.now (before ++ h ∷ [])) (sym w.aba-is)
          (noted_outside c.loop-said.aba p c.args.own.now before h c.loop-said.invariant
          (le-ltb c.said.inside.from c.args.place.now.config.n (omega (arith, w.if-said-n.false, c.n-n.ensures.value))))
    ])

pub returns : goal.returns
returns c =
    let p : Place = record { config = c.args.place.now.config; node = c.args.place.now.node; lane = c.args.place.now.lane; epoch = c.args.place.now.epoch } in
    let noted : HasNoted c.loop-said.aba p c.args.own.now c.args.heard.now =
    subst (HasNoted c.loop-said.aba p c.args.own.now) (take_all c.loop-said.said-index c.args.heard.now (omega arith)) c.loop-said.invariant in
    if_ok c.is_idle.result
    (λ (answer : Bool). (own : List Vote) (heard : List Hearing) → Shows c.loop-said.aba own heard → (answer ≡ true) ↔ IsIdle (slots_at (place_of c.loop-said.aba)) own heard)
    (λ (answer : Bool). (answer ≡ true) ↔ IsIdle (slots_at p) c.args.own.now c.args.heard.now)
    (λ answer exact. noted_told c.loop-said.aba p c.args.own.now c.args.heard.now answer noted c.requires.node exact)
    c.is_idle.ensures.exact
