use Rattle.std.proofs.Common.{◌≡◌, ◌+◌, List, ◌∷◌, [], ◌++◌, length, take, drop, refl, sym, ap, ◌∙◌, subst, arith}
use Rattle.std.proofs.lemmas.Bool.{lt-ltb, le-ltb}
use Rattle.std.proofs.lemmas.List.{take_all, take_more, take-append-drop}
use Rattle.hb_rules.specs.Hearing.{Hearing}
use Rattle.hb_rules.specs.Slots.{IsIdle}
use Rattle.hb_rules.specs.Owing.{Place}
use Rattle.rbc_core.specs.Broadcast.{slots_at}
use Rattle.quiet_check.proofs.Broadcasts.{HasHeard, heard_first, heard_outside, heard_inside, not_idle, idle_heard, no_votes}
use Rattle.quiet_check.proofs.broadcast.is_broadcast_idle.Goals as goal

pub loop-said-init : goal.loop-said-init
loop-said-init c =
    let p : Place = record { config = c.args.place.now.config; node = c.args.place.now.node; lane = c.args.place.now.lane; epoch = c.args.place.now.epoch } in
    heard_first c.in_ok-rbc.rbc p c.args.own.now c.new-due.result.votes c.in_ok-rbc.ensures.place c.in_ok-rbc.ensures.stands c.new-due.ensures

pub loop-said-preserved-then-said-n : goal.loop-said-preserved-then-said-n
loop-said-preserved-then-said-n c =
    let p : Place = record { config = c.args.place.now.config; node = c.args.place.now.node; lane = c.args.place.now.lane; epoch = c.args.place.now.epoch } in
    let before : List Hearing = take c.loop-said.said-index c.args.heard.now in
    let h : Hearing = record { from = c.said.inside.from; vote = c.said.inside.spoken } in
    let more : before ++ h ∷ [] ≡ take (c.loop-said.said-index + 1) c.args.heard.now =
    ap (λ (h : Hearing). before ++ h ∷ []) (c.said.view_is ∙ c.said-item.is)
    ∙ sym (take_more c.args.heard.now c.loop-said.said-index c.said-item.result c.loop-said-test.true) in
    subst (λ (heard : List Hearing). HasHeard c.loop-said.rbc p c.args.own.now heard c.loop-said.due.votes) more
    (heard_outside c.loop-said.rbc p c.args.own.now before h c.loop-said.due.votes c.loop-said.invariant
    (le-ltb c.said.inside.from c.args.place.now.config.n (omega (arith, c.n-n.ensures.value))))

pub loop-said-preserved : goal.loop-said-preserved
loop-said-preserved c =
    let p : Place = record { config = c.args.place.now.config; node = c.args.place.now.node; lane = c.args.place.now.lane; epoch = c.args.place.now.epoch } in
    let before : List Hearing = take c.loop-said.said-index c.args.heard.now in
    let h : Hearing = record { from = c.said.inside.from; vote = c.said.inside.spoken } in
    let more : before ++ h ∷ [] ≡ take (c.loop-said.said-index + 1) c.args.heard.now =
    ap (λ (h : Hearing). before ++ h ∷ []) (c.said.view_is ∙ c.said-item.is)
    ∙ sym (take_more c.args.heard.now c.loop-said.said-index c.said-item.result c.loop-said-test.true) in
    subst (λ (heard : List Hearing). HasHeard c.hear.new.self p c.args.own.now heard c.hear.new.due.votes) more
    (heard_inside c.loop-said.rbc c.hear.new.self p c.args.own.now before h c.loop-said.due.votes c.hear.new.due.votes c.loop-said.invariant
    (lt-ltb c.said.inside.from c.args.place.now.config.n (omega (arith, c.n-n.ensures.value))) c.in_ok-hear.ensures.ok
    (no_votes c.hear.new.due.votes (omega (arith, ap length c.votes-made.ensures))))

pub returns-then-made-gt0 : goal.returns-then-made-gt0
returns-then-made-gt0 c =
    let p : Place = record { config = c.args.place.now.config; node = c.args.place.now.node; lane = c.args.place.now.lane; epoch = c.args.place.now.epoch } in
    let before : List Hearing = take c.loop-said.said-index c.args.heard.now in
    let h : Hearing = record { from = c.said.inside.from; vote = c.said.inside.spoken } in
    let later : List Hearing = drop (c.loop-said.said-index + 1) c.args.heard.now in
    let more : before ++ h ∷ [] ≡ take (c.loop-said.said-index + 1) c.args.heard.now =
    ap (λ (h : Hearing). before ++ h ∷ []) (c.said.view_is ∙ c.said-item.is)
    ∙ sym (take_more c.args.heard.now c.loop-said.said-index c.said-item.result c.loop-said-test.true) in
    let all : c.args.heard.now ≡ (before ++ h ∷ []) ++ later =
    sym (take-append-drop (c.loop-said.said-index + 1) c.args.heard.now) ∙ ap (λ (front : List Hearing). front ++ later) (sym more) in (
      λ no. absurd (cc (no)),
      λ idle. absurd (not_idle c.loop-said.rbc c.hear.new.self p c.args.own.now before h later c.loop-said.due.votes c.hear.new.due.votes
          c.liars-sound.ensures.sound c.requires.node c.requires.lane c.loop-said.invariant
          (lt-ltb c.said.inside.from c.args.place.now.config.n (omega (arith, c.n-n.ensures.value))) c.in_ok-hear.ensures.ok
          (λ none. let empty : length c.hear.new.due.votes ≡ 0 = ap length none in absurd (omega (arith, ap length c.votes-made.ensures)))
          (subst (λ (heard : List Hearing). IsIdle (slots_at p) c.args.own.now heard) all idle)),
    )

pub returns : goal.returns
returns c =
    let p : Place = record { config = c.args.place.now.config; node = c.args.place.now.node; lane = c.args.place.now.lane; epoch = c.args.place.now.epoch } in
    let has : HasHeard c.loop-said.rbc p c.args.own.now c.args.heard.now c.loop-said.due.votes =
    subst (λ (heard : List Hearing). HasHeard c.loop-said.rbc p c.args.own.now heard c.loop-said.due.votes)
    (take_all c.loop-said.said-index c.args.heard.now (omega arith)) c.loop-said.invariant in (
      λ yes. idle_heard c.loop-said.rbc p c.args.own.now c.args.heard.now c.loop-said.due.votes c.liars-sound.ensures.sound c.requires.node c.requires.lane has,
      λ idle. refl,
    )
