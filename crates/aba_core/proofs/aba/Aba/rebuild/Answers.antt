use Rattle.std.proofs.Common.{List, ◌∷◌, [], ◌++◌, take, refl, sym, ap, ◌∙◌, subst, arith}
use Rattle.std.proofs.lemmas.List.{take_all, take_more}
use Rattle.hb_wire.specs.declared.vote.Vote.{Vote}
use Rattle.hb_rules.specs.Owing.{Place}
use Rattle.aba_core.specs.Made.{all_rounds}
use Rattle.aba_core.specs.Standing.{Shows}
use Rattle.aba_core.proofs.Building.{IsBuilt, IsBuilt-none, IsBuilt-more, new_rounds, new_sound, part_shown, Stands-idle, Stands-none}
use Rattle.aba_core.proofs.aba.Aba.rebuild.Goals as goal

pub invariant_of-aba : goal.invariant_of-aba
invariant_of-aba c =
    let p : Place = record { config = c.args.config.now; node = c.args.node; lane = c.args.lane; epoch = c.args.epoch } in
    rw (c.none.ensures, c.in_ok-new.ensures) (record {
      aba = new_sound p (all_rounds p.config p.lane p.epoch []) c.liars-sound.ensures.sound c.requires.node (new_rounds p.config p.lane p.epoch);
      config = refl;
      lane = refl;
      epoch = refl;
    })

pub loop-vote-init : goal.loop-vote-init
loop-vote-init c =
    let p : Place = record { config = c.args.config.now; node = c.args.node; lane = c.args.lane; epoch = c.args.epoch } in
    rw (c.none.ensures, c.in_ok-new.ensures) (IsBuilt-none p (all_rounds p.config p.lane p.epoch []) c.liars-sound.ensures.sound (new_rounds p.config p.lane p.epoch))

pub loop-vote-preserved : goal.loop-vote-preserved
loop-vote-preserved c =
    let p : Place = record { config = c.args.config.now; node = c.args.node; lane = c.args.lane; epoch = c.args.epoch } in
    subst (IsBuilt c.cast.new.self p)
    (ap (λ (v : Vote). take c.loop-vote.vote-index c.args.own.now ++ v ∷ []) c.vote-item.is
    ∙ sym (take_more c.args.own.now c.loop-vote.vote-index c.vote-item.result c.loop-vote-test.true))
    (IsBuilt-more c.loop-vote.aba c.cast.new.self p (take c.loop-vote.vote-index c.args.own.now) c.vote-item.result c.loop-vote.invariant c.cast.ensures)

pub returns : goal.returns
returns c =
    let p : Place = record { config = c.args.config.now; node = c.args.node; lane = c.args.lane; epoch = c.args.epoch } in
    let built : IsBuilt c.loop-vote.aba p c.args.own.now =
    subst (IsBuilt c.loop-vote.aba p) (take_all c.loop-vote.vote-index c.args.own.now (omega arith)) c.loop-vote.invariant in
    let part = part_shown c.loop-vote.aba c.args.epoch c.args.own.now (ap (λ (p : Place). p.epoch) built.place) built.shows in
    record {
      place = built.place;
      stands = λ idle. Stands-idle c.loop-vote.aba c.args.own.now built.shows idle;
      part = λ idle.
          Stands-idle c.loop-vote.aba _ part idle;
      new = λ none.
          Stands-none c.loop-vote.aba (omega (arith, c.liars-sound.ensures.sound.rounds.0, ap (λ (p : Place). p.config.rounds) built.place))
          (subst (λ (votes : List Vote). Shows c.loop-vote.aba votes []) none part);
      shows = built.shows;
    }
