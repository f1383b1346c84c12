use Rattle.std.proofs.Common.{◌≡◌, ◌≤◌, ◌∷◌, [], ◌++◌, Contains, take, refl, sym, ap, ◌∙◌, subst, arith}
use Rattle.std.proofs.lemmas.List.{take_all}
use Rattle.std.proofs.lemmas.List.Elements.{Contains-get_or}
use Rattle.hb_base.specs.Numbers.{Numbers}
use Rattle.hb_wire.specs.declared.vote.Vote.{Vote}
use Rattle.hb_rules.specs.Code.{data_count}
use Rattle.hb_rules.specs.History.{HasSpelling}
use Rattle.hb_rules.specs.Owing.{Place}
use Rattle.hb_rules.proofs.Lists.{AllByRecursion-contains}
use Rattle.rbc_core.proofs.Marking.{AreMarked, AreMarked-push, AreMarked-part, stands_marked, take_next}
use Rattle.rbc_core.proofs.rbc.Rbc.rebuild.Goals as goal

pub loop-vote-init : goal.loop-vote-init
loop-vote-init c = record {
  place = ap (λ (v : Numbers). record { config = v; node = c.args.node; lane = c.args.lane; epoch = c.args.epoch }) c.new-2.ensures.config;
  none = c.new-2.ensures.none;
  vals = c.new.ensures.members;
  echo = refl;
  ready = refl;
  delivered = refl;
}

pub mark-requires : goal.mark-requires
mark-requires c =
    let config : c.loop-vote.rbc.roots.config ≡ c.args.config.now = ap (λ (p : Place). p.config) c.loop-vote.invariant.place in
    let stands : Contains c.args.own.now c.vote-item.result =
    subst (Contains c.args.own.now) (sym c.vote-item.is) (Contains-get_or c.args.own.now c.loop-vote.vote-index c.vote-item.result c.loop-vote-test.true) in
    record {
      few = omega (arith, ap (λ (v : Numbers). v.n) config, c.n-n.ensures.value, c.n-n.ensures.bounds.1);
      spelled =
          subst (λ (v : Numbers). HasSpelling v c.vote-item.result) (sym config)
          (AllByRecursion-contains (HasSpelling c.args.config.now) c.args.own.now c.vote-item.result c.requires.own stands);
    }

pub loop-vote-preserved : goal.loop-vote-preserved
loop-vote-preserved c =
    let p : Place = record { config = c.args.config.now; node = c.args.node; lane = c.args.lane; epoch = c.args.epoch } in
    subst (AreMarked c.mark.new.self p)
    (ap (λ (v : Vote). take c.loop-vote.vote-index c.args.own.now ++ v ∷ []) c.vote-item.is
    ∙ take_next c.args.own.now c.loop-vote.vote-index c.vote-item.result c.loop-vote-test.true)
    (AreMarked-push c.loop-vote.rbc c.mark.new.self p (take c.loop-vote.vote-index c.args.own.now) c.vote-item.result c.loop-vote.invariant c.in_ok-mark.ensures)

pub returns : goal.returns
returns c =
    let p : Place = record { config = c.args.config.now; node = c.args.node; lane = c.args.lane; epoch = c.args.epoch } in
    let are : AreMarked c.loop-vote.rbc p c.args.own.now =
    subst (AreMarked c.loop-vote.rbc p) (take_all c.loop-vote.vote-index c.args.own.now (omega arith)) c.loop-vote.invariant in
    let config : c.loop-vote.rbc.roots.config ≡ c.args.config.now = ap (λ (p : Place). p.config) are.place in
    let some : 1 ≤ data_count c.loop-vote.rbc.roots.config =
    rw config (omega (arith, c.k-k.ensures.value, c.k-k.ensures.bounds)) in
    record {
      place = are.place;
      stands = stands_marked c.loop-vote.rbc p c.args.own.now some are;
      part = stands_marked c.loop-vote.rbc p _ some (AreMarked-part c.loop-vote.rbc p c.args.own.now are);
    }
