use Rattle.std.proofs.Common.{◌≡◌, ◌<◌, true, false, Option, sym, subst, ◌∙◌}
use Rattle.lane_core.specs.declared.cores.Cores.{Cores}
use Rattle.lane_core.specs.Lane.{LaneView, is_open, AreAtEpoch, Opens, KeepsStanding}
use Rattle.lane_core.proofs.Results.{on_ok, on_err, either_way}
use Rattle.lane_core.proofs.Lanes.{ArePlaced-stay, ArePlaced-same, Opens-made, Opens-open, kept_places}
use Rattle.lane_core.proofs.lane.LaneCore.make_cores.Goals as goal

pub returns-then-is_open-clause-ok : goal.returns-then-is_open-clause-ok
returns-then-is_open-clause-ok c = Opens-open c.args.self.now c.args.epoch (sym c.is_open.ensures ∙ c.if-is_open.true)

pub invariant_of-self : goal.invariant_of-self
invariant_of-self c = record {
  node = c.self.invariant.node;
  lane = c.self.invariant.lane;
  dealt = c.self.invariant.dealt;
  placed =
      either_way c.put.result _ _ _
      (λ sets.
      ArePlaced-stay c.self.inside.config c.self.inside.node c.self.inside.lane c.self.inside.epochs.items c.put.new.epochs.items c.args.epoch
      c.self.invariant.placed sets.others
      (subst (λ (place : Option Cores). AreAtEpoch c.self.inside.config c.self.inside.node c.self.inside.lane c.args.epoch place) (sym sets.here)
      c.in_ok-cores.ensures.at))
      (λ same.
      ArePlaced-same c.self.inside.config c.self.inside.node c.self.inside.lane c.self.inside.epochs.items c.put.new.epochs.items
      c.self.invariant.placed same)
      c.put.ensures.ok c.put.ensures.err;
}

pub returns-clause-ok : goal.returns-clause-ok
returns-clause-ok c =
    let l : LaneView =
    record { config = c.self.inside.config; node = c.self.inside.node; lane = c.self.inside.lane; epochs = c.self.inside.epochs.items } in
    on_ok c.put.result _ _
    (λ sets.
    subst (λ (old : LaneView). Opens old (record l { epochs = c.put.new.epochs.items }) c.args.epoch) c.self.view_is
    (Opens-made l c.put.new.epochs.items c.args.epoch c.in_ok-cores.cores
    (subst (λ (l : LaneView). c.args.epoch < l.config.epochs) (sym c.self.view_is) c.requires)
    (subst (λ (l : LaneView). is_open l c.args.epoch ≡ false) (sym c.self.view_is) (sym c.is_open.ensures ∙ c.if-is_open.false))
    c.in_ok-cores.ensures.stands sets))
    c.put.ensures.ok

pub returns-clause-kept : goal.returns-clause-kept
returns-clause-kept c =
    let l : LaneView =
    record { config = c.self.inside.config; node = c.self.inside.node; lane = c.self.inside.lane; epochs = c.self.inside.epochs.items } in
    on_err c.put.result _ _
    (λ same. subst (λ (old : LaneView). KeepsStanding old (record l { epochs = c.put.new.epochs.items })) c.self.view_is
    (kept_places l c.put.new.epochs.items same))
    c.put.ensures.err
