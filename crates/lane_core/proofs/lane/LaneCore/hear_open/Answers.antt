use Rattle.std.proofs.Common.{◌≡◌, ◌<◌, ℕ, List, Option, sym, subst, arith}
use Rattle.std.specs.Vec.{with_items}
use Rattle.std.proofs.lemmas.List.{with_items_is}
use Rattle.hb_wire.specs.Votes.{epoch_of}
use Rattle.hb_rules.specs.Hearing.{hearing}
use Rattle.lane_core.specs.declared.cores.Cores.{Cores}
use Rattle.lane_core.specs.Lane.{LaneView, ArePlaced, StaysAt, StandsOn, KeepsStanding, cores_at, Hears, HearsAt}
use Rattle.lane_core.proofs.Results.{on_ok, on_err}
use Rattle.lane_core.proofs.Lanes.{ArePlaced-stay, hears_there, stands_there}
use Rattle.lane_core.proofs.lane.LaneCore.hear_open.Goals as goal

pub invariant_of-self : goal.invariant_of-self
invariant_of-self c =
    let e : ℕ = epoch_of c.args.vote.now in
    let keeps : (with_items c.self.inside.epochs c.hear_in.new.epochs).items ≡ c.hear_in.new.epochs =
    with_items_is c.self.inside.epochs c.hear_in.new.epochs (omega (arith, c.hear_in.ensures.count, c.deref_mut.ensures.len, c.self.inside.epochs.ok.0)) in
    record {
      node = c.self.invariant.node;
      lane = c.self.invariant.lane;
      dealt = c.self.invariant.dealt;
      placed =
          subst (λ (epochs : List (Option Cores)). ArePlaced c.self.inside.config c.self.inside.node c.self.inside.lane epochs) (sym keeps)
          (ArePlaced-stay c.self.inside.config c.self.inside.node c.self.inside.lane c.self.inside.epochs.items c.hear_in.new.epochs e
          c.self.invariant.placed
          (subst (λ (had : List (Option Cores)). (k : ℕ) → (k ≡ e → ⊥) → cores_at c.hear_in.new.epochs k ≡ cores_at had k) c.deref_mut.ensures.value c.hear_in.ensures.others)
          ((subst (λ (had : List (Option Cores)). StaysAt (cores_at had e) (cores_at c.hear_in.new.epochs e)) c.deref_mut.ensures.value c.hear_in.ensures.at).stays
          c.self.inside.config c.self.inside.node c.self.inside.lane e (c.self.invariant.placed.each e)));
    }

pub returns-clause-ok : goal.returns-clause-ok
returns-clause-ok c =
    let e : ℕ = epoch_of c.args.vote.now in
    let keeps : (with_items c.self.inside.epochs c.hear_in.new.epochs).items ≡ c.hear_in.new.epochs =
    with_items_is c.self.inside.epochs c.hear_in.new.epochs (omega (arith, c.hear_in.ensures.count, c.deref_mut.ensures.len, c.self.inside.epochs.ok.0)) in
    let l : LaneView =
    record { config = c.self.inside.config; node = c.self.inside.node; lane = c.self.inside.lane; epochs = c.self.inside.epochs.items } in
    let h = hearing c.args.from c.args.vote.now in
    let before = c.args.due.now.votes in
    let after = c.hear_in.new.due.votes in
    on_ok c.hear_in.result (HearsAt (cores_at c.deref_mut.result.now e) (cores_at c.hear_in.new.epochs e) h before after) _
    (λ hears.
    subst (λ (old : LaneView). Hears old (record l { epochs = (with_items c.self.inside.epochs c.hear_in.new.epochs).items }) h before after) c.self.view_is
    (subst (λ (epochs : List (Option Cores)). Hears l (record l { epochs = epochs }) h before after) (sym keeps)
    (hears_there l c.hear_in.new.epochs h before after c.self.invariant.placed
    (subst (λ (l : LaneView). e < l.config.epochs) (sym c.self.view_is) c.requires.epoch)
    (subst (λ (had : List (Option Cores)). (k : ℕ) → (k ≡ e → ⊥) → cores_at c.hear_in.new.epochs k ≡ cores_at had k) c.deref_mut.ensures.value c.hear_in.ensures.others)
    (subst (λ (had : List (Option Cores)). HearsAt (cores_at had e) (cores_at c.hear_in.new.epochs e) h before after) c.deref_mut.ensures.value hears))))
    c.hear_in.ensures.ok

pub returns-clause-kept : goal.returns-clause-kept
returns-clause-kept c =
    let e : ℕ = epoch_of c.args.vote.now in
    let keeps : (with_items c.self.inside.epochs c.hear_in.new.epochs).items ≡ c.hear_in.new.epochs =
    with_items_is c.self.inside.epochs c.hear_in.new.epochs (omega (arith, c.hear_in.ensures.count, c.deref_mut.ensures.len, c.self.inside.epochs.ok.0)) in
    let l : LaneView =
    record { config = c.self.inside.config; node = c.self.inside.node; lane = c.self.inside.lane; epochs = c.self.inside.epochs.items } in
    on_err c.hear_in.result (StandsOn (cores_at c.deref_mut.result.now e) (cores_at c.hear_in.new.epochs e)) _
    (λ on.
    subst (λ (old : LaneView). KeepsStanding old (record l { epochs = (with_items c.self.inside.epochs c.hear_in.new.epochs).items })) c.self.view_is
    (subst (λ (epochs : List (Option Cores)). KeepsStanding l (record l { epochs = epochs })) (sym keeps)
    (stands_there l c.hear_in.new.epochs e
    (subst (λ (had : List (Option Cores)). (k : ℕ) → (k ≡ e → ⊥) → cores_at c.hear_in.new.epochs k ≡ cores_at had k) c.deref_mut.ensures.value c.hear_in.ensures.others)
    (subst (λ (had : List (Option Cores)). StandsOn (cores_at had e) (cores_at c.hear_in.new.epochs e)) c.deref_mut.ensures.value on))))
    c.hear_in.ensures.kept
