use Rattle.std.proofs.Common.{◌≡◌, ℕ, Bool, List, [], length, Option, ap, ap₂, ◌∙◌, arith}
use Rattle.std.specs.Vec.{with_items}
use Rattle.std.specs.declared.vec.Vec.{Vec}
use Rattle.std.proofs.lemmas.List.{with_items_is}
use Rattle.hb_base.specs.Numbers.{Numbers}
use Rattle.hb_wire.specs.declared.vote.Vote.{Vote}
use Rattle.tx_pool.specs.Pool.{PoolView}
use Rattle.hb_rules.specs.Hearing.{Hearing, hearing}
use Rattle.epoch_core.specs.declared.pending.Pending.{Pending}
use Rattle.epoch_core.specs.declared.table.Table.{Table}
use Rattle.epoch_core.specs.Tables.{ArePlaced, HearsAll, no_more_if}
use Rattle.epoch_core.specs.Closing.{Kept, kept, ClosesAll}
use Rattle.epoch_core.specs.Epochs.{EpochsView}
use Rattle.epoch_core.proofs.Owed.{with_all}
use Rattle.epoch_core.proofs.Desk.{HasRun, Hears-ran, run_fits, run_sound}
use Rattle.epoch_core.proofs.epochs.Epochs.hear.Goals as goal

-- the state with these fields
abbrev view_of : {A : Type 0} → Numbers → ℕ → PoolView → ℕ → Option (List ℕ) → Vec Table A → EpochsView
view_of config node pool closed first tables = record {
  config = config;
  node = node;
  pooled = pool.pooled;
  closed = closed;
  first = first;
  tables = tables.items;
}

-- what the calls ensure, together
has_run : {A : Type 0} (config : Numbers) (node : ℕ) (pool : PoolView) (closed : ℕ) (first : Option (List ℕ)) (tables : Vec Table A) (had new shut : List Table) (to : ℕ)
    (h : Hearing) (is_due : Bool) (begun : Pending) (k : Kept)
    → had ≡ tables.items → shut ≡ (with_items tables new).items → begun.closings.items ≡ [] → begun.proposals.items ≡ []
    → HearsAll config node had new h is_due
    → ((i : ℕ) → ArePlaced config i shut → ClosesAll config i shut closed to (kept pool begun) k)
    → HasRun (view_of config node pool closed first tables) had new shut (with_items tables new).items to h is_due (kept pool begun) k
has_run config node pool closed first tables had new shut to h is_due begun k had_is shut_is no_closings no_proposals hears closes =
    let count : length new ≡ length tables.items = hears.count ∙ ap (λ (ts : List Table). length ts) had_is in
    let keeps : (with_items tables new).items ≡ new = with_items_is tables new (omega (arith, count, tables.ok.0)) in
    record {
      from = had_is;
      keeps = keeps;
      reads = shut_is ∙ keeps;
      begins =
          ap₂ (λ (cl pr : List Vote). let k : Kept = record { pooled = pool.pooled; closings = cl; proposals = pr } in k)
          no_closings no_proposals;
      hears = hears;
      closes = closes;
    }

pub cast-requires-clause-closings : goal.cast-requires-clause-closings
cast-requires-clause-closings c =
    let ran = has_run c.self.inside.config c.self.inside.node c.self.inside.pool c.self.inside.closed c.self.inside.first c.self.inside.tables
    c.deref_mut.result.now c.hear_in.new.tables c.deref.result.now c.in_ok-closed.closed (hearing c.args.lane c.args.vote.now)
    c.in_ok-is_no_more_due.is_no_more_due c.new-pending.result (kept c.close_all.new.pool c.close_all.new.pending) c.deref_mut.ensures.value
    c.deref.ensures.value c.new-pending.ensures.closings c.new-pending.ensures.proposals c.in_ok-is_no_more_due.ensures.ok c.in_ok-closed.ensures in
    (run_fits _ _ _ _ _ _ _ _ _ _ ran c.self.invariant.few).0

pub cast-requires-clause-proposals : goal.cast-requires-clause-proposals
cast-requires-clause-proposals c =
    let ran = has_run c.self.inside.config c.self.inside.node c.self.inside.pool c.self.inside.closed c.self.inside.first c.self.inside.tables
    c.deref_mut.result.now c.hear_in.new.tables c.deref.result.now c.in_ok-closed.closed (hearing c.args.lane c.args.vote.now)
    c.in_ok-is_no_more_due.is_no_more_due c.new-pending.result (kept c.close_all.new.pool c.close_all.new.pending) c.deref_mut.ensures.value
    c.deref.ensures.value c.new-pending.ensures.closings c.new-pending.ensures.proposals c.in_ok-is_no_more_due.ensures.ok c.in_ok-closed.ensures in
    (run_fits _ _ _ _ _ _ _ _ _ _ ran c.self.invariant.few).1

pub invariant_of-self-2 : goal.invariant_of-self-2
invariant_of-self-2 c =
    let ran = has_run c.self.inside.config c.self.inside.node c.self.inside.pool c.self.inside.closed c.self.inside.first c.self.inside.tables
    c.deref_mut.result.now c.hear_in.new.tables c.deref.result.now c.in_ok-closed.closed (hearing c.args.lane c.args.vote.now)
    c.in_ok-is_no_more_due.is_no_more_due c.new-pending.result (kept c.close_all.new.pool c.close_all.new.pending) c.deref_mut.ensures.value
    c.deref.ensures.value c.new-pending.ensures.closings c.new-pending.ensures.proposals c.in_ok-is_no_more_due.ensures.ok c.in_ok-closed.ensures in
    run_sound _ _ _ _ _ _ _ _ _ _ ran c.self.invariant

pub returns-clause-ok : goal.returns-clause-ok
returns-clause-ok c =
    let k : Kept = kept c.close_all.new.pool c.close_all.new.pending in
    rw (← c.self.view_is) (Hears-ran _ c.deref_mut.result.now c.hear_in.new.tables c.deref.result.now
    (with_items c.self.inside.tables c.hear_in.new.tables).items c.in_ok-closed.closed (hearing c.args.lane c.args.vote.now)
    c.in_ok-is_no_more_due.is_no_more_due (kept c.self.inside.pool c.new-pending.result) k
    c.args.due.now.votes c.cast.new.due.votes
    (has_run c.self.inside.config c.self.inside.node c.self.inside.pool c.self.inside.closed c.self.inside.first c.self.inside.tables
    c.deref_mut.result.now c.hear_in.new.tables c.deref.result.now c.in_ok-closed.closed (hearing c.args.lane c.args.vote.now)
    c.in_ok-is_no_more_due.is_no_more_due c.new-pending.result k c.deref_mut.ensures.value
    c.deref.ensures.value c.new-pending.ensures.closings c.new-pending.ensures.proposals c.in_ok-is_no_more_due.ensures.ok c.in_ok-closed.ensures)
    (rw (← c.self.view_is) at c.requires.started)
    (c.in_ok-cast.ensures.ok
    ∙ ap (λ (e : ℕ). with_all c.args.due.now.votes (no_more_if c.in_ok-is_no_more_due.is_no_more_due e) k) c.epoch-epoch.ensures))
