use Rattle.std.proofs.Common.{ℕ, List, [], ◌∷◌, length, slice_get, sym, ap, ◌∙◌, arith}
use Rattle.hb_wire.specs.declared.items.Item.{Item}
use Rattle.hb_rules.proofs.LaneVotes.{correct_is}
use Rattle.acs_world.proofs.Tables.{none_tabled, some_tabled}
use Rattle.acs_world.proofs.ledger_finder.tabled_list.Goals as goal

pub returns-in-None : goal.returns-in-None
returns-in-None c =
    let none = none_tabled c.args.config.now c.args.posts.now c.args.table.now c.args.node c.requires.repeated
    (correct_is c.args.config.now c.args.node c.requires.correct) c.args.epoch c.in-None.ensures.none in
    (sym (ap length none), omega arith)

pub returns-then-place-eq0 : goal.returns-then-place-eq0
returns-then-place-eq0 c =
    let tabled = c.in-Some.ensures.some in
    let lists = some_tabled c.args.config.now c.args.posts.now c.args.table.now c.args.node c.requires.repeated
    (correct_is c.args.config.now c.args.node c.requires.correct) c.args.epoch _ tabled in
    record {
      list = tabled.list;
      there =
          ap (λ (xs : List (List Item)). slice_get xs c.args.place) lists ∙ ap (λ (k : ℕ). slice_get (tabled.list ∷ []) k) c.if-place-eq0.true;
      shown = tabled.shown;
    }

pub returns-else-place-eq0 : goal.returns-else-place-eq0
returns-else-place-eq0 c =
    let lists = some_tabled c.args.config.now c.args.posts.now c.args.table.now c.args.node c.requires.repeated
    (correct_is c.args.config.now c.args.node c.requires.correct) c.args.epoch _ c.in-Some.ensures.some in
    (sym (ap length lists), omega (arith, c.if-place-eq0.false))
