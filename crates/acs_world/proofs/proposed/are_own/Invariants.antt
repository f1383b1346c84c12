use Rattle.std.proofs.Common.{◌≡◌, List, take, true}
use Rattle.std.specs.List.{list_all}
use Rattle.hb_wire.specs.declared.items.Item.{Item}
use Rattle.hb_wire.specs.Glances.{IsClosedRest}
use Rattle.acs_world.specs.Closed.{is_own}
use Rattle.acs_world.proofs.proposed.are_own.Given as goal

-- the items so far are what was proposed
abbrev pub invariant-loop-j : goal.invariant-loop-j
invariant-loop-j l = (items : List Item) → IsClosedRest l.rest items → list_all (is_own l.config l.posts l.epoch) (take l.j items) ≡ true
