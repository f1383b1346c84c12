use Rattle.std.proofs.Common.{◌≡◌, drop}
use Rattle.net_script.specs.Delivery.{first_shape}
use Rattle.net_script.proofs.delivery.shape_by.Given as goal

-- the rules that are left decide as all do
abbrev pub invariant-loop-link : goal.invariant-loop-link
invariant-loop-link l = first_shape (drop l.link-index l.links) l.from l.to l.k ≡ first_shape l.links l.from l.to l.k
