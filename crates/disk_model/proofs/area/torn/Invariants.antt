use Rattle.std.proofs.Common.{◌≡◌, drop}
use Rattle.disk_model.specs.Area.{torn_from}
use Rattle.disk_model.proofs.area.torn.Given as goal

-- the ranges that are left tear what is torn so far to what all tear
abbrev pub invariant-loop-span : goal.invariant-loop-span
invariant-loop-span l = torn_from (drop l.span-index l.written) 0 l.bytes.items ≡ torn_from l.written 0 l.fn.content
