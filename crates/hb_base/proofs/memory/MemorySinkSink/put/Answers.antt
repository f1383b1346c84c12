use Rattle.std.proofs.Common.{inl}
use Rattle.hb_base.proofs.memory.MemorySinkSink.put.Goals as goal

pub returns-then-is_named-clause-fits : goal.returns-then-is_named-clause-fits
returns-then-is_named-clause-fits c = inl (rw (← c.self.view_is) (c.is_named.ensures.0 c.if-is_named.true))
