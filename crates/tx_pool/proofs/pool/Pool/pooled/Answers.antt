use Rattle.std.proofs.Common.{sym, ◌∙◌}
use Rattle.std.proofs.lemmas.List.Elements.{recursion_from_All}
use Rattle.hb_base.specs.Limits.{IsTransaction}
use Rattle.tx_pool.specs.Standings.{standing_of}
use Rattle.tx_pool.proofs.Tables.{is_among-settled_of, pooled_or_settled}
use Rattle.tx_pool.proofs.pool.Pool.pooled.Goals as goal

pub returns-clause-apart : goal.returns-clause-apart
returns-clause-apart c = rw (← c.self.view_is)
    (λ tx pooled. is_among-settled_of c.self.inside.standings tx
    ∙ pooled_or_settled (standing_of c.self.inside.standings tx) (sym (c.self.invariant.listed tx) ∙ pooled))

pub returns-clause-fit : goal.returns-clause-fit
returns-clause-fit c = rw (← c.self.view_is) (recursion_from_All IsTransaction c.self.inside.pooled.items c.self.invariant.fit)
