use Rattle.std.proofs.Common.{◌≡◌, false, Some, refl, ◌∙◌}
use Rattle.tx_pool.specs.Marks.{mark}
use Rattle.tx_pool.specs.Standings.{first_with, other_at, is_first}
use Rattle.tx_pool.proofs.ByBytes.{lookup-updated}
use Rattle.tx_pool.proofs.ByMark.{apart_from_none, sets_by_other}
use Rattle.tx_pool.proofs.standings.Standings.insert.Goals as goal

pub returns-in_ok-insert-clause-ok : goal.returns-in_ok-insert-clause-ok
returns-in_ok-insert-clause-ok c =
    let apart : is_first (first_with c.args.self.now (mark c.args.tx.now)) c.args.tx.now ≡ false =
    apart_from_none (first_with c.args.self.now (mark c.args.tx.now)) c.args.tx.now (other_at c.args.self.now c.args.tx.now) c.requires in
    let key : c.in_ok-copy.copy.items ≡ c.args.tx.now = c.in_ok-copy.ensures.items ∙ c.as_slice-then-contains_key.ensures in
    sets_by_other c.args.self.now _ c.args.tx.now (Some c.args.standing) apart (rw (← c.self.view_is, ← key) (record {
      firsts = refl;
      is = lookup-updated c.in_ok-copy.copy.items c.self.inside.others c.insert.new.self (Some c.args.standing) c.in_ok-insert.ensures.updates;
    }))
