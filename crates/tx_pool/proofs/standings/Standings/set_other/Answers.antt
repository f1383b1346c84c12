use Rattle.std.proofs.Common.{◌≡◌, true, Some, is_some, refl, ap, ◌∙◌}
use Rattle.std.specs.BTreeMap.{get_by}
use Rattle.std.specs.Option.{option_copied_mut}
use Rattle.tx_pool.specs.Standings.{query_cmp}
use Rattle.tx_pool.proofs.ByBytes.{lookup-updated}
use Rattle.tx_pool.proofs.standings.Standings.set_other.Goals as goal
use Rattle.tx_pool.proofs.standings.Standings.set_other.Goals.{in-Some, in_default}

pub returns : goal.returns
returns c =
    let there : is_some (get_by (query_cmp c.args.tx.now) c.self.inside.others) ≡ true = rw (← c.self.view_is) at c.requires in
    elim c.match-get_mut.branch [
      | in-Some w ↦
          let holds = c.get_mut.follows.holds c.args.standing in
          rw (w.self-inside-is, ← c.self.view_is) (record {
            firsts = refl;
            is = lookup-updated c.args.tx.now c.self.inside.others (c.get_mut.follows.lender c.args.standing) (Some c.args.standing) (holds.3 there);
          })
      | in_default w ↦ absurd (cc (ap is_some c.get_mut.ensures.value ∙ there, ap (λ o. is_some (option_copied_mut o)) w.in_default.is))
    ]
