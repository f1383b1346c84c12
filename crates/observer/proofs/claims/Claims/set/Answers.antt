use Rattle.observer.proofs.Tabled.{sets_inserted}
use Rattle.observer.proofs.claims.Claims.set.Goals as goal

pub returns-clause-ok : goal.returns-clause-ok
returns-clause-ok c =
    rw (← c.self.view_is) (sets_inserted c.self.inside.by_bytes c.insert.new.self c.in_ok-key.key c.args.bytes.now c.args.nodes c.in_ok-key.ensures.cases
    c.in_ok-insert.ensures.updates.0)
