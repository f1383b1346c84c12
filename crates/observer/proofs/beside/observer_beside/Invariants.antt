use Rattle.std.proofs.Common.{◌≡◌, take}
use Rattle.observer.specs.Beside.{arriving}
use Rattle.observer.specs.Standing.{HasHeard}
use Rattle.observer.proofs.beside.observer_beside.Given as goal

-- the observer has heard what comes of the first posts
abbrev pub invariant-loop-k : goal.invariant-loop-k
invariant-loop-k l = record {
  config : l.observer.config ≡ l.report.config;
  heard : HasHeard l.observer (arriving l.report.script.links.items l.node 0 (take l.k l.report.history.items));
}
