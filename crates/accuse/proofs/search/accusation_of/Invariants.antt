use Rattle.std.proofs.Common.{◌≡◌, None}
use Rattle.accuse.specs.Accused.{first_contradiction}
use Rattle.accuse.specs.Places.{AreFirsts}
use Rattle.accuse.proofs.search.accusation_of.Given as goal

abbrev pub invariant-loop-number : goal.invariant-loop-number
invariant-loop-number l = record {
  firsts : AreFirsts l.config l.node l.posts l.number l.firsts;
  quiet : first_contradiction l.config l.node l.posts l.number ≡ None;
}
