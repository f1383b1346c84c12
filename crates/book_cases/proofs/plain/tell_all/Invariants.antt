use Rattle.std.proofs.Common.{◌≡◌}
use Rattle.hb_rules.specs.Book.{IsSeatOf, Moved}
use Rattle.book_cases.proofs.plain.tell_all.Given as goal

abbrev pub invariant-loop-k : goal.invariant-loop-k
invariant-loop-k l =
    IsSeatOf l.book l.liar
    × (l.liar.config ≡ l.initial.liar.config)
    × (l.liar.node ≡ l.initial.liar.node)
    × (l.liar.actor ≡ l.initial.liar.actor)
    × Moved l.initial.liar.node l.initial.liar.actor l.initial.book l.book
