-- What an actor has received by the end of a run.
use Rattle.std.specs.Prelude.{◌≡◌, ℕ, true, false, Bool, ◌||◌, List, Contains, Some, slice_get, slice_index_or}
use Rattle.hb_base.specs.NodeSet.{is_in}
use Rattle.hb_wire.specs.declared.post.Post.{Post}
use Rattle.hb_rules.specs.declared.report.End.{End}
use Rattle.hb_rules.specs.declared.report.Report.{Report}
use Rattle.hb_rules.specs.Report.{comes_to, works, IsReceived, IsExpected}

-- all that it has received has come to it
abbrev pub AreReceived : Report → End → Type 0
AreReceived report end = (k : ℕ) → Contains end.got.items k → IsReceived report.config report.script report.history.items end.node end.actor k

-- it has received all that it has to
abbrev pub HasReceived : Report → End → Type 0
HasReceived report end = (k : ℕ) → IsExpected report end.node end.actor k → Contains end.got.items k

-- whether the sender of a post lies or works
abbrev pub is_sent : Report → Post → Bool
is_sent report post = is_in report.config.liars post.from || works report.ends.items post.from post.actor

-- the post with this number, if it comes to the actor and is marked in the first list, is marked in the second
abbrev pub IsMarkedAt : Report → End → List Bool → List Bool → ℕ → Type 0
IsMarkedAt report end sent marks k =
    (post : Post) → slice_get report.history.items k ≡ Some post → comes_to report.config report.script post end.node end.actor k ≡ true
    → slice_index_or sent k false ≡ true → slice_index_or marks k false ≡ true

abbrev pub AreMarked : Report → End → List Bool → List Bool → Type 0
AreMarked report end sent marks = (k : ℕ) → IsMarkedAt report end sent marks k
