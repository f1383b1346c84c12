-- What observers have in common with correct nodes and with one another.
use Rattle.std.specs.Prelude.{ℕ, ◌<◌, List, length}
use Rattle.hb_base.specs.Numbers.{Numbers}
use Rattle.hb_wire.specs.declared.post.Post.{Post}
use Rattle.observer.specs.Agreeing.{AreTwoOfOne, AreOf, AgreesWithNodes, HasClosers}
use Rattle.observer.specs.Observed.{observed}

-- Whatever posts of a history an observer hears, in any order and with repeats: of its ledger and that of any correct node one
-- begins with the other, and so it is of any two observers' ledgers; each list that it has taken has the batches of n - f nodes
-- at least. Where it has heard of f + 1 correct nodes in each epoch up to e that they closed the epoch, its ledger has more than
-- e lists.
pub record ObserversFollow (c : Numbers) (history : List Post) : Type 0 where
  pub nodes : (heard : List Post) → AreOf history heard → AgreesWithNodes c history (observed c heard)
  pub observers : (heard others : List Post) → AreOf history heard → AreOf history others → AreTwoOfOne (observed c heard) (observed c others)
  pub complete : (heard : List Post) (e : ℕ) → AreOf history heard → HasClosers c heard e → e < length (observed c heard)
