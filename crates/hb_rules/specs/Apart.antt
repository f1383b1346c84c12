-- What a lane has heard, where no two hashed strings share a digest.
use Rattle.std.specs.Prelude.{ℕ, ◌<◌, List}
use Rattle.hb_base.specs.Numbers.{Numbers}
use Rattle.hb_wire.specs.declared.post.Post.{Post}
use Rattle.hb_rules.specs.Hearing.{Hearing, heard_in}
use Rattle.hb_rules.specs.History.{IsLegal}
use Rattle.hb_rules.specs.Ledger.{IsCorrect}
use Rattle.hb_rules.specs.Strings.{NoCollision}
use Rattle.hb_rules.specs.Terms.{AreAmong}

-- all of it is heard by lane j of node i, which is correct, in a legal history in which no two hashed strings share a
-- digest
pub record IsHeardApart (c : Numbers) (i j : ℕ) (heard : List Hearing) : Type 0 where
  pub history : List Post
  pub legal : IsLegal c history
  pub apart : NoCollision c history
  pub correct : IsCorrect c i
  pub lane : j < c.n
  pub among : AreAmong heard (heard_in c i j history)
