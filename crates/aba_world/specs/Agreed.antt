-- What a binary agreement keeps in a history, whatever liars post (Mostéfaoui, Moumen and Raynal, PODC 2014). The letters:
-- e is an epoch, j a lane, i and m nodes of a run with config c, r a round, b and d bits.
use Rattle.std.specs.Prelude.{◌≡◌, ℕ, ◌<◌, Bool, List, Contains}
use Rattle.hb_base.specs.Numbers.{Numbers}
use Rattle.hb_wire.specs.declared.vote.Vote.TheVariants.{Est, Decided}
use Rattle.hb_wire.specs.declared.post.Post.{Post}
use Rattle.hb_rules.specs.Hearing.{own_in}
use Rattle.hb_rules.specs.Ledger.{IsCorrect}

-- some correct node has posted the bit as its estimate of the round
pub record HasEstimate (c : Numbers) (history : List Post) (j e r : ℕ) (b : Bool) : Type 0 where
  pub node : ℕ
  pub correct : IsCorrect c node
  pub cast : Contains (own_in c node j history) (Est e r b)

-- all Decided votes of correct nodes in one lane and epoch carry one bit
pub record DecisionsAgree (c : Numbers) (history : List Post) : Type 0 where
  pub one : (j e i m : ℕ) (b d : Bool) → j < c.n → IsCorrect c i → IsCorrect c m → Contains (own_in c i j history) (Decided e b)
      → Contains (own_in c m j history) (Decided e d) → b ≡ d

-- what a correct node decides, some correct node has posted as its estimate of round 0
pub record DecisionsAreBegun (c : Numbers) (history : List Post) : Type 0 where
  pub begun : (j e i : ℕ) (b : Bool) → j < c.n → IsCorrect c i → Contains (own_in c i j history) (Decided e b) → HasEstimate c history j e 0 b

-- agreement and validity of the binary agreement
pub record IsAgreed (c : Numbers) (history : List Post) : Type 0 where
  pub decisions : DecisionsAgree c history
  pub begun : DecisionsAreBegun c history
