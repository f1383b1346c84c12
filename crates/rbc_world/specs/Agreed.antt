-- What a reliable broadcast keeps in a history, whatever liars post (CCS 2016, section 4.2). The letters: e is an epoch, j a
-- lane, i and m nodes of a run with config c.
use Rattle.std.specs.Prelude.{◌≡◌, ℕ, ◌<◌, List, Contains}
use Rattle.hb_base.specs.Numbers.{Numbers}
use Rattle.hb_wire.specs.declared.vote.Vote.TheVariants.{Ready, Delivered, Propose}
use Rattle.hb_wire.specs.declared.post.Post.{Post}
use Rattle.hb_rules.specs.Hearing.{own_in}
use Rattle.hb_rules.specs.Ledger.{IsCorrect}

-- all Ready votes of correct nodes in one lane and epoch name one root
pub record ReadiesAgree (c : Numbers) (history : List Post) : Type 0 where
  pub one : (j e i m : ℕ) (root other : List ℕ) → j < c.n → IsCorrect c i → IsCorrect c m → Contains (own_in c i j history) (Ready e root)
      → Contains (own_in c m j history) (Ready e other) → root ≡ other

-- all Delivered votes of correct nodes in one lane and epoch carry one value
pub record DeliveriesAgree (c : Numbers) (history : List Post) : Type 0 where
  pub one : (j e i m : ℕ) (value other : List ℕ) → j < c.n → IsCorrect c i → IsCorrect c m → Contains (own_in c i j history) (Delivered e value)
      → Contains (own_in c m j history) (Delivered e other) → value ≡ other

-- what correct nodes deliver in the lane of a correct node, the desk of that node has proposed for the epoch
pub record DeliveriesAreProposed (c : Numbers) (history : List Post) : Type 0 where
  pub proposed : (j e i : ℕ) (value : List ℕ) → IsCorrect c j → IsCorrect c i → Contains (own_in c i j history) (Delivered e value)
      → Contains (own_in c j c.n history) (Propose e value)

-- the desk of a correct node proposes one value for an epoch
pub record ProposalsAgree (c : Numbers) (history : List Post) : Type 0 where
  pub one : (i e : ℕ) (value other : List ℕ) → IsCorrect c i → Contains (own_in c i c.n history) (Propose e value)
      → Contains (own_in c i c.n history) (Propose e other) → value ≡ other

-- agreement and validity of the broadcast
pub record IsAgreed (c : Numbers) (history : List Post) : Type 0 where
  pub readies : ReadiesAgree c history
  pub deliveries : DeliveriesAgree c history
  pub proposed : DeliveriesAreProposed c history
