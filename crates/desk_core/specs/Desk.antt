-- The core of a desk as contracts see it.
use Rattle.std.specs.Prelude.{◌≡◌, ℕ, ◌<◌, List, Option, Some}
use Rattle.std.specs.List.{AllByRecursion}
use Rattle.hb_base.specs.ByteLists.{AreBytes}
use Rattle.hb_base.specs.Numbers.{Numbers}
use Rattle.hb_base.specs.Limits.{IsTransaction}
use Rattle.hb_wire.specs.declared.vote.Vote.{Vote}
use Rattle.hb_rules.specs.Hearing.{Hearing}
use Rattle.hb_rules.specs.Terms.{Terms, terms_of}
use Rattle.epoch_core.specs.Epochs.{EpochsView, Stands, has_started}

-- which desk it is, what was submitted at its node, and its state of all epochs, once it is rebuilt
pub record DeskView : Type 0 where
  pub config : Numbers
  pub node : ℕ
  pub submitted : List (List ℕ)
  pub epochs : Option EpochsView

-- a desk of a node of the run; each transaction is one that may be submitted
pub record IsDesk (c : Numbers) (node : ℕ) (submitted : List (List ℕ)) : Type 0 where
  pub known : node < c.n
  pub fit : AllByRecursion IsTransaction submitted
  pub bytes : AllByRecursion AreBytes submitted

-- by what it goes
abbrev pub desk_terms : DeskView → Terms
desk_terms d = terms_of d.config d.submitted d.node d.config.n

-- its state of all epochs stands for these votes and for what was heard, and its first proposal is cast
pub record StandsFor (d : DeskView) (own : List Vote) (heard : List Hearing) : Type 0 where
  pub epochs : EpochsView
  pub is : d.epochs ≡ Some epochs
  pub config : epochs.config ≡ d.config
  pub started : has_started epochs
  pub stands : Stands epochs d.submitted own heard
