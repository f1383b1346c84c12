-- What a core hears.
use Rattle.std.specs.Prelude.{◌≡◌, ◌<◌, true}
use Rattle.hb_rules.specs.Hearing.{Hearing, is_within}
use Rattle.hb_rules.specs.History.{HasSpelling}
use Rattle.hb_rules.specs.Terms.{Terms}

-- a vote of one of the n nodes, at a desk of one of its n lanes; it has a spelling, and the run has its epoch and its round
pub record IsHearing (t : Terms) (h : Hearing) : Type 0 where
  pub known : h.from < t.config.n
  pub spelled : HasSpelling t.config h.vote
  pub within : is_within t.config h.vote ≡ true
