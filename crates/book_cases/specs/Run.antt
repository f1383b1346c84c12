-- The run of the shared book: five nodes, of which node 4 lies, and what their desks post.
use Rattle.std.specs.Prelude.{◌≡◌, true, false, [], ◌∷◌}
use Rattle.hb_base.specs.Numbers.{Numbers}
use Rattle.hb_base.specs.NodeSet.{is_in}
use Rattle.hb_wire.specs.declared.vote.Vote.{Vote}
use Rattle.hb_wire.specs.declared.vote.Vote.TheVariants.{Propose}

pub record IsRun (c : Numbers) : Type 0 where
  pub nodes : c.n ≡ 5
  pub epochs : c.epochs ≡ 2
  pub version : c.version ≡ 1
  pub node_0 : is_in c.liars 0 ≡ false
  pub node_1 : is_in c.liars 1 ≡ false
  pub node_2 : is_in c.liars 2 ≡ false
  pub node_3 : is_in c.liars 3 ≡ false
  pub node_4 : is_in c.liars 4 ≡ true

-- the proposal of an empty batch
abbrev pub empty_proposal : Vote
empty_proposal = Propose 0 (0 ∷ 0 ∷ [])
