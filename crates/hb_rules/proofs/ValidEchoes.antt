-- The Echo of a correct node is valid.
use Rattle.std.proofs.Common.{◌≡◌, ℕ, true, false, inl, inr, List, subst}
use Rattle.hb_base.specs.Numbers.{Numbers}
use Rattle.hb_base.specs.NodeSet.{is_in}
use Rattle.merkle_branch.specs.declared.Branch.{Branch}
use Rattle.merkle_branch.specs.Branches.{is_branch}
use Rattle.merkle_branch.proofs.Tested.{is_branch-from}
use Rattle.hb_wire.specs.declared.vote.Vote.{Vote}
use Rattle.hb_wire.specs.declared.vote.Vote.TheVariants.{Echo}
use Rattle.hb_wire.specs.declared.post.Post.{Post}
use Rattle.hb_rules.specs.Echoes.{HasValidBranchIfCorrect}
use Rattle.hb_rules.specs.Hearing.{Hearing, own_in, heard_in}
use Rattle.hb_rules.specs.History.{IsAllowed, IsLegal}
use Rattle.hb_rules.specs.Rules.{MayCast}
use Rattle.hb_rules.proofs.Cast.{was_allowed}

-- the rules ask for a valid branch
may_echo : (c : Numbers) (i x : ℕ) (own : List Vote) (heard : List Hearing) (e : ℕ) (root shard : List ℕ) (branch : Branch)
    → MayCast c i x own heard (Echo e root shard branch) → is_branch root c.n i shard branch ≡ true
may_echo c i x own heard e root shard branch (inl may) = is_branch-from root c.n i shard branch may.1.1
may_echo c i x own heard e root shard branch (inr may) = absurd may.1

echo_of : (c : Numbers) (i x : ℕ) → is_in c.liars i ≡ false → (history : List Post) → IsLegal c history → (e : ℕ) (root shard : List ℕ)
    (branch : Branch) → IsAllowed c i x history (Echo e root shard branch) → is_branch root c.n i shard branch ≡ true
echo_of c i x correct history legal e root shard branch (inr may) =
    may_echo c i x (own_in c i x history) (heard_in c i x history) e root shard branch may
echo_of c i x correct history legal e root shard branch (inl stands) =
    let was = was_allowed c i x correct history legal (Echo e root shard branch) stands in
    may_echo c i x (own_in c i x was.before) (heard_in c i x was.before) e root shard branch was.may

-- what is allowed after a legal history is a valid Echo, if it is an Echo of a correct node
pub valid_echo : (c : Numbers) (i x : ℕ) (history : List Post) → IsLegal c history → (vote : Vote) → IsAllowed c i x history vote
    → HasValidBranchIfCorrect c i vote
valid_echo c i x history legal (Echo e root shard branch) allowed = λ correct. echo_of c i x correct history legal e root shard branch allowed
valid_echo c i x history legal vote allowed = tt
