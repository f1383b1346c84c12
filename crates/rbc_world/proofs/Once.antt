-- Votes that an actor casts once: an Echo in a lane and epoch, a proposal for an epoch.
use Rattle.std.proofs.Common.{◌≡◌, ℕ, Bool, true, false, ◌==◌, inl, inr, List, Contains, if◌then◌else◌, None, Some, refl, sym, ap, ◌∙◌}
use Rattle.std.specs.List.{list_any}
use Rattle.std.specs.Option.{is_some}
use Rattle.std.proofs.lemmas.Bool.{eqb-true, eq-eqb}
use Rattle.hb_base.specs.Numbers.{Numbers}
use Rattle.hb_base.specs.NodeSet.{is_in}
use Rattle.merkle_branch.specs.declared.Branch.{Branch}
use Rattle.hb_wire.specs.declared.vote.Vote.{Vote}
use Rattle.hb_wire.specs.declared.vote.Vote.TheVariants.{Echo, Propose}
use Rattle.hb_wire.specs.declared.post.Post.{Post}
use Rattle.hb_rules.specs.Claims.{is_any_echo, is_any_proposal}
use Rattle.hb_rules.specs.Hearing.{Hearing, own_in}
use Rattle.hb_rules.specs.Rules.{MayCast}
use Rattle.hb_rules.specs.History.{IsLegal}
use Rattle.hb_rules.proofs.Once.{IsOnce, cast_once}

pub echo-once : (c : Numbers) (e : ℕ) → IsOnce c (is_any_echo e)
echo-once c e = record { first = first }
  where
    first : (i x : ℕ) (own : List Vote) (heard : List Hearing) (vote : Vote) → is_any_echo e vote ≡ true → MayCast c i x own heard vote
        → list_any (is_any_echo e) own ≡ false
    first i x own heard (Echo d root shard branch) marked (inl may) =
        ap (λ (k : ℕ). list_any (is_any_echo k) own) (sym (eqb-true d e marked)) ∙ may.1.2
    first i x own heard (Echo d root shard branch) marked (inr may) = absurd may.1
    first i x own heard vote marked may = absurd (cc (marked))

proposal_epoch : (d e : ℕ) (value : List ℕ) → is_any_proposal e (Propose d value) ≡ true → d ≡ e
proposal_epoch d e value marked = by (d == e) refl marked
  where
    by : (b : Bool) → (d == e) ≡ b → is_some (if b then Some value else None) ≡ true → d ≡ e
    by true same h = eqb-true d e same
    by false same h = absurd (cc (h))

proposal_marked : (e : ℕ) (value : List ℕ) → is_any_proposal e (Propose e value) ≡ true
proposal_marked e value = let same : (e == e) ≡ true = eq-eqb e e refl in rw same refl

pub proposal-once : (c : Numbers) (e : ℕ) → IsOnce c (is_any_proposal e)
proposal-once c e = record { first = first }
  where
    first : (i x : ℕ) (own : List Vote) (heard : List Hearing) (vote : Vote) → is_any_proposal e vote ≡ true → MayCast c i x own heard vote
        → list_any (is_any_proposal e) own ≡ false
    first i x own heard (Propose d value) marked (inl may) = absurd may.1
    first i x own heard (Propose d value) marked (inr may) =
        ap (λ (k : ℕ). list_any (is_any_proposal k) own) (sym (proposal_epoch d e value marked)) ∙ may.1.2
    first i x own heard vote marked may = absurd (cc (marked))

-- a correct lane echoes one root in an epoch
pub one_echo : (c : Numbers) (i x e : ℕ) → is_in c.liars i ≡ false → (history : List Post) → IsLegal c history
    → (root other shard piece : List ℕ) (branch path : Branch) → Contains (own_in c i x history) (Echo e root shard branch)
    → Contains (own_in c i x history) (Echo e other piece path) → root ≡ other
one_echo c i x e correct history legal root other shard piece branch path first second =
    let same : Echo e root shard branch ≡ Echo e other piece path =
    cast_once c (is_any_echo e) (echo-once c e) i x correct history legal (Echo e root shard branch) (Echo e other piece path) first second
    (eq-eqb e e refl) (eq-eqb e e refl) in
    cc (same)

-- a correct actor proposes one value for an epoch
pub one_proposal : (c : Numbers) (i x e : ℕ) → is_in c.liars i ≡ false → (history : List Post) → IsLegal c history → (value other : List ℕ)
    → Contains (own_in c i x history) (Propose e value) → Contains (own_in c i x history) (Propose e other) → value ≡ other
one_proposal c i x e correct history legal value other first second =
    let same : Propose e value ≡ Propose e other =
    cast_once c (is_any_proposal e) (proposal-once c e) i x correct history legal (Propose e value) (Propose e other) first second
    (proposal_marked e value) (proposal_marked e other) in
    cc (same)
