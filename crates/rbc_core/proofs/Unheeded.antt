-- What a lane does not heed.
use Rattle.std.proofs.Common.{◌≡◌, ℕ, ◌<◌, Bool, true, false, ◌&&◌, ◌==◌, nat_lt, List, Option, None, Some, if◌then◌else◌, refl, ap}
use Rattle.std.specs.Option.{option_map, option_or}
use Rattle.std.proofs.lemmas.Bool.{eqb-true, and_parts}
use Rattle.hb_wire.specs.declared.vote.Vote.{Vote}
use Rattle.hb_wire.specs.declared.vote.Vote.TheVariants.{Val, Echo, Ready, Propose}
use Rattle.hb_wire.specs.Votes.{epoch_of}
use Rattle.merkle_branch.specs.declared.Branch.{Branch}
use Rattle.merkle_branch.specs.Branches.{is_branch}
use Rattle.hb_rules.specs.Hearing.{hearing}
use Rattle.rbc_core.specs.Broadcast.{RbcView, Hears}
use Rattle.rbc_core.proofs.Heard.{Hears-unheeded}
use Rattle.rbc_core.proofs.Votes.{none_either}

claim_of : {A : Type 0} (b c : Bool) (x : A) → (b ≡ true → c ≡ true → ⊥) → (if b then (if c then Some x else None) else None) ≡ None
claim_of true true x apart = absurd (apart refl refl)
claim_of true false x apart = refl
claim_of false c x apart = refl

claim_if : {A : Type 0} (b : Bool) (x : A) → (b ≡ true → ⊥) → (if b then Some x else None) ≡ None
claim_if true x apart = absurd (apart refl)
claim_if false x apart = refl

-- a proposal of another epoch or node, or at another lane than the sender's
pub unheeded_proposal : (r : RbcView) (from e : ℕ) (value : List ℕ) (due : List Vote) → from < r.roots.config.n
    → (e ≡ r.epoch → from ≡ r.node → r.node ≡ r.lane → ⊥) → Hears r r (hearing from (Propose e value)) due due
unheeded_proposal r from e value due below apart = Hears-unheeded r (hearing from (Propose e value)) due below (record {
  proposal = λ sender. claim_of (from == r.node) (e == r.epoch) value (λ at same. apart (eqb-true e r.epoch same) (eqb-true from r.node at) sender);
  echo = none_either (from == r.lane) None refl;
  named = refl;
})

-- a Val of another epoch, of another node than the sender, or for another node
pub unheeded_val : (r : RbcView) (from e m : ℕ) (root shard : List ℕ) (branch : Branch) (due : List Vote) → from < r.roots.config.n
    → (e ≡ r.epoch → from ≡ r.lane → m ≡ r.node → ⊥) → Hears r r (hearing from (Val e m root shard branch)) due due
unheeded_val r from e m root shard branch due below apart = Hears-unheeded r (hearing from (Val e m root shard branch)) due below (record {
  proposal = λ sender. none_either (from == r.node) None refl;
  echo =
      claim_of (from == r.lane) ((e == r.epoch) && ((m == r.node) && is_branch root r.roots.config.n r.node shard branch)) (Echo r.epoch root shard branch)
      (λ at same.
      let parts = and_parts (e == r.epoch) ((m == r.node) && is_branch root r.roots.config.n r.node shard branch) same in
      let others = and_parts (m == r.node) (is_branch root r.roots.config.n r.node shard branch) parts.1 in
      apart (eqb-true e r.epoch parts.0) (eqb-true from r.lane at) (eqb-true m r.node others.0));
  named = refl;
})

-- an Echo of another epoch, or whose branch is not valid
pub unheeded_echo : (r : RbcView) (from e : ℕ) (root shard : List ℕ) (branch : Branch) (due : List Vote) → from < r.roots.config.n
    → (e ≡ r.epoch → is_branch root r.roots.config.n from shard branch ≡ true → ⊥) → Hears r r (hearing from (Echo e root shard branch)) due due
unheeded_echo r from e root shard branch due below apart = Hears-unheeded r (hearing from (Echo e root shard branch)) due below (record {
  proposal = λ sender. none_either (from == r.node) None refl;
  echo = none_either (from == r.lane) None refl;
  named =
      ap (λ (o : Option (List ℕ × List ℕ)). option_or (option_map (λ part. part.0) o) None)
      (claim_if ((e == r.epoch) && (nat_lt from r.roots.config.n && is_branch root r.roots.config.n from shard branch)) (root, shard)
      (λ same.
      let parts = and_parts (e == r.epoch) (nat_lt from r.roots.config.n && is_branch root r.roots.config.n from shard branch) same in
      apart (eqb-true e r.epoch parts.0) (and_parts (nat_lt from r.roots.config.n) (is_branch root r.roots.config.n from shard branch) parts.1).1));
})

-- a Ready of another epoch
pub unheeded_ready : (r : RbcView) (from e : ℕ) (root : List ℕ) (due : List Vote) → from < r.roots.config.n → (e ≡ r.epoch → ⊥)
    → Hears r r (hearing from (Ready e root)) due due
unheeded_ready r from e root due below apart = Hears-unheeded r (hearing from (Ready e root)) due below (record {
  proposal = λ sender. none_either (from == r.node) None refl;
  echo = none_either (from == r.lane) None refl;
  named = claim_if (e == r.epoch) root (λ same. apart (eqb-true e r.epoch same));
})

-- a vote of another epoch
pub unheeded_epoch : (r : RbcView) (from : ℕ) (vote : Vote) (due : List Vote) → from < r.roots.config.n → (epoch_of vote ≡ r.epoch → ⊥)
    → Hears r r (hearing from vote) due due
unheeded_epoch r from (Propose e value) due below other = unheeded_proposal r from e value due below (λ same at sender. other same)
unheeded_epoch r from (Val e m root shard branch) due below other = unheeded_val r from e m root shard branch due below (λ same at target. other same)
unheeded_epoch r from (Echo e root shard branch) due below other = unheeded_echo r from e root shard branch due below (λ same valid. other same)
unheeded_epoch r from (Ready e root) due below other = unheeded_ready r from e root due below other
unheeded_epoch r from vote due below other = Hears-unheeded r (hearing from vote) due below (record {
  proposal = λ sender. none_either (from == r.node) None refl;
  echo = none_either (from == r.lane) None refl;
  named = refl;
})

-- votes that the broadcast hears
abbrev pub is_heard_kind : Vote → Bool
is_heard_kind (Val e m root shard branch) = true
is_heard_kind (Echo e root shard branch) = true
is_heard_kind (Ready e root) = true
is_heard_kind (Propose e value) = true
is_heard_kind _ = false

-- votes of other kinds
pub unheeded_kind : (r : RbcView) (from : ℕ) (vote : Vote) (due : List Vote) → from < r.roots.config.n → is_heard_kind vote ≡ false
    → Hears r r (hearing from vote) due due
unheeded_kind r from (Val e m root shard branch) due below other = absurd (cc (other))
unheeded_kind r from (Echo e root shard branch) due below other = absurd (cc (other))
unheeded_kind r from (Ready e root) due below other = absurd (cc (other))
unheeded_kind r from (Propose e value) due below other = absurd (cc (other))
unheeded_kind r from vote due below other = Hears-unheeded r (hearing from vote) due below (record {
  proposal = λ sender. none_either (from == r.node) None refl;
  echo = none_either (from == r.lane) None refl;
  named = refl;
})

-- a vote that is none of these
pub other_kind : (vote : Vote) → ((e m : ℕ) (root shard : List ℕ) (branch : Branch) → vote ≡ Val e m root shard branch → ⊥)
    → ((e : ℕ) (root shard : List ℕ) (branch : Branch) → vote ≡ Echo e root shard branch → ⊥) → ((e : ℕ) (root : List ℕ) → vote ≡ Ready e root → ⊥)
    → ((e : ℕ) (value : List ℕ) → vote ≡ Propose e value → ⊥) → is_heard_kind vote ≡ false
other_kind (Val e m root shard branch) no_val no_echo no_ready no_proposal = absurd (no_val e m root shard branch refl)
other_kind (Echo e root shard branch) no_val no_echo no_ready no_proposal = absurd (no_echo e root shard branch refl)
other_kind (Ready e root) no_val no_echo no_ready no_proposal = absurd (no_ready e root refl)
other_kind (Propose e value) no_val no_echo no_ready no_proposal = absurd (no_proposal e value refl)
other_kind vote no_val no_echo no_ready no_proposal = refl
