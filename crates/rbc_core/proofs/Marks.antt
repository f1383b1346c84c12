-- The marks of a vote that was cast.
use Rattle.std.proofs.Common.{◌≡◌, ℕ, Bool, true, false, ◌&&◌, ◌||◌, ◌==◌, List, Some, refl, sym, ap, ◌∙◌}
use Rattle.std.specs.Option.{option_or}
use Rattle.std.proofs.lemmas.Bool.{eqb-true, eq-eqb, false_from_ne_true}
use Rattle.hb_base.specs.NodeSet.{is_in}
use Rattle.hb_wire.specs.declared.vote.Vote.{Vote}
use Rattle.hb_wire.specs.declared.vote.Vote.TheVariants.{Val, Echo, Ready, Delivered}
use Rattle.hb_wire.specs.Votes.{epoch_of}
use Rattle.merkle_branch.specs.declared.Branch.{Branch}
use Rattle.rbc_core.specs.Broadcast.{RbcView, Marks}
use Rattle.rbc_core.proofs.Standing.{stays, option_stays}

or_true : (b : Bool) → true ≡ (b || true)
or_true true = refl
or_true false = refl

swap : (a b : Bool) → (a || b) ≡ (b || a)
swap true true = refl
swap true false = refl
swap false true = refl
swap false false = refl

-- equal numbers, from either side
eqb-swap : (a b : ℕ) → (a == b) ≡ (b == a)
eqb-swap a b = by (a == b) refl
  where
    by : (c : Bool) → (a == b) ≡ c → c ≡ (b == a)
    by true same = sym (eq-eqb b a (sym (eqb-true a b same)))
    by false apart = sym (false_from_ne_true (b == a) (λ e. absurd (cc (apart, eq-eqb a b (sym (eqb-true b a e))))))

pub marks_val : (r : RbcView) (vals : List Bool) (d m : ℕ) (root shard : List ℕ) (branch : Branch) → d ≡ r.epoch
    → ((other : ℕ) → is_in vals other ≡ ((other == m) || is_in r.vals other)) → Marks r (record r { vals = vals }) (Val d m root shard branch)
marks_val r vals d m root shard branch same adds = record {
  same = refl;
  vals = λ other.
      adds other ∙ swap (other == m) (is_in r.vals other)
      ∙ ap (λ (b : Bool). is_in r.vals other || b) (eqb-swap other m ∙ ap (λ (b : Bool). b && (m == other)) (sym (eq-eqb d r.epoch same)));
  echo = stays r.is_echo_cast;
  ready = stays r.is_ready_cast;
  delivered = option_stays r.delivered;
}

pub marks_echo : (r : RbcView) (d : ℕ) (root shard : List ℕ) (branch : Branch) → d ≡ r.epoch → Marks r (record r { is_echo_cast = true }) (Echo d root shard branch)
marks_echo r d root shard branch same = record {
  same = refl;
  vals = λ other. stays (is_in r.vals other);
  echo = rw (eq-eqb d r.epoch same) (or_true r.is_echo_cast);
  ready = stays r.is_ready_cast;
  delivered = option_stays r.delivered;
}

pub marks_ready : (r : RbcView) (d : ℕ) (root : List ℕ) → d ≡ r.epoch → Marks r (record r { is_ready_cast = true }) (Ready d root)
marks_ready r d root same = record {
  same = refl;
  vals = λ other. stays (is_in r.vals other);
  echo = stays r.is_echo_cast;
  ready = rw (eq-eqb d r.epoch same) (or_true r.is_ready_cast);
  delivered = option_stays r.delivered;
}

pub marks_delivered : (r : RbcView) (d : ℕ) (value : List ℕ) → d ≡ r.epoch
    → Marks r (record r { delivered = option_or r.delivered (Some value) }) (Delivered d value)
marks_delivered r d value same = record {
  same = refl;
  vals = λ other. stays (is_in r.vals other);
  echo = stays r.is_echo_cast;
  ready = stays r.is_ready_cast;
  delivered = rw (eq-eqb d r.epoch same) refl;
}

-- a vote of another epoch marks nothing
pub marks_other : (r : RbcView) (vote : Vote) → (epoch_of vote ≡ r.epoch → ⊥) → Marks r r vote
marks_other r (Val d m root shard branch) apart = record {
  same = refl;
  vals = λ other. rw (false_from_ne_true (d == r.epoch) (λ e. apart (eqb-true d r.epoch e))) (stays (is_in r.vals other));
  echo = stays r.is_echo_cast;
  ready = stays r.is_ready_cast;
  delivered = option_stays r.delivered;
}
marks_other r (Echo d root shard branch) apart = record {
  same = refl;
  vals = λ other. stays (is_in r.vals other);
  echo = rw (false_from_ne_true (d == r.epoch) (λ e. apart (eqb-true d r.epoch e))) (stays r.is_echo_cast);
  ready = stays r.is_ready_cast;
  delivered = option_stays r.delivered;
}
marks_other r (Ready d root) apart = record {
  same = refl;
  vals = λ other. stays (is_in r.vals other);
  echo = stays r.is_echo_cast;
  ready = rw (false_from_ne_true (d == r.epoch) (λ e. apart (eqb-true d r.epoch e))) (stays r.is_ready_cast);
  delivered = option_stays r.delivered;
}
marks_other r (Delivered d value) apart = record {
  same = refl;
  vals = λ other. stays (is_in r.vals other);
  echo = stays r.is_echo_cast;
  ready = stays r.is_ready_cast;
  delivered = rw (false_from_ne_true (d == r.epoch) (λ e. apart (eqb-true d r.epoch e))) (option_stays r.delivered);
}
marks_other r vote apart = record {
  same = refl;
  vals = λ other. stays (is_in r.vals other);
  echo = stays r.is_echo_cast;
  ready = stays r.is_ready_cast;
  delivered = option_stays r.delivered;
}

-- votes that are marked
abbrev pub is_marked_kind : Vote → Bool
is_marked_kind (Val e m root shard branch) = true
is_marked_kind (Echo e root shard branch) = true
is_marked_kind (Ready e root) = true
is_marked_kind (Delivered e value) = true
is_marked_kind _ = false

-- votes of other kinds mark nothing
pub marks_kind : (r : RbcView) (vote : Vote) → is_marked_kind vote ≡ false → Marks r r vote
marks_kind r (Val e m root shard branch) other = absurd (cc (other))
marks_kind r (Echo e root shard branch) other = absurd (cc (other))
marks_kind r (Ready e root) other = absurd (cc (other))
marks_kind r (Delivered e value) other = absurd (cc (other))
marks_kind r vote other = record {
  same = refl;
  vals = λ m. stays (is_in r.vals m);
  echo = stays r.is_echo_cast;
  ready = stays r.is_ready_cast;
  delivered = option_stays r.delivered;
}
