-- Marking a vote.
use Rattle.std.proofs.Common.{◌≡◌, ℕ, ◌<◌, ◌≤◌, Bool, true, false, ◌&&◌, ◌||◌, ◌==◌, inl, inr, List, length, slice_set, Option, None, Some, is_some, if◌then◌else◌, refl, sym, ap, ◌∙◌, subst, arith}
use Rattle.std.proofs.lemmas.Bool.{eq-eqb, cases_eq, ne_eqb}
use Rattle.hb_wire.specs.declared.vote.Vals.{Vals}
use Rattle.hb_wire.specs.declared.vote.Vals.TheVariants.{Zero, One, Both}
use Rattle.hb_wire.specs.declared.vote.Vote.{Vote}
use Rattle.hb_wire.specs.declared.vote.Vote.TheVariants.{Est, Bval, Aux, Conf, Pick, Coin, Delivered, Decided}
use Rattle.hb_wire.specs.Votes.{epoch_of}
use Rattle.hb_rules.specs.Claims.{same_bit, is_bit}
use Rattle.hb_rules.specs.Hearing.{round_of}
use Rattle.hb_rules.specs.Marks.{same_vals, Mark, delivery, est, any_est, bval, any_aux, any_conf, pick, any_pick, any_coin, decision, any_decision, bears}
use Rattle.aba_core.specs.declared.bits.Bits.{Bits}
use Rattle.aba_core.specs.declared.marks.Marks.{Marks}
use Rattle.aba_core.specs.declared.round.Round.{Round}
use Rattle.aba_core.specs.Bits.{holds, with_bit}
use Rattle.aba_core.specs.Marks.{is_marked, with_vote}
use Rattle.aba_core.specs.State.{AbaView, round_in, mark_round, mark_at}
use Rattle.aba_core.specs.Noting.{IsOfRound, IsOf}
use Rattle.aba_core.specs.Passing.{Casts}
use Rattle.aba_core.proofs.Replacing.{round-same, round-other}

-- ---- one vote of a round

or_true : (b : Bool) → (b || true) ≡ true
or_true true = refl
or_true false = refl

holds-with : (bits : Bits) (b c : Bool) → holds (with_bit bits b) c ≡ (same_bit b c || holds bits c)
holds-with bits true true = refl
holds-with bits true false = refl
holds-with bits false true = refl
holds-with bits false false = refl

any-with : (bits : Bits) (b : Bool) → ((with_bit bits b).zero || (with_bit bits b).one) ≡ true
any-with bits true = or_true bits.zero
any-with bits false = refl

-- a mark of a round
abbrev pub is_in_round : Mark → Bool
is_in_round delivery = false
is_in_round (decision b) = false
is_in_round any_decision = false
is_in_round _ = true

some_is : (s r : ℕ) → Some s ≡ Some r → s ≡ r
some_is s r h = cc

here : (d e s r : ℕ) (b : Bool) → d ≡ e → s ≡ r → ((d == e) && ((s == r) && b)) ≡ b
here d e s r b epoch round = rw (eq-eqb d e epoch, eq-eqb s r round) refl

here_any : (d e s r : ℕ) → d ≡ e → s ≡ r → ((d == e) && (s == r)) ≡ true
here_any d e s r epoch round = rw (eq-eqb d e epoch, eq-eqb s r round) refl

-- marks with the same picks
same_picks : (m n : Marks) (t : ℕ) (set : Vals) → n.picks ≡ m.picks → n.pick_both ≡ m.pick_both → is_marked n (pick t set) ≡ is_marked m (pick t set)
same_picks m n t Zero picks both = ap (λ (bits : Bits). bits.zero) picks
same_picks m n t One picks both = ap (λ (bits : Bits). bits.one) picks
same_picks m n t Both picks both = both

pub marked : (e r : ℕ) (vote : Vote) (m : Marks) (mark : Mark) → IsOf e r vote → is_in_round mark ≡ true → mark_round mark ≡ r
    → is_marked (with_vote m vote) mark ≡ (bears e mark vote || is_marked m mark)
marked e r vote m delivery is kind at = absurd (cc (kind))
marked e r vote m (decision c) is kind at = absurd (cc (kind))
marked e r vote m any_decision is kind at = absurd (cc (kind))
marked e r (Est d s b) m (est t c) is kind at =
    holds-with m.ests b c ∙ ap (λ (x : Bool). x || holds m.ests c) (sym (here d e s t (same_bit b c) is.epoch (some_is s r is.round ∙ sym at)))
marked e r (Est d s b) m (any_est t) is kind at =
    any-with m.ests b ∙ ap (λ (x : Bool). x || (m.ests.zero || m.ests.one)) (sym (here_any d e s t is.epoch (some_is s r is.round ∙ sym at)))
marked e r (Est d s b) m (pick t set) is kind at = same_picks m (with_vote m (Est d s b)) t set refl refl
marked e r (Est d s b) m mark is kind at = refl
marked e r (Bval d s b) m (bval t c) is kind at =
    holds-with m.bvals b c ∙ ap (λ (x : Bool). x || holds m.bvals c) (sym (here d e s t (same_bit b c) is.epoch (some_is s r is.round ∙ sym at)))
marked e r (Bval d s b) m (pick t set) is kind at = same_picks m (with_vote m (Bval d s b)) t set refl refl
marked e r (Bval d s b) m mark is kind at = refl
marked e r (Aux d s b) m (any_aux t) is kind at = ap (λ (x : Bool). x || m.aux) (sym (here_any d e s t is.epoch (some_is s r is.round ∙ sym at)))
marked e r (Aux d s b) m (pick t set) is kind at = same_picks m (with_vote m (Aux d s b)) t set refl refl
marked e r (Aux d s b) m mark is kind at = refl
marked e r (Conf d s vals) m (any_conf t) is kind at = ap (λ (x : Bool). x || m.conf) (sym (here_any d e s t is.epoch (some_is s r is.round ∙ sym at)))
marked e r (Conf d s vals) m (pick t set) is kind at = same_picks m (with_vote m (Conf d s vals)) t set refl refl
marked e r (Conf d s vals) m mark is kind at = refl
marked e r (Coin d s share salt branch) m (any_coin t) is kind at =
    ap (λ (x : Bool). x || m.coin) (sym (here_any d e s t is.epoch (some_is s r is.round ∙ sym at)))
marked e r (Coin d s share salt branch) m (pick t set) is kind at = same_picks m (with_vote m (Coin d s share salt branch)) t set refl refl
marked e r (Coin d s share salt branch) m mark is kind at = refl
marked e r (Pick d s vals) m mark is kind at = picked vals mark is kind at
  where
    set : (vals : Vals) (t : ℕ) (other : Vals) (b : Bool) → epoch_of (Pick d s vals) ≡ e → s ≡ t
        → ((bears e (pick t other) (Pick d s vals)) || b) ≡ (same_vals vals other || b)
    set vals t other b epoch round = ap (λ (x : Bool). x || b) (here d e s t (same_vals vals other) epoch round)

    any : (t : ℕ) (b : Bool) → d ≡ e → s ≡ t → ((bears e (any_pick t) (Pick d s vals)) || b) ≡ true
    any t b epoch round = ap (λ (x : Bool). x || b) (here_any d e s t epoch round)

    at_end : (a b : Bool) → ((a || b) || true) ≡ true
    at_end a b = or_true (a || b)

    at_mid : (a c : Bool) → ((a || true) || c) ≡ true
    at_mid a c = ap (λ (x : Bool). x || c) (or_true a)

    picked : (vals : Vals) (mark : Mark) → IsOf e r (Pick d s vals) → is_in_round mark ≡ true → mark_round mark ≡ r
        → is_marked (with_vote m (Pick d s vals)) mark ≡ (bears e mark (Pick d s vals) || is_marked m mark)
    picked vals delivery is kind at = absurd (cc (kind))
    picked vals (decision c) is kind at = absurd (cc (kind))
    picked vals any_decision is kind at = absurd (cc (kind))
    picked Zero (pick t Zero) is kind at = sym (set Zero t Zero m.picks.zero is.epoch (some_is s r is.round ∙ sym at))
    picked Zero (pick t One) is kind at = sym (set Zero t One m.picks.one is.epoch (some_is s r is.round ∙ sym at))
    picked Zero (pick t Both) is kind at = sym (set Zero t Both m.pick_both is.epoch (some_is s r is.round ∙ sym at))
    picked One (pick t Zero) is kind at = sym (set One t Zero m.picks.zero is.epoch (some_is s r is.round ∙ sym at))
    picked One (pick t One) is kind at = sym (set One t One m.picks.one is.epoch (some_is s r is.round ∙ sym at))
    picked One (pick t Both) is kind at = sym (set One t Both m.pick_both is.epoch (some_is s r is.round ∙ sym at))
    picked Both (pick t Zero) is kind at = sym (set Both t Zero m.picks.zero is.epoch (some_is s r is.round ∙ sym at))
    picked Both (pick t One) is kind at = sym (set Both t One m.picks.one is.epoch (some_is s r is.round ∙ sym at))
    picked Both (pick t Both) is kind at = sym (set Both t Both m.pick_both is.epoch (some_is s r is.round ∙ sym at))
    picked Zero (any_pick t) is kind at = sym (ap (λ (x : Bool). x || ((m.picks.zero || m.picks.one) || m.pick_both)) (here_any d e s t is.epoch (some_is s r is.round ∙ sym at)))
    picked One (any_pick t) is kind at =
        at_mid m.picks.zero m.pick_both
        ∙ sym (ap (λ (x : Bool). x || ((m.picks.zero || m.picks.one) || m.pick_both)) (here_any d e s t is.epoch (some_is s r is.round ∙ sym at)))
    picked Both (any_pick t) is kind at =
        at_end m.picks.zero m.picks.one
        ∙ sym (ap (λ (x : Bool). x || ((m.picks.zero || m.picks.one) || m.pick_both)) (here_any d e s t is.epoch (some_is s r is.round ∙ sym at)))
    picked Zero mark is kind at = refl
    picked One mark is kind at = refl
    picked Both mark is kind at = refl
marked e r vote m mark is kind at = absurd (cc (is.round))

-- ---- what a vote does not bear

ne_first : (d e : ℕ) (b : Bool) → (d ≡ e → ⊥) → ((d == e) && b) ≡ false
ne_first d e b apart = ap (λ (t : Bool). t && b) (ne_eqb d e apart)

no_some : {A : Type 0} (d e : ℕ) (x : A) → (d ≡ e → ⊥) → (if d == e then Some x else None) ≡ None
no_some d e x apart = let no : (d == e) ≡ false = ne_eqb d e apart in rw no refl

-- of another epoch it bears nothing
pub bears_epoch : (e : ℕ) (mark : Mark) (vote : Vote) → (epoch_of vote ≡ e → ⊥) → bears e mark vote ≡ false
bears_epoch e delivery (Delivered d value) apart = ap (λ (o : Option (List ℕ)). is_some o) (no_some d e value apart)
bears_epoch e (decision b) (Decided d bit) apart = ap (λ (o : Option Bool). is_bit b o) (no_some d e bit apart)
bears_epoch e any_decision (Decided d bit) apart = ap (λ (o : Option Bool). is_some o) (no_some d e bit apart)
bears_epoch e (est t c) (Est d s b) apart = ne_first d e _ apart
bears_epoch e (any_est t) (Est d s b) apart = ne_first d e _ apart
bears_epoch e (bval t c) (Bval d s b) apart = ne_first d e _ apart
bears_epoch e (any_aux t) (Aux d s b) apart = ne_first d e _ apart
bears_epoch e (any_conf t) (Conf d s vals) apart = ne_first d e _ apart
bears_epoch e (pick t set) (Pick d s vals) apart = ne_first d e _ apart
bears_epoch e (any_pick t) (Pick d s vals) apart = ne_first d e _ apart
bears_epoch e (any_coin t) (Coin d s share salt branch) apart = ne_first d e _ apart
bears_epoch e mark vote apart = refl

ne_mid : (d e s r : ℕ) (b : Bool) → (s ≡ r → ⊥) → ((d == e) && ((s == r) && b)) ≡ false
ne_mid d e s r b apart = by (d == e)
  where
    by : (t : Bool) → (t && ((s == r) && b)) ≡ false
    by true = ne_first s r b apart
    by false = refl

ne_last : (d e s r : ℕ) → (s ≡ r → ⊥) → ((d == e) && (s == r)) ≡ false
ne_last d e s r apart = by (d == e)
  where
    by : (t : Bool) → (t && (s == r)) ≡ false
    by true = ne_eqb s r apart
    by false = refl

-- of another round it bears no mark of this one
pub bears_round : (e r : ℕ) (mark : Mark) (vote : Vote) → round_of vote ≡ Some r → is_in_round mark ≡ true → (mark_round mark ≡ r → ⊥) → bears e mark vote ≡ false
bears_round e r delivery vote is kind apart = absurd (cc (kind))
bears_round e r (decision b) vote is kind apart = absurd (cc (kind))
bears_round e r any_decision vote is kind apart = absurd (cc (kind))
bears_round e r (est t c) (Est d s b) is kind apart = ne_mid d e s t (same_bit b c) (λ h. apart (sym h ∙ some_is s r is))
bears_round e r (any_est t) (Est d s b) is kind apart = ne_last d e s t (λ h. apart (sym h ∙ some_is s r is))
bears_round e r (bval t c) (Bval d s b) is kind apart = ne_mid d e s t (same_bit b c) (λ h. apart (sym h ∙ some_is s r is))
bears_round e r (any_aux t) (Aux d s b) is kind apart = ne_last d e s t (λ h. apart (sym h ∙ some_is s r is))
bears_round e r (any_conf t) (Conf d s vals) is kind apart = ne_last d e s t (λ h. apart (sym h ∙ some_is s r is))
bears_round e r (pick t set) (Pick d s vals) is kind apart = ne_mid d e s t (same_vals vals set) (λ h. apart (sym h ∙ some_is s r is))
bears_round e r (any_pick t) (Pick d s vals) is kind apart = ne_last d e s t (λ h. apart (sym h ∙ some_is s r is))
bears_round e r (any_coin t) (Coin d s share salt branch) is kind apart = ne_last d e s t (λ h. apart (sym h ∙ some_is s r is))
bears_round e r mark vote is kind apart = refl

-- a vote of no round bears no mark of a round
pub bears_roundless : (e : ℕ) (mark : Mark) (vote : Vote) → round_of vote ≡ None → is_in_round mark ≡ true → bears e mark vote ≡ false
bears_roundless e delivery vote is kind = absurd (cc (kind))
bears_roundless e (decision b) vote is kind = absurd (cc (kind))
bears_roundless e any_decision vote is kind = absurd (cc (kind))
bears_roundless e (est t c) (Est d s b) is kind = absurd (cc (is))
bears_roundless e (any_est t) (Est d s b) is kind = absurd (cc (is))
bears_roundless e (bval t c) (Bval d s b) is kind = absurd (cc (is))
bears_roundless e (any_aux t) (Aux d s b) is kind = absurd (cc (is))
bears_roundless e (any_conf t) (Conf d s vals) is kind = absurd (cc (is))
bears_roundless e (pick t set) (Pick d s vals) is kind = absurd (cc (is))
bears_roundless e (any_pick t) (Pick d s vals) is kind = absurd (cc (is))
bears_roundless e (any_coin t) (Coin d s share salt branch) is kind = absurd (cc (is))
bears_roundless e mark vote is kind = refl

-- a vote that is no delivery and no decision bears none of their marks
pub bears_apart : (e : ℕ) (mark : Mark) (vote : Vote) → IsOfRound vote → is_in_round mark ≡ false → bears e mark vote ≡ false
bears_apart e delivery (Delivered d value) is kind = absurd is
bears_apart e delivery vote is kind = refl
bears_apart e (decision b) (Decided d bit) is kind = absurd is
bears_apart e (decision b) vote is kind = refl
bears_apart e any_decision (Decided d bit) is kind = absurd is
bears_apart e any_decision vote is kind = refl
bears_apart e mark vote is kind = absurd (cc (kind))

-- ---- marking

not_borne : (a : AbaView) (vote : Vote) → ((mark : Mark) → mark_round mark < a.config.rounds → bears a.epoch mark vote ≡ false) → Casts a a vote
not_borne a vote none = record {
  place = refl;
  marks = λ mark below. ap (λ (b : Bool). b || mark_at a mark) (sym (none mark below));
  rounds = λ r. refl;
  no_more = refl;
}

pub Casts-foreign : (a : AbaView) (vote : Vote) → (epoch_of vote ≡ a.epoch → ⊥) → Casts a a vote
Casts-foreign a vote apart = not_borne a vote (λ mark below. bears_epoch a.epoch mark vote apart)

-- a round that the run does not have
pub Casts-past : (a : AbaView) (vote : Vote) (r : ℕ) → round_of vote ≡ Some r → a.config.rounds ≤ r → IsOfRound vote → Casts a a vote
Casts-past a vote r is past kind = not_borne a vote (λ mark below. by mark below (is_in_round mark) refl)
  where
    by : (mark : Mark) → mark_round mark < a.config.rounds → (b : Bool) → is_in_round mark ≡ b → bears a.epoch mark vote ≡ false
    by mark below true inside = bears_round a.epoch r mark vote is inside (λ h. omega (arith, below, h, past))
    by mark below false outside = bears_apart a.epoch mark vote kind outside

pub Casts-roundless : (a : AbaView) (vote : Vote) → round_of vote ≡ None → IsOfRound vote → Casts a a vote
Casts-roundless a vote is kind = not_borne a vote (λ mark below. by mark (is_in_round mark) refl)
  where
    by : (mark : Mark) (b : Bool) → is_in_round mark ≡ b → bears a.epoch mark vote ≡ false
    by mark true inside = bears_roundless a.epoch mark vote is inside
    by mark false outside = bears_apart a.epoch mark vote kind outside

pub Casts-delivered : (a : AbaView) (value : List ℕ) → Casts a (record a { is_delivered = true }) (Delivered a.epoch value)
Casts-delivered a value = record { place = refl; marks = λ mark below. by mark; rounds = λ r. refl; no_more = refl }
  where
    by : (mark : Mark) → mark_at (record a { is_delivered = true }) mark ≡ (bears a.epoch mark (Delivered a.epoch value) || mark_at a mark)
    by delivery = rw (eq-eqb a.epoch a.epoch refl) refl
    by (decision b) = refl
    by any_decision = refl
    by mark = refl

pub Casts-decided : (a : AbaView) (bit : Bool) → Casts a (record a { decisions = with_bit a.decisions bit }) (Decided a.epoch bit)
Casts-decided a bit = record { place = refl; marks = λ mark below. by mark; rounds = λ r. refl; no_more = refl }
  where
    turned : (b c : Bool) → same_bit b c ≡ same_bit c b
    turned true true = refl
    turned true false = refl
    turned false true = refl
    turned false false = refl

    by : (mark : Mark) → mark_at (record a { decisions = with_bit a.decisions bit }) mark ≡ (bears a.epoch mark (Decided a.epoch bit) || mark_at a mark)
    by (decision b) =
        rw (eq-eqb a.epoch a.epoch refl) (holds-with a.decisions bit b ∙ ap (λ (t : Bool). t || holds a.decisions b) (turned bit b))
    by any_decision = rw (eq-eqb a.epoch a.epoch refl) (any-with a.decisions bit)
    by delivery = refl
    by mark = refl

-- a mark of a round is that of the round's own marks
at_round : (a : AbaView) (mark : Mark) → is_in_round mark ≡ true → mark_at a mark ≡ is_marked (round_in a (mark_round mark)).marks mark
at_round a delivery kind = absurd (cc (kind))
at_round a (decision b) kind = absurd (cc (kind))
at_round a any_decision kind = absurd (cc (kind))
at_round a mark kind = refl

-- a vote of a round is marked there
pub Casts-round : (a : AbaView) (vote : Vote) (r top : ℕ) → IsOf a.epoch r vote → IsOfRound vote → r < a.config.rounds → length a.rounds ≡ a.config.rounds
    → Casts a (record a { rounds = slice_set a.rounds r (record (round_in a r) { marks = with_vote (round_in a r).marks vote }); top = top }) vote
Casts-round a vote r top is kind inside count = record {
  place = refl;
  marks = λ mark below. by mark (is_in_round mark) refl;
  rounds = λ s. rest s;
  no_more = refl;
}
  where
    x : Round
    x = record (round_in a r) { marks = with_vote (round_in a r).marks vote }

    new : AbaView
    new = record a { rounds = slice_set a.rounds r x; top = top }

    here_is : round_in new r ≡ x
    here_is = round-same a.rounds r x (omega (arith, inside, count))

    outside_same : (mark : Mark) → is_in_round mark ≡ false → mark_at new mark ≡ mark_at a mark
    outside_same delivery kind = refl
    outside_same (decision b) kind = refl
    outside_same any_decision kind = refl
    outside_same mark kind = absurd (cc (kind))

    by : (mark : Mark) (b : Bool) → is_in_round mark ≡ b → mark_at new mark ≡ (bears a.epoch mark vote || mark_at a mark)
    by mark false outside =
        outside_same mark outside ∙ ap (λ (b : Bool). b || mark_at a mark) (sym (bears_apart a.epoch mark vote kind outside))
    by mark true in_round = elim (cases_eq (mark_round mark) r) [
      | inl same ↦
          at_round new mark in_round ∙ ap (λ (s : ℕ). is_marked (round_in new s).marks mark) same ∙ ap (λ (y : Round). is_marked y.marks mark) here_is
          ∙ marked a.epoch r vote (round_in a r).marks mark is in_round same
          ∙ ap (λ (b : Bool). bears a.epoch mark vote || b)
          (ap (λ (s : ℕ). is_marked (round_in a s).marks mark) (sym same) ∙ sym (at_round a mark in_round))
      | inr apart ↦
          at_round new mark in_round ∙ ap (λ (y : Round). is_marked y.marks mark) (round-other a.rounds r (mark_round mark) x apart) ∙ sym (at_round a mark in_round)
          ∙ ap (λ (b : Bool). b || mark_at a mark) (sym (bears_round a.epoch r mark vote is.round in_round apart))
    ]

    rest : (s : ℕ) → round_in new s ≡ record (round_in a s) { marks = (round_in new s).marks }
    rest s = elim (cases_eq s r) [
      | inl same ↦
          subst (λ (k : ℕ). round_in new k ≡ record (round_in a k) { marks = (round_in new k).marks }) (sym same)
          (subst (λ (y : Round). y ≡ record (round_in a r) { marks = y.marks }) (sym here_is) refl)
      | inr apart ↦ subst (λ (y : Round). y ≡ record (round_in a s) { marks = y.marks }) (sym (round-other a.rounds r s x apart)) refl
    ]
