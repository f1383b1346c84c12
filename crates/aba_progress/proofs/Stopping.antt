-- From one round of an agreement to the next in a calm run: all running nodes go on, or one stops, and then all have decided.
use Rattle.std.proofs.Common.{◌≡◌, ℕ, zero, suc, ◌+◌, ◌-◌, ◌<◌, ◌⊎◌, ◌&&◌, Bool, true, false, inl, inr, Contains, Option, None, Some, if◌then◌else◌, refl, sym, subst, arith}
use Rattle.std.specs.List.{range_with_len}
use Rattle.std.proofs.lemmas.Bool.{and_parts, cases_Bool}
use Rattle.std.proofs.lemmas.List.FromFn.{length-range_with_len, get_or-range_with_len}
use Rattle.coin_deal.specs.Deal.{dealt_coin}
use Rattle.hb_wire.specs.declared.vote.Vals.{Vals}
use Rattle.hb_wire.specs.declared.vote.Vals.TheVariants.{Zero, One, Both}
use Rattle.hb_wire.specs.declared.vote.Vote.TheVariants.{Pick}
use Rattle.hb_rules.specs.AgreementRows.{View, was_settled, next_bit, stops}
use Rattle.hb_rules.specs.Claims.{is_bit}
use Rattle.hb_rules.specs.Ledger.{IsCorrect}
use Rattle.hb_rules.specs.Marks.{single, any_est, pick, any_pick, decision, any_decision, bears}
use Rattle.hb_rules.proofs.Among.{any_stands}
use Rattle.aba_world.proofs.Votes.{pick-is, found_vote}
use Rattle.aba_world.proofs.Stood.{pick_supported}
use Rattle.aba_world.proofs.Rounds.{IsLocked, locked_from, locked_later, supported_estimate}
use Rattle.aba_progress.proofs.Running.{QuietAgreement, own, view, cast, EachCast, each_or}
use Rattle.aba_progress.proofs.Filled.{shows_share, goes_on, decides}
use Rattle.aba_progress.proofs.Marked.{only_bit, HasVote, has_vote, any_pick-is, pick-cast}
use Rattle.aba_progress.proofs.Rounds.{all_pick}
use Rattle.aba_progress.proofs.Coins.{coin_is, coin_known}

-- ---- what is picked

has_pick : (q : QuietAgreement) (i r : ℕ) → cast q (any_pick r) i ≡ true → HasVote (Pick q.e r) (own q i)
has_pick q i r h = has_vote (bears q.e (any_pick r)) (Pick q.e r) (own q i) (any_pick-is q.e r) h

-- with what is picked there is a bit to go on with
next_known : (v : View) (r : ℕ) (coin : Bool) (vals : Vals) → v.cast (pick r vals) ≡ true → (b : Bool) × (next_bit v r coin ≡ Some b)
next_known v r coin vals h = by (v.cast (pick r Zero)) (v.cast (pick r One)) (v.cast (pick r Both)) refl refl refl
  where
    none : (vals : Vals) → v.cast (pick r vals) ≡ true → v.cast (pick r Zero) ≡ false → v.cast (pick r One) ≡ false → v.cast (pick r Both) ≡ false → ⊥
    none Zero h low high both = cc (h, low)
    none One h low high both = cc (h, high)
    none Both h low high both = cc (h, both)

    by : (low high both : Bool) → v.cast (pick r Zero) ≡ low → v.cast (pick r One) ≡ high → v.cast (pick r Both) ≡ both
        → (b : Bool) × ((if low then Some false else (if high then Some true else (if both then Some coin else None))) ≡ Some b)
    by true high both is_low is_high is_both = (false, refl)
    by false true both is_low is_high is_both = (true, refl)
    by false false true is_low is_high is_both = (coin, refl)
    by false false false is_low is_high is_both = absurd (none vals h is_low is_high is_both)

-- ---- a round before was settled

-- A round before was settled: a correct lane picked the bit alone in it, and its coin is the bit.
record WasSettled (q : QuietAgreement) (r : ℕ) (b : Bool) : Type 0 where
  round : ℕ
  before : round < r
  node : ℕ
  correct : IsCorrect q.c node
  picked : Contains (own q node) (Pick q.e round (single b))
  coin : dealt_coin q.c q.e q.j round ≡ b

-- who picks at all later picks the bit alone
picks_settled : (q : QuietAgreement) (r k : ℕ) (b : Bool) → WasSettled q r b → IsCorrect q.c k → cast q (any_pick r) k ≡ true
    → cast q (pick r (single b)) k ≡ true
picks_settled q r k b was correct h =
    let has = has_pick q k r h in
    let locked : IsLocked q.c q.history q.j q.e r b =
    locked_later q.c q.j q.e (suc was.round) r b q.history q.lane.sound q.lane.legal (omega (arith, was.before))
    (locked_from q.c q.j q.e was.round was.node b q.history q.lane.sound q.lane.legal q.lane.apart was.correct.honest was.picked was.coin) in
    let alone : has.what ≡ single b =
    only_bit b has.what (λ d among.
    locked.one d (supported_estimate q.c q.j q.e r d q.history q.lane.sound q.lane.legal
    (omega (arith, pick_supported q.c q.j q.e r k has.what d q.history q.lane.legal correct.honest has.stands among)))) in
    pick-cast q.e r (single b) (own q k) (subst (λ (vals : Vals). Contains (own q k) (Pick q.e r vals)) alone has.stands)

below_range : (r s : ℕ) → Contains (range_with_len 0 r) s → s < r
below_range r s stands =
    let below : stands.0 < r = omega (arith, stands.1, length-range_with_len 0 r) in
    omega (arith, below, get_or-range_with_len 0 r stands.0 s below, stands.2)

bit_known : (b : Bool) (o : Option Bool) → is_bit b o ≡ true → o ≡ Some b
bit_known b None h = absurd (cc (h))
bit_known true (Some true) h = refl
bit_known true (Some false) h = absurd (cc (h))
bit_known false (Some true) h = absurd (cc (h))
bit_known false (Some false) h = refl

-- where a lane stops, a round before was settled
settled_before : (q : QuietAgreement) (i r : ℕ) (coin : Bool) → q.runs i ≡ true → stops (view q i) r coin ≡ true → WasSettled q r coin
settled_before q i r coin runs stopped =
    let v = view q i in
    let parts = and_parts (v.cast (decision coin)) (was_settled v r coin) stopped in
    let settles : ℕ → Bool = λ s. v.cast (pick s (single coin)) && is_bit coin (v.coin s) in
    let found = any_stands settles (range_with_len 0 r) parts.1 in
    let both = and_parts (v.cast (pick found.0 (single coin))) (is_bit coin (v.coin found.0)) found.2 in
    record {
      round = found.0;
      before = below_range r found.0 found.1;
      node = i;
      correct = q.lane.correct i runs;
      picked =
          found_vote (own q i) (bears q.e (pick found.0 (single coin))) (Pick q.e found.0 (single coin)) (pick-is q.e found.0 (single coin)) both.0;
      coin = sym (coin_is q i found.0 coin runs (bit_known coin (v.coin found.0) both.1));
    }

-- ---- the next round

-- a running node enters the next round, or it has stopped and all have decided
next_or : (q : QuietAgreement) (r i : ℕ) → r + 1 < q.c.rounds → EachCast q (any_est r) → q.runs i ≡ true
    → (cast q (any_est (r + 1)) i ≡ true) ⊎ EachCast q any_decision
next_or q r i later entered runs = elim (cases_Bool (stops (view q i) r (dealt_coin q.c q.e q.j r))) [
  | inl stopped ↦ inr (λ k speaks.
      decides q k r (dealt_coin q.c q.e q.j r) speaks (omega (arith, later)) (known k speaks)
      (picks_settled q r k (dealt_coin q.c q.e q.j r) (settled_before q i r (dealt_coin q.c q.e q.j r) runs stopped) (q.lane.correct k speaks) (picked k speaks)))
  | inr stays ↦ inl (
      let has = has_pick q i r (picked i runs) in
      let next = next_known (view q i) r (dealt_coin q.c q.e q.j r) has.what (pick-cast q.e r has.what (own q i) has.stands) in
      goes_on q i r (dealt_coin q.c q.e q.j r) next.0 runs later (known i runs) stays next.1
      )
]
  where
    picked : EachCast q (any_pick r)
    picked = all_pick q r (omega (arith, later)) entered

    known : (k : ℕ) → q.runs k ≡ true → (view q k).coin r ≡ Some (dealt_coin q.c q.e q.j r)
    known k speaks =
        coin_known q k r (omega (arith, later)) (λ a shows. shows_share q a r shows (omega (arith, later)) (picked a shows)) speaks

-- all enter the next round, or all have decided
next_round : (q : QuietAgreement) (r : ℕ) → r + 1 < q.c.rounds → EachCast q (any_est r) → EachCast q (any_est (r + 1)) ⊎ EachCast q any_decision
next_round q r later entered =
    each_or q (λ i. cast q (any_est (r + 1)) i ≡ true) (EachCast q any_decision) (λ i runs. next_or q r i later entered runs)

-- where all have begun, all enter each round, or all have decided
reaches_round : (q : QuietAgreement) (r : ℕ) → r < q.c.rounds → EachCast q (any_est 0) → EachCast q (any_est r) ⊎ EachCast q any_decision
reaches_round q zero round begun = inl begun
reaches_round q (suc r) round begun = elim (reaches_round q r (omega arith) begun) [
  | inl entered ↦
      let next : r + 1 ≡ suc r = omega arith in
      subst (λ (s : ℕ). EachCast q (any_est s) ⊎ EachCast q any_decision) next (next_round q r (omega (arith, round)) entered)
  | inr decided ↦ inr decided
]

-- ---- the last round

-- a running node that has picked in the last round and decided nothing
pub record HasStalled (q : QuietAgreement) : Type 0 where
  pub node : ℕ
  pub runs : q.runs node ≡ true
  pub picked : cast q (any_pick (q.c.rounds - 1)) node ≡ true
  pub undecided : cast q any_decision node ≡ false

-- where all have begun, all have decided, or there is such a node
pub rounds_end : (q : QuietAgreement) → EachCast q (any_est 0) → EachCast q any_decision ⊎ HasStalled q
rounds_end q begun =
    let last : q.c.rounds - 1 < q.c.rounds = omega (arith, q.lane.sound.rounds.0) in
    elim (reaches_round q (q.c.rounds - 1) last begun) [
      | inl entered ↦
          each_or q (λ i. cast q any_decision i ≡ true) (HasStalled q) (λ i runs. elim (cases_Bool (cast q any_decision i)) [
            | inl decided ↦ inl decided
            | inr undecided ↦ inr (record {
              node = i;
              runs = runs;
              picked = all_pick q (q.c.rounds - 1) last entered i runs;
              undecided = undecided;
            })
          ])
      | inr decided ↦ inl decided
    ]
