-- Each proposal of a correct desk has the value that the pool gives by all that the desk has cast, where its votes are proper
-- one after another: a proposal stands behind the closings of all epochs below it, and of each epoch one closing is cast.
use Rattle.std.proofs.Common.{◌≡◌, ◌⊎◌, ℕ, ◌<◌, Bool, true, false, not, ◌==◌, nat_lt, inl, inr, List, [], ◌∷◌, ◌++◌, Contains, take, refl, sym, ap, ◌∙◌, subst, append_assoc, append-nil, arith}
use Rattle.std.proofs.Math.Path.{fun_ext}
use Rattle.std.specs.List.{list_any, filter}
use Rattle.std.proofs.lemmas.Bool.{and_parts, ltb-true, eq-eqb}
use Rattle.std.proofs.lemmas.List.Elements.{Contains-append_left, filter_map-append}
use Rattle.std.proofs.lemmas.Slice.Eq.{bytes_eq-Decides}
use Rattle.hb_base.specs.Numbers.{Numbers}
use Rattle.hb_base.specs.NodeSet.{is_in}
use Rattle.tx_pool.specs.Pool.{is_among}
use Rattle.tx_pool.specs.Calls.{first_places}
use Rattle.hb_wire.specs.Batches.{batch_bytes}
use Rattle.hb_wire.specs.declared.items.Item.{Item}
use Rattle.hb_wire.specs.declared.vote.Vote.{Vote}
use Rattle.hb_wire.specs.declared.vote.Vote.TheVariants.{Propose, Closed}
use Rattle.hb_wire.specs.declared.post.Post.{Post}
use Rattle.hb_rules.specs.Claims.{is_any_proposal, is_any_closing}
use Rattle.hb_rules.specs.Desk.{is_open}
use Rattle.hb_rules.specs.Hearing.{own_in, vote_by}
use Rattle.hb_rules.specs.History.{IsLegal}
use Rattle.hb_rules.specs.Ledger.{IsPrefix}
use Rattle.hb_rules.specs.Pool.{transactions_in, settles_below, pool_value}
use Rattle.hb_rules.specs.Same.{firsts}
use Rattle.hb_rules.specs.Terms.{Terms, is_proper, AreProper}
use Rattle.hb_rules.proofs.Among.{any_stands}
use Rattle.hb_rules.proofs.BroadcastParts.{some_where}
use Rattle.hb_rules.proofs.Cast.{cast_stays, WasAllowed, was_allowed}
use Rattle.hb_rules.proofs.DeskVotes.{closing-marked, open_below, closing-once}
use Rattle.hb_rules.proofs.Firsts.{firsts_cast, firsts_have, firsts_front}
use Rattle.hb_rules.proofs.Lists.{list_any-from, Contains-cases, Contains-first, Contains-later}
use Rattle.hb_rules.proofs.Once.{cast_once}

-- ---- votes that are proper one after another

-- one of them is proper by those before it
record IsProperAt (t : Terms) (before votes : List Vote) (vote : Vote) : Type 0 where
  done : List Vote
  rest : List Vote
  is : votes ≡ done ++ vote ∷ rest
  proper : t.proper (before ++ done) vote ≡ true

proper_at : (t : Terms) (before votes : List Vote) (vote : Vote) → AreProper t before votes → Contains votes vote → IsProperAt t before votes vote
proper_at t before [] vote proper stands = absurd (omega (arith, stands.1))
proper_at t before (first ∷ votes) vote proper stands =
    Contains-cases first votes vote stands (IsProperAt t before (first ∷ votes) vote)
    (λ is. record {
      done = [];
      rest = votes;
      is = ap (λ (v : Vote). v ∷ votes) is;
      proper = subst (λ (own : List Vote). t.proper own vote ≡ true) (sym (append-nil before))
          (subst (λ (v : Vote). t.proper before v ≡ true) is proper.0);
    })
    (λ later.
    let found : IsProperAt t (before ++ first ∷ []) votes vote = proper_at t (before ++ first ∷ []) votes vote proper.1 later in
    record {
      done = first ∷ found.done;
      rest = found.rest;
      is = ap (λ (vs : List Vote). first ∷ vs) found.is;
      proper = subst (λ (own : List Vote). t.proper own vote ≡ true) (append_assoc before (first ∷ []) found.done) found.proper;
    })

-- a vote stands among the first of some votes, or behind them all
among_or_behind : (front more done rest : List Vote) (vote : Vote) → front ++ more ≡ done ++ vote ∷ rest → Contains front vote ⊎ IsPrefix front done
among_or_behind [] more done rest vote same = inr (record { rest = done; is = refl })
among_or_behind (first ∷ front) more [] rest vote same =
    let is : first ≡ vote = cc (same) in
    inl (subst (λ (v : Vote). Contains (first ∷ front) v) is (Contains-append_left (first ∷ []) front first (Contains-first first [])))
among_or_behind (first ∷ front) more (d ∷ done) rest vote same =
    let heads : first ≡ d = cc (same) in
    let tails : front ++ more ≡ done ++ vote ∷ rest = cc (same) in
    elim (among_or_behind front more done rest vote tails) [
      | inl among ↦ inl (Contains-later first front vote among)
      | inr behind ↦ inr (record {
        rest = behind.rest;
        is = ap (λ (v : Vote). v ∷ done) (sym heads) ∙ ap (λ (vs : List Vote). first ∷ vs) behind.is;
      })
    ]

-- ---- settled transactions

-- a vote that settles a transaction closes an epoch below
record IsClosingBelow (e : ℕ) (vote : Vote) : Type 0 where
  epoch : ℕ
  below : epoch < e
  list : List Item
  is : vote ≡ Closed epoch list

closing_below : (e : ℕ) (tx : List ℕ) (vote : Vote) → settles_below e tx vote ≡ true → IsClosingBelow e vote
closing_below e tx (Closed d list) h =
    record { epoch = d; below = ltb-true d e (and_parts (nat_lt d e) (is_among (transactions_in list) tx) h).0; list = list; is = refl }
closing_below e tx vote h = absurd (cc (h))

alike : (a b : Bool) → (a ≡ true → b ≡ true) → (b ≡ true → a ≡ true) → a ≡ b
alike true true one other = refl
alike true false one other = absurd (cc (one refl))
alike false true one other = absurd (cc (other refl))
alike false false one other = refl

pool_value-tests : (c : Numbers) (submitted : List (List ℕ)) (e : ℕ) (own other : List Vote)
    → ((tx : List ℕ) → list_any (settles_below e tx) own ≡ list_any (settles_below e tx) other)
    → pool_value c submitted e own ≡ pool_value c submitted e other
pool_value-tests c submitted e own other same =
    ap (λ (left : List ℕ → Bool). batch_bytes (take c.batch (filter left (first_places submitted)))) (fun_ext (λ tx. ap not (same tx)))

-- Votes of a desk that have, of the epochs below e, each closing, when the epoch e was open, and no vote that was not cast:
-- they settle what all votes of the desk settle.
settle_alike : (c : Numbers) (i e : ℕ) (before later : List Post) (done : List Vote) (tx : List ℕ) → is_in c.liars i ≡ false
    → IsLegal c before → IsLegal c (before ++ later) → is_open e (own_in c i c.n before) ≡ true
    → ((v : Vote) → Contains (own_in c i c.n before) v → Contains done v) → ((v : Vote) → Contains done v → Contains (own_in c i c.n (before ++ later)) v)
    → list_any (settles_below e tx) done ≡ list_any (settles_below e tx) (own_in c i c.n (before ++ later))
settle_alike c i e before later done tx correct legal whole opened has cast =
    alike (list_any (settles_below e tx) done) (list_any (settles_below e tx) own)
    (λ some. let found = any_stands (settles_below e tx) done some in list_any-from (settles_below e tx) own found.0 (cast found.0 found.1) found.2)
    (λ some.
    let found = any_stands (settles_below e tx) own some in
    let closing = closing_below e tx found.0 found.2 in
    let d : ℕ = closing.epoch in
    let known = open_below c before i e legal correct opened d closing.below in
    let one : Closed d known.0 ≡ found.0 =
    cast_once c (is_any_closing d) (closing-once c d) i c.n correct (before ++ later) whole (Closed d known.0) found.0
    (cast_stays c i c.n before later (Closed d known.0) known.1) found.1 (closing-marked d known.0)
    (ap (is_any_closing d) closing.is ∙ closing-marked d closing.list) in
    list_any-from (settles_below e tx) done found.0 (subst (λ (v : Vote). Contains done v) one (has (Closed d known.0) known.1)) found.2)
  where
    own : List Vote
    own = own_in c i c.n (before ++ later)

-- ---- the pool rule

proposal_value : (c : Numbers) (submitted : List (List ℕ)) (own : List Vote) (e : ℕ) (value : List ℕ)
    → is_proper c submitted own (Propose e value) ≡ true → value ≡ pool_value c submitted e own
proposal_value c submitted own e value proper = (bytes_eq-Decides value (pool_value c submitted e own)).0 proper

by_before : (c : Numbers) (submitted : List (List ℕ)) (i e : ℕ) (value : List ℕ) (t : Terms) (before later : List Post)
    → ((own : List Vote) (vote : Vote) → t.proper own vote ≡ is_proper c submitted own vote) → is_in c.liars i ≡ false
    → IsLegal c before → IsLegal c (before ++ later) → AreProper t [] (firsts (own_in c i c.n (before ++ later)))
    → is_open e (own_in c i c.n before) ≡ true → list_any (is_any_proposal e) (own_in c i c.n before) ≡ false
    → Contains (own_in c i c.n (before ++ later)) (Propose e value)
    → value ≡ pool_value c submitted e (own_in c i c.n (before ++ later))
by_before c submitted i e value t before later terms correct legal whole proper opened none stands =
    elim (among_or_behind (firsts early) front.rest at.done at.rest (Propose e value) (sym front.is ∙ at.is)) [
      | inl among ↦ absurd (cc (
        none,
        list_any-from (is_any_proposal e) early (Propose e value) (firsts_cast early (Propose e value) among)
            (some_where (e == e) value (eq-eqb e e refl)),
      ))
      | inr behind ↦
          proposal_value c submitted at.done e value (sym (terms at.done (Propose e value)) ∙ at.proper)
          ∙ pool_value-tests c submitted e at.done own (λ tx.
          settle_alike c i e before later at.done tx correct legal whole opened
          (λ v cast. subst (λ (votes : List Vote). Contains votes v) (sym behind.is)
          (Contains-append_left (firsts early) behind.rest v (firsts_have early [] v cast)))
          (λ v among. firsts_cast own v (subst (λ (votes : List Vote). Contains votes v) (sym at.is)
          (Contains-append_left at.done (Propose e value ∷ at.rest) v among))))
    ]
  where
    own : List Vote
    own = own_in c i c.n (before ++ later)

    early : List Vote
    early = own_in c i c.n before

    at : IsProperAt t [] (firsts own) (Propose e value)
    at = proper_at t [] (firsts own) (Propose e value) proper (firsts_have own [] (Propose e value) stands)

    front : IsPrefix (firsts early) (firsts own)
    front = subst (λ (votes : List Vote). IsPrefix (firsts early) (firsts votes)) (sym (filter_map-append (vote_by c i c.n) before later))
        (firsts_front early (own_in c i c.n later))

pub pool_rule : (c : Numbers) (submitted : List (List ℕ)) (i e : ℕ) (value : List ℕ) (t : Terms) (history : List Post)
    → ((own : List Vote) (vote : Vote) → t.proper own vote ≡ is_proper c submitted own vote) → is_in c.liars i ≡ false → IsLegal c history
    → AreProper t [] (firsts (own_in c i c.n history)) → Contains (own_in c i c.n history) (Propose e value)
    → value ≡ pool_value c submitted e (own_in c i c.n history)
pool_rule c submitted i e value t history terms correct legal proper stands =
    let was : WasAllowed c i c.n history (Propose e value) = was_allowed c i c.n correct history legal (Propose e value) stands in
    elim was.may [
      | inl may ↦ absurd (omega (arith, may.0))
      | inr may ↦
          subst (λ (posts : List Post). value ≡ pool_value c submitted e (own_in c i c.n posts)) (sym was.is)
          (by_before c submitted i e value t was.before was.later terms correct was.legal
          (subst (λ (posts : List Post). IsLegal c posts) was.is legal)
          (subst (λ (posts : List Post). AreProper t [] (firsts (own_in c i c.n posts))) was.is proper) may.1.1 may.1.2
          (subst (λ (posts : List Post). Contains (own_in c i c.n posts) (Propose e value)) was.is stands))
    ]
