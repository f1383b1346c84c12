-- The theorems on the binary agreement: one bit is decided, a correct node has begun with it, and what stands behind.
use Rattle.std.proofs.Common.{◌≡◌, ℕ, suc, ◌<◌, Bool, inl, inr, List, [], Contains, sym, subst, arith, append-nil}
use Rattle.std.proofs.lemmas.Bool.{cases_order}
use Rattle.hb_base.specs.Numbers.{Numbers, AreSound}
use Rattle.coin_deal.specs.Deal.{dealt_coin}
use Rattle.hb_wire.specs.declared.vote.Vote.TheVariants.{Pick, Decided}
use Rattle.hb_wire.specs.declared.post.Post.{Post}
use Rattle.hb_rules.specs.Hearing.{own_in}
use Rattle.hb_rules.specs.Marks.{single}
use Rattle.hb_rules.specs.History.{IsLegal}
use Rattle.hb_rules.specs.Ledger.{IsCorrect}
use Rattle.hb_rules.specs.Strings.{NoCollision}
use Rattle.aba_world.specs.Agreed.{HasEstimate, DecisionsAgree, DecisionsAreBegun, IsAgreed}
use Rattle.aba_world.specs.Backing.{BitsAreEstimates, VotesAreSupported, PicksAgree, BeginningsAreBacked, CoinsAreDealt, VotesAreProper, IsSettled, DecisionsAreSettled}
use Rattle.aba_world.proofs.Coins.{coin_dealt}
use Rattle.aba_world.proofs.Stood.{aux_supported, conf_supported, pick_supported, round_of_run, share_dealt, had_dealt, WasDecided, was_decided, began_delivered, began_unwanted}
use Rattle.aba_world.proofs.Rounds.{bval_estimate, supported_estimate, pick_estimate, began, one_single, IsLocked, locked_from, locked_later}

-- ---- rounds

pub bits_estimates : (c : Numbers) (history : List Post) → AreSound c → IsLegal c history → BitsAreEstimates c history
bits_estimates c history sound legal = record { estimate = λ j e r b lane many. supported_estimate c j e r b history sound legal many }

pub votes_supported : (c : Numbers) (history : List Post) → IsLegal c history → VotesAreSupported c history
votes_supported c history legal = record {
  auxes = λ j e r i b correct h. aux_supported c j e r i b history legal correct.honest h;
  confs = λ j e r i vals b correct h among. conf_supported c j e r i vals b history legal correct.honest h among;
  picks = λ j e r i vals b correct h among. pick_supported c j e r i vals b history legal correct.honest h among;
}

pub picks_agree : (c : Numbers) (history : List Post) → AreSound c → IsLegal c history → PicksAgree c history
picks_agree c history sound legal = record {
  one = λ j e r i m b d lane correct also first second.
      one_single c j e r i m b d history sound legal correct.honest also.honest first second;
}

pub beginnings_backed : (c : Numbers) (history : List Post) → IsLegal c history → BeginningsAreBacked c history
beginnings_backed c history legal = record {
  delivered = λ j e i correct h. began_delivered c j e i history legal correct.honest h;
  unwanted = λ j e i correct h. began_unwanted c j e i history legal correct.honest h;
}

pub coins_dealt : (c : Numbers) (history : List Post) → AreSound c → IsLegal c history → NoCollision c history → CoinsAreDealt c history
coins_dealt c history sound legal premise = record {
  dealt = λ j e r i b lane correct coin.
      coin_dealt c i j e r b history [] sound lane correct (subst (NoCollision c) (sym (append-nil history)) premise)
      coin;
}

pub votes_proper : (c : Numbers) (history : List Post) → IsLegal c history → VotesAreProper c history
votes_proper c history legal = record {
  rounds = λ j i r vote correct h about. round_of_run c j i r vote history legal correct.honest h about;
  shares = λ j e r i dealt_share dealt_salt branch correct h. share_dealt c j e r i dealt_share dealt_salt branch history legal correct.honest h;
}

-- ---- decisions

settled : (c : Numbers) (history : List Post) (j e i : ℕ) (b : Bool) → AreSound c → IsLegal c history → NoCollision c history → IsCorrect c i
    → Contains (own_in c i j history) (Decided e b) → IsSettled c history j e i b
settled c history j e i b sound legal premise correct decided = record {
  round = was.round;
  known = was.known;
  picked = was.picked;
  coin = coin;
  estimates = λ r m d after other h. (locked r after).one d (record { node = m; correct = other; cast = h });
  supports = λ r m d after other h. (locked r after).one d (bval_estimate c j e r m d history sound legal other h);
}
  where
    was : WasDecided c history j e i b
    was = was_decided c j e i b history legal correct.honest decided

    coin : dealt_coin c e j was.round ≡ b
    coin = sym (had_dealt c history j e was.round i b sound correct premise was.coin)

    locked : (r : ℕ) → was.round < r → IsLocked c history j e r b
    locked r after =
        locked_later c j e (suc was.round) r b history sound legal (omega arith)
        (locked_from c j e was.round i b history sound legal premise correct.honest was.picked coin)

pub decisions_settled : (c : Numbers) (history : List Post) → AreSound c → IsLegal c history → NoCollision c history → DecisionsAreSettled c history
decisions_settled c history sound legal premise = record {
  settled = λ j e i b lane correct decided. settled c history j e i b sound legal premise correct decided;
}

-- where one lane has settled a bit before another settles one, the two are one
settled_like : (c : Numbers) (history : List Post) (j e i m : ℕ) (b d : Bool) → AreSound c → IsLegal c history → IsCorrect c m
    → (first : IsSettled c history j e i b) (second : IsSettled c history j e m d) → first.round < second.round → d ≡ b
settled_like c history j e i m b d sound legal correct first second before =
    let had : HasEstimate c history j e second.round d = pick_estimate c j e second.round m d history sound legal correct second.picked in
    first.estimates second.round had.node d before had.correct had.cast

one_decision : (c : Numbers) (history : List Post) (j e i m : ℕ) (b d : Bool) → AreSound c → IsLegal c history → IsCorrect c i → IsCorrect c m
    → IsSettled c history j e i b → IsSettled c history j e m d → b ≡ d
one_decision c history j e i m b d sound legal correct also first second = elim (cases_order first.round second.round) [
  | inl same ↦
      one_single c j e second.round i m b d history sound legal correct.honest also.honest
      (subst (λ (r : ℕ). Contains (own_in c i j history) (Pick e r (single b))) same first.picked) second.picked
  | inr apart ↦ elim apart [
    | inl before ↦ sym (settled_like c history j e i m b d sound legal also first second before)
    | inr after ↦ settled_like c history j e m i d b sound legal correct second first after
  ]
]

pub decisions_agree : (c : Numbers) (history : List Post) → AreSound c → IsLegal c history → NoCollision c history → DecisionsAgree c history
decisions_agree c history sound legal premise = record {
  one = λ j e i m b d lane correct also first second.
      one_decision c history j e i m b d sound legal correct also (settled c history j e i b sound legal premise correct first)
      (settled c history j e m d sound legal premise also second);
}

pub decisions_begun : (c : Numbers) (history : List Post) → AreSound c → IsLegal c history → DecisionsAreBegun c history
decisions_begun c history sound legal = record {
  begun = λ j e i b lane correct decided.
      let was = was_decided c j e i b history legal correct.honest decided in
      began c j e was.round b history sound legal (pick_estimate c j e was.round i b history sound legal correct was.picked);
}

pub legal_agreed : (c : Numbers) (history : List Post) → AreSound c → IsLegal c history → NoCollision c history → IsAgreed c history
legal_agreed c history sound legal premise = record {
  decisions = decisions_agree c history sound legal premise;
  begun = decisions_begun c history sound legal;
}
