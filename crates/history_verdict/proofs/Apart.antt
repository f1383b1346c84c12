-- Verdicts where no two hashed strings share a digest.
use Rattle.std.proofs.Common.{◌≡◌, ℕ, zero, suc, ◌+◌, ◌<◌, ◌≤◌, inl, inr, List, [], ◌∷◌, ◌++◌, length, take, drop, refl, ap, sym, ◌∙◌, subst, arith}
use Rattle.std.proofs.lemmas.Bool.{cases_lt}
use Rattle.std.proofs.lemmas.List.{take-append-drop}
use Rattle.hb_base.specs.Numbers.{Numbers}
use Rattle.hb_wire.specs.declared.vote.Vote.TheVariants.{Val, Echo, Coin, Propose}
use Rattle.hb_wire.specs.declared.post.Post.{Post}
use Rattle.hb_rules.specs.Code.{data_count}
use Rattle.hb_rules.specs.Hearing.{hearing, heard_in, heard_by}
use Rattle.hb_rules.specs.History.{IsLegal}
use Rattle.hb_rules.specs.Strings.{IsHashed, NoCollision}
use Rattle.hb_rules.proofs.Addressed.{IsLegal-front}
use Rattle.hb_rules.proofs.Among.{heard_by-grows, AreEchoes-grows}
use Rattle.hb_rules.proofs.Cast.{cast_stays, heard_stays}
use Rattle.history_verdict.specs.Verdicts.{IsFirstIllegal, IsVerdict}
use Rattle.history_verdict.specs.declared.verdict.Verdict.{Verdict}
use Rattle.history_verdict.specs.declared.verdict.Verdict.TheVariants.{Legal, Illegal}

-- what counts as hashed after some posts counts after more
hashed_later : (c : Numbers) (history more : List Post) (string : List ℕ) → IsHashed c history string → IsHashed c (history ++ more) string
hashed_later c history more string (IsHashed.dealt found) = IsHashed.dealt found
hashed_later c history more string (IsHashed.proposed i e value shards correct stands encoding found) =
    IsHashed.proposed i e value shards correct (cast_stays c i c.n history more (Propose e value) stands) encoding found
hashed_later c history more string (IsHashed.sent i j e root shard branch correct stands found) =
    IsHashed.sent i j e root shard branch correct (heard_stays c i j history more (hearing j (Val e i root shard branch)) stands) found
hashed_later c history more string (IsHashed.echoed i j a e root shard branch correct stands found) =
    IsHashed.echoed i j a e root shard branch correct (heard_stays c i j history more (hearing a (Echo e root shard branch)) stands) found
hashed_later c history more string (IsHashed.shown i j a e r share salt branch correct stands found) =
    IsHashed.shown i j a e r share salt branch correct (heard_stays c i j history more (hearing a (Coin e r share salt branch)) stands) found
hashed_later c history more string (IsHashed.rebuilt i j e root got shards correct echoes rebuilt found) =
    IsHashed.rebuilt i j e root got shards correct
    (AreEchoes-grows c.n (data_count c) e root (heard_by (heard_in c i j history)) (heard_by (heard_in c i j (history ++ more))) got
    (heard_by-grows (heard_in c i j history) (heard_in c i j (history ++ more)) (record { each = heard_stays c i j history more })) echoes) rebuilt found

-- where no two strings of a history share a digest, none of its beginning do
pub apart_before : (c : Numbers) (history more : List Post) → NoCollision c (history ++ more) → NoCollision c history
apart_before c history more premise = record {
  apart = λ one other first second same.
      premise.apart one other (hashed_later c history more one first) (hashed_later c history more other second) same;
}

-- there a legal history has one verdict
pub legal_verdict : (c : Numbers) (history : List Post) (verdict : Verdict) → NoCollision c history → IsVerdict c history verdict → IsLegal c history
    → verdict ≡ Legal (length history)
legal_verdict c history (Legal posts) premise is legal = ap (λ (k : ℕ). Legal k) is.1
legal_verdict c history (Illegal k) premise is legal =
    let front : List Post = take (k + 1) history in
    let all : history ≡ front ++ drop (k + 1) history = sym (take-append-drop (k + 1) history) in
    absurd (is.with_it (apart_before c front (drop (k + 1) history) (subst (NoCollision c) all premise))
    (IsLegal-front c front (drop (k + 1) history) (subst (IsLegal c) all legal)))

-- ---- one verdict

take_within : {A : Type 0} (k m : ℕ) (xs : List A) → k ≤ m → take k (take m xs) ≡ take k xs
take_within zero m xs le = refl
take_within (suc k) zero xs le = absurd (omega (arith, le))
take_within (suc k) (suc m) [] le = refl
take_within (suc k) (suc m) (x ∷ xs) le = ap (λ ys. x ∷ ys) (take_within k m xs (omega (arith, le)))

no_earlier : (c : Numbers) (history : List Post) (j k : ℕ) → NoCollision c history → IsFirstIllegal c history j → IsFirstIllegal c history k → j < k → ⊥
no_earlier c history j k premise one other less =
    let front : List Post = take (j + 1) history in
    let all : history ≡ front ++ drop (j + 1) history = sym (take-append-drop (j + 1) history) in
    let before : take k history ≡ front ++ drop (j + 1) (take k history) =
    sym (take-append-drop (j + 1) (take k history))
    ∙ ap (λ (ps : List Post). ps ++ drop (j + 1) (take k history)) (take_within (j + 1) k history (omega (arith, less))) in
    one.with_it (apart_before c front (drop (j + 1) history) (subst (NoCollision c) all premise))
    (IsLegal-front c front (drop (j + 1) (take k history)) (subst (IsLegal c) before other.before))

pub one_verdict : (c : Numbers) (history : List Post) (verdict other : Verdict) → NoCollision c history → IsVerdict c history verdict
    → IsVerdict c history other → verdict ≡ other
one_verdict c history (Legal posts) other premise one two =
    legal_verdict c history (Legal posts) premise one one.0 ∙ sym (legal_verdict c history other premise two one.0)
one_verdict c history (Illegal j) (Legal posts) premise one two =
    legal_verdict c history (Illegal j) premise one two.0 ∙ sym (legal_verdict c history (Legal posts) premise two two.0)
one_verdict c history (Illegal j) (Illegal k) premise one two = elim (cases_lt j k) [
  | inl less ↦ absurd (no_earlier c history j k premise one two less)
  | inr no_less ↦ elim (cases_lt k j) [
    | inl less ↦ absurd (no_earlier c history k j premise two one less)
    | inr none ↦ ap (λ (n : ℕ). Illegal n) (omega (arith, no_less, none))
  ]
]
