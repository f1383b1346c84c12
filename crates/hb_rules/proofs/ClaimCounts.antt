-- Nodes of which a claim was heard, one hearing after the other.
use Rattle.std.proofs.Common.{◌≡◌, ℕ, zero, suc, inl, inr, ◌+◌, ◌<◌, ◌≤◌, nat_lt, Bool, true, false, ◌&&◌, ◌||◌, ◌==◌, List, [], ◌∷◌, ◌++◌, length, take, get_or, refl, sym, ap, ◌∙◌, subst, arith}
use Rattle.std.proofs.Math.Bool.{or-false}
use Rattle.std.proofs.lemmas.Bool.{eqb-true, eqb-false, both_ways, and_parts, and_cases, or_right, le-ltb, lt-ltb}
use Rattle.std.proofs.lemmas.List.{take_more, take_all}
use Rattle.std.proofs.lemmas.List.Folds.{list_any-append}
use Rattle.hb_base.specs.Counting.{count_nodes}
use Rattle.hb_base.specs.Limits.{most_nodes}
use Rattle.hb_base.specs.NodeSet.{is_in}
use Rattle.hb_rules.specs.Hearing.{Hearing, heard_by}
use Rattle.hb_rules.proofs.Counts.{count_nodes-same, count_nodes-above}
use Rattle.hb_wire.specs.declared.vote.Vote.{Vote}

-- the nodes below n of which the claim was heard
pub record AreCounted (n : ℕ) (makes : ℕ → Vote → Bool) (heard : List Hearing) (voters : List Bool) : Type 0 where
  pub members : (a : ℕ) → is_in voters a ≡ (nat_lt a n && heard_by heard a (makes a))

pub none_counted : (n : ℕ) (makes : ℕ → Vote → Bool) (voters : List Bool) → ((a : ℕ) → is_in voters a ≡ false) → AreCounted n makes [] voters
none_counted n makes voters none = record { members = λ a. none a ∙ by (nat_lt a n) }
  where
    by : (b : Bool) → false ≡ (b && false)
    by true = refl
    by false = refl

heard_more : (heard : List Hearing) (h : Hearing) (a : ℕ) (test : Vote → Bool)
    → heard_by (heard ++ h ∷ []) a test ≡ (heard_by heard a test || ((h.from == a) && test h.vote))
heard_more heard h a test =
    list_any-append (λ (g : Hearing). (g.from == a) && test g.vote) heard (h ∷ [])
    ∙ ap (λ (b : Bool). heard_by heard a test || b) (or-false ((h.from == a) && test h.vote))

-- a hearing that counts
pub counted_more : (n : ℕ) (makes : ℕ → Vote → Bool) (heard : List Hearing) (h : Hearing) (old new : List Bool)
    → AreCounted n makes heard old → (nat_lt h.from n && makes h.from h.vote) ≡ true
    → ((a : ℕ) → is_in new a ≡ ((a == h.from) || is_in old a)) → AreCounted n makes (heard ++ h ∷ []) new
counted_more n makes heard h old new counted counts adds = record {
  members = λ a.
      adds a ∙ ap (λ (b : Bool). (a == h.from) || b) (counted.members a)
      ∙ by a (a == h.from) refl (h.from == a) refl
      ∙ ap (λ (b : Bool). nat_lt a n && b) (sym (heard_more heard h a (makes a)));
}
  where
    by : (a : ℕ) (t : Bool) → (a == h.from) ≡ t → (u : Bool) → (h.from == a) ≡ u
        → (t || (nat_lt a n && heard_by heard a (makes a))) ≡ (nat_lt a n && (heard_by heard a (makes a) || (u && makes a h.vote)))
    by a true is true other =
        let same : a ≡ h.from = eqb-true a h.from is in
        let both = and_parts (nat_lt h.from n) (makes h.from h.vote) counts in
        let inside : nat_lt a n ≡ true = ap (λ (m : ℕ). nat_lt m n) same ∙ both.0 in
        let made : makes a h.vote ≡ true = ap (λ (m : ℕ). makes m h.vote) same ∙ both.1 in
        rw (inside, made) (sym (or_right (heard_by heard a (makes a)) true refl))
    by a true is false other = absurd (eqb-false h.from a other (sym (eqb-true a h.from is)))
    by a false is true other = absurd (eqb-false a h.from is (sym (eqb-true h.from a other)))
    by a false is false other = ap (λ (b : Bool). nat_lt a n && b) (sym (or-false (heard_by heard a (makes a))))

-- a hearing that does not
pub counted_same : (n : ℕ) (makes : ℕ → Vote → Bool) (heard : List Hearing) (h : Hearing) (voters : List Bool)
    → AreCounted n makes heard voters → (nat_lt h.from n && makes h.from h.vote) ≡ false → AreCounted n makes (heard ++ h ∷ []) voters
counted_same n makes heard h voters counted not_counted = record {
  members = λ a.
      counted.members a ∙ by a (h.from == a) refl (nat_lt a n) refl
      ∙ ap (λ (b : Bool). nat_lt a n && b) (sym (heard_more heard h a (makes a)));
}
  where
    by : (a : ℕ) (u : Bool) → (h.from == a) ≡ u → (t : Bool) → nat_lt a n ≡ t
        → (t && heard_by heard a (makes a)) ≡ (t && (heard_by heard a (makes a) || (u && makes a h.vote)))
    by a true is true inside =
        let same : h.from ≡ a = eqb-true h.from a is in
        let made : makes a h.vote ≡ false =
        ap (λ (m : ℕ). makes m h.vote) (sym same)
        ∙ elim (and_cases (nat_lt h.from n) (makes h.from h.vote) not_counted) [
          | inl out ↦ absurd (both_ways (nat_lt a n) (ap (λ (m : ℕ). nat_lt m n) (sym same) ∙ out) inside)
          | inr fails ↦ fails
        ] in
        rw made (sym (or-false (heard_by heard a (makes a))))
    by a true is false inside = refl
    by a false is t inside = ap (λ (b : Bool). t && b) (sym (or-false (heard_by heard a (makes a))))

counted_within : (n : ℕ) (makes : ℕ → Vote → Bool) (heard : List Hearing) (k : ℕ) → k ≤ n
    → count_nodes k (λ a. nat_lt a n && heard_by heard a (makes a)) ≡ count_nodes k (λ a. heard_by heard a (makes a))
counted_within n makes heard zero le = refl
counted_within n makes heard (suc k) le =
    let inside : nat_lt k n ≡ true = lt-ltb k n (omega (arith, le)) in
    rw (inside, counted_within n makes heard k (omega (arith, le))) refl

-- how many they are
pub counted_all : (n : ℕ) (makes : ℕ → Vote → Bool) (heard : List Hearing) (voters : List Bool) → n ≤ most_nodes → AreCounted n makes heard voters
    → count_nodes most_nodes (is_in voters) ≡ count_nodes n (λ a. heard_by heard a (makes a))
counted_all n makes heard voters few counted =
    count_nodes-same most_nodes (is_in voters) (λ a. nat_lt a n && heard_by heard a (makes a)) counted.members
    ∙ count_nodes-above n most_nodes (λ a. nat_lt a n && heard_by heard a (makes a)) few
    (λ a above. out (nat_lt a n) (heard_by heard a (makes a)) (le-ltb a n above))
    ∙ counted_within n makes heard n (omega arith)
  where
    out : (b d : Bool) → b ≡ false → (b && d) ≡ false
    out true d outside = absurd (cc (outside))
    out false d outside = refl

-- one more of a list
pub counted_next : (n : ℕ) (makes : ℕ → Vote → Bool) (heard : List Hearing) (k : ℕ) (h : Hearing) (voters : List Bool) → k < length heard
    → h ≡ get_or heard k h → AreCounted n makes (take k heard ++ h ∷ []) voters → AreCounted n makes (take (k + 1) heard) voters
counted_next n makes heard k h voters inside is counted =
    subst (λ (hs : List Hearing). AreCounted n makes hs voters)
    (sym (take_more heard k h inside ∙ ap (λ (g : Hearing). take k heard ++ g ∷ []) (sym is))) counted

-- all of it
pub counted_whole : (n : ℕ) (makes : ℕ → Vote → Bool) (heard : List Hearing) (k : ℕ) (voters : List Bool) → length heard ≤ k
    → AreCounted n makes (take k heard) voters → AreCounted n makes heard voters
counted_whole n makes heard k voters all counted = subst (λ (hs : List Hearing). AreCounted n makes hs voters) (take_all k heard all) counted
