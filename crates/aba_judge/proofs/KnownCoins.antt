-- The coin of the first good shares, and any coin that was heard.
use Rattle.std.proofs.Common.{◌≡◌, ℕ, suc, ◌+◌, ◌-◌, ◌<◌, ◌≤◌, nat_lt, Bool, true, false, ◌&&◌, ◌||◌, ◌==◌, List, [], ◌∷◌, ◌++◌, Contains, Option, None, Some, IfSome, if◌then◌else◌, length, take, get_or, refl, sym, ap, ◌∙◌, subst, arith, append-nil}
use Rattle.std.specs.List.{list_any, filter_map, range_with_len}
use Rattle.std.specs.Option.{is_some}
use Rattle.std.proofs.lemmas.Bool.{and_parts, and_from, eqb-true, eq-eqb, lt-ltb}
use Rattle.std.proofs.lemmas.List.Elements.{All-weaker, Contains-get_or}
use Rattle.std.proofs.lemmas.List.FromFn.{get_or-range_with_len, length-range_with_len}
use Rattle.std.proofs.lemmas.List.{take_more, take_all}
use Rattle.hb_base.specs.Counting.{count_nodes}
use Rattle.hb_base.specs.Numbers.{Numbers, AreSound}
use Rattle.hb_wire.specs.declared.vote.Vote.{Vote}
use Rattle.hb_wire.specs.declared.vote.Vote.TheVariants.{Coin}
use Rattle.merkle_branch.specs.declared.Branch.{Branch}
use Rattle.coin_deal.specs.Deal.{coin_root, dealt_coin}
use Rattle.coin_deal.specs.Heard.{HeardShare, heard_share, has_share_of, is_good_share, is_good, IsGood}
use Rattle.coin_deal.proofs.Shares.{is_good-is}
use Rattle.coin_share.specs.Shares.{SharesView}
use Rattle.hb_rules.specs.Claims.{is_bit}
use Rattle.hb_rules.specs.Coins.{is_share, share_count, hearing_of_share, HasCoin, share_in, shares_in, coin_in}
use Rattle.hb_rules.specs.Hearing.{Hearing, heard_by, heard_in}
use Rattle.hb_rules.specs.Strings.{NoCollision}
use Rattle.hb_rules.specs.Terms.{AreHeardSpelled}
use Rattle.hb_rules.proofs.AgreementParts.{same_bits, same_bit-refl}
use Rattle.hb_rules.proofs.Among.{any_stands}
use Rattle.hb_rules.proofs.Counts.{count_nodes-mono}
use Rattle.hb_rules.proofs.FirstShares.{coin_in-shown}
use Rattle.hb_rules.proofs.Lists.{Contains-filter_map}
use Rattle.aba_core.proofs.Hearing.{shares_none, shares_one}
use Rattle.aba_world.proofs.Coins.{coin_dealt}
use Rattle.aba_progress.proofs.Coins.{taken_all, few_nodes}
use Rattle.hb_rules.specs.Apart.{IsHeardApart}
use Rattle.aba_judge.specs.Checked.{is_share_checked}
use Rattle.aba_judge.specs.Adding.{with_some, with_shown, shares_at}

-- ---- a known coin

-- what a vote of node m shows, if it shows a good share
share_shown : (c : Numbers) (e j r m : ℕ) (vote : Vote) → is_share c e j r m vote ≡ true
    → (a : HeardShare) × (share_in e r m vote ≡ Some a) × (a.node ≡ m) × (is_good (coin_root c e j r) c.n a ≡ true)
share_shown c e j r m (Coin d s share salt branch) shown =
    let parts = and_parts (d == e) ((s == r) && is_good_share c e j r m share salt branch) shown in
    let inner = and_parts (s == r) (is_good_share c e j r m share salt branch) parts.1 in
    (heard_share m share salt branch, rw (parts.0, inner.0) refl, refl, inner.1)
share_shown c e j r m vote shown = absurd (cc (shown))

-- each node of which a good share was heard has one among those that count
has_share : (c : Numbers) (e j r a : ℕ) (heard : List Hearing) → heard_by heard a (is_share c e j r a) ≡ true
    → has_share_of (shares_in c e j r heard) a ≡ true
has_share c e j r a heard said =
    let found = any_stands (λ (h : Hearing). (h.from == a) && is_share c e j r a h.vote) heard said in
    let parts = and_parts (found.0.from == a) (is_share c e j r a found.0.vote) found.2 in
    let from : found.0.from ≡ a = eqb-true found.0.from a parts.0 in
    let share = share_shown c e j r a found.0.vote parts.1 in
    let gives : share_in e r found.0.from found.0.vote ≡ Some share.0 = ap (λ (m : ℕ). share_in e r m found.0.vote) from ∙ share.1 in
    ap (has_share_of (shares_in c e j r heard)) (sym share.2)
    ∙ taken_all (coin_root c e j r) c.n (filter_map (λ (h : Hearing). share_in e r h.from h.vote) heard) [] share.0
    (Contains-filter_map (λ (h : Hearing). share_in e r h.from h.vote) heard found.0 share.0 found.1 gives) share.3

-- where f + 1 nodes have shown good shares, the coin is known
pub known_coin : (c : Numbers) (e j r : ℕ) (heard : List Hearing) → c.f + 1 ≤ share_count c e j r heard → is_some (coin_in c e j heard r) ≡ true
known_coin c e j r heard enough =
    let shares : List HeardShare = shares_in c e j r heard in
    let some : share_count c e j r heard ≤ count_nodes c.n (λ m. has_share_of shares m) =
    count_nodes-mono c.n (λ a. heard_by heard a (is_share c e j r a)) (λ m. has_share_of shares m) (λ a below said. has_share c e j r a heard said) in
    let many : nat_lt c.f (length shares) ≡ true = lt-ltb c.f (length shares) (omega (arith, enough, some, few_nodes c.n shares)) in
    rw many refl

-- ---- one coin

-- what was heard apart gives no coin but the dealt one
pub coin_is_dealt : (c : Numbers) (i j e r : ℕ) (b : Bool) (heard : List Hearing) → AreSound c → IsHeardApart c i j heard → HasCoin c e j r heard b
    → b ≡ dealt_coin c e j r
coin_is_dealt c i j e r b heard sound from has =
    coin_dealt c i j e r b from.history [] sound from.lane from.correct
    (subst (NoCollision c) (sym (append-nil from.history)) from.apart) (record {
      shares = has.shares;
      choice = has.choice;
      stand =
          All-weaker (λ (a : HeardShare). Contains heard (hearing_of_share e r a)) (λ (a : HeardShare). Contains (heard_in c i j from.history) (hearing_of_share e r a))
          (λ a stands. from.among.each (hearing_of_share e r a) stands) has.shares has.stand;
      coin = has.coin;
    })

-- a coin that is this bit
bit_is : (b : Bool) (o : Option Bool) → is_bit b o ≡ true → o ≡ Some b
bit_is b None is = absurd (cc (is))
bit_is b (Some d) is = ap (λ (x : Bool). Some x) (sym (same_bits b d is))

pub coin_stands : (c : Numbers) (e j r : ℕ) (b : Bool) (heard : List Hearing) → AreSound c → AreHeardSpelled c heard
    → is_bit b (coin_in c e j heard r) ≡ true → HasCoin c e j r heard b
coin_stands c e j r b heard sound spelled is =
    (coin_in-shown c sound e j r heard spelled b (bit_is b (coin_in c e j heard r) is)).coin

pub coin_counts : (c : Numbers) (e j r : ℕ) (heard : List Hearing) → AreSound c → AreHeardSpelled c heard
    → is_some (coin_in c e j heard r) ≡ true → c.f + 1 ≤ share_count c e j r heard
coin_counts c e j r heard sound spelled known = by (coin_in c e j heard r) refl known
  where
    by : (o : Option Bool) → coin_in c e j heard r ≡ o → is_some o ≡ true → c.f + 1 ≤ share_count c e j r heard
    by None is known = absurd (cc (known))
    by (Some b) is known = (coin_in-shown c sound e j r heard spelled b is).shares

-- the known coin is each that was heard
pub coin_known : (c : Numbers) (i j e r : ℕ) (b : Bool) (heard : List Hearing) → AreSound c → AreHeardSpelled c heard → IsHeardApart c i j heard
    → c.f + 1 ≤ share_count c e j r heard → HasCoin c e j r heard b → is_bit b (coin_in c e j heard r) ≡ true
coin_known c i j e r b heard sound spelled from enough has = by (coin_in c e j heard r) refl (known_coin c e j r heard enough)
  where
    by : (o : Option Bool) → coin_in c e j heard r ≡ o → is_some o ≡ true → is_bit b o ≡ true
    by None is known = absurd (cc (known))
    by (Some d) is known =
        let same : b ≡ d =
        coin_is_dealt c i j e r b heard sound from has
        ∙ sym (coin_is_dealt c i j e r d heard sound from (coin_in-shown c sound e j r heard spelled d is).coin) in
        ap (λ (x : Bool). is_bit b (Some x)) (sym same) ∙ same_bit-refl b

-- ---- rounds

pub round_within : (n x : ℕ) → Contains (range_with_len 0 n) x → x < n
round_within n x stands =
    let inside : stands.0 < n = omega (arith, stands.1, length-range_with_len 0 n) in
    let is : 0 + stands.0 ≡ x = sym (get_or-range_with_len 0 n stands.0 x inside) ∙ stands.2 in
    omega (arith, inside, is)

pub round_stands : (n x : ℕ) → x < n → Contains (range_with_len 0 n) x
round_stands n x inside =
    let is : get_or (range_with_len 0 n) x 0 ≡ x = get_or-range_with_len 0 n x 0 inside ∙ (let same : 0 + x ≡ x = omega arith in same) in
    subst (λ (y : ℕ). Contains (range_with_len 0 n) y) is (Contains-get_or (range_with_len 0 n) x 0 (omega (arith, inside, length-range_with_len 0 n)))

-- the rounds from one on
pub any_from : (p : ℕ → Bool) (n r : ℕ) → r < n
    → list_any p (range_with_len r (n - r)) ≡ (p r || list_any p (range_with_len (r + 1) (n - (r + 1))))
any_from p n r inside =
    let left : n - r ≡ suc (n - (r + 1)) = omega (arith, inside) in
    ap (λ (k : ℕ). list_any p (range_with_len r k)) left

pub any_past : (p : ℕ → Bool) (n r : ℕ) → n ≤ r → list_any p (range_with_len r (n - r)) ≡ false
any_past p n r past = let none : n - r ≡ 0 = omega (arith, past) in ap (λ (k : ℕ). list_any p (range_with_len r k)) none

-- ---- shares that are added as they were heard

-- the share that a vote shows is good, if it was checked
pub share_good : (c : Numbers) (e j r m : ℕ) (vote : Vote) → is_share_checked c j m vote ≡ true
    → IfSome (share_in e r m vote) (IsGood (coin_root c e j r) c.n)
share_good c e j r m (Coin d s share salt branch) checked = by ((d == e) && (s == r)) refl
  where
    a : HeardShare
    a = heard_share m share salt branch

    by : (b : Bool) → ((d == e) && (s == r)) ≡ b → IfSome (if b then Some a else None) (IsGood (coin_root c e j r) c.n)
    by true is =
        let same = and_parts (d == e) (s == r) is in
        subst (λ (x : ℕ). IsGood (coin_root c x j r) c.n a) (eqb-true d e same.0)
        (subst (λ (y : ℕ). IsGood (coin_root c d j y) c.n a) (eqb-true s r same.1) (is_good-is (coin_root c d j s) c.n a checked))
    by false is = tt
share_good c e j r m vote checked = tt

-- it is the share of a Coin of the round
pub share_there : (root : List ℕ) (n e r m d s share : ℕ) (salt : List ℕ) (branch : Branch) (vote : Vote) → vote ≡ Coin d s share salt branch → d ≡ e → s ≡ r
    → IfSome (share_in e r m vote) (IsGood root n) → IsGood root n (heard_share m share salt branch)
share_there root n e r m d s share salt branch vote is epoch round good =
    let here : ((d == e) && (s == r)) ≡ true = and_from (d == e) (s == r) (eq-eqb d e epoch) (eq-eqb s r round) in
    subst (λ (b : Bool). IfSome (if b then Some (heard_share m share salt branch) else None) (IsGood root n)) here
    (subst (λ (v : Vote). IfSome (share_in e r m v) (IsGood root n)) is good)

shown_more : (c : Numbers) (e j r : ℕ) (heard : List Hearing) (h : Hearing) → with_shown (shares_at c e j r heard) e r h ≡ shares_at c e j r (heard ++ h ∷ [])
shown_more c e j r heard h = by (share_in e r h.from h.vote) refl
  where
    by : (o : Option HeardShare) → share_in e r h.from h.vote ≡ o → with_some (shares_at c e j r heard) o ≡ shares_at c e j r (heard ++ h ∷ [])
    by None is =
        ap (λ (xs : List HeardShare). record { n = c.n; f = c.f; root = coin_root c e j r; added = xs }) (sym (shares_none c e j r heard h is))
    by (Some a) is =
        ap (λ (xs : List HeardShare). record { n = c.n; f = c.f; root = coin_root c e j r; added = xs }) (sym (shares_one c e j r heard h a is))

pub shown_next : (c : Numbers) (e j r : ℕ) (heard : List Hearing) (k : ℕ) (h : Hearing) (old new : SharesView) → k < length heard
    → h ≡ get_or heard k h → old ≡ shares_at c e j r (take k heard) → new ≡ with_shown old e r h → new ≡ shares_at c e j r (take (k + 1) heard)
shown_next c e j r heard k h old new inside is before more =
    more ∙ ap (λ (s : SharesView). with_shown s e r h) before ∙ shown_more c e j r (take k heard) h
    ∙ ap (shares_at c e j r) (sym (take_more heard k h inside ∙ ap (λ (g : Hearing). take k heard ++ g ∷ []) (sym is)))

pub shown_all : (c : Numbers) (e j r : ℕ) (heard : List Hearing) (k : ℕ) (s : SharesView) → length heard ≤ k → s ≡ shares_at c e j r (take k heard)
    → s ≡ shares_at c e j r heard
shown_all c e j r heard k s all is = is ∙ ap (shares_at c e j r) (take_all k heard all)
