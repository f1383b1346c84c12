-- Hearings of nodes that a run does not have: they change nothing that a lane owes.
use Rattle.std.proofs.Common.{◌≡◌, ◌↔◌, ℕ, ◌<◌, Bool, true, false, ◌&&◌, ◌==◌, not, nat_lt, List, [], ◌∷◌, ◌++◌, Option, None, Some, if◌then◌else◌, refl, sym, ap, ◌∙◌, arith}
use mathlib.Core.Path.{fun_ext}
use Rattle.std.specs.List.{filter, filter_map, fold, cons_option}
use Rattle.std.proofs.lemmas.Bool.{and_parts, eqb-true, lt-ltb}
use Rattle.hb_base.specs.Counting.{count_nodes}
use Rattle.hb_base.specs.Numbers.{Numbers}
use Rattle.coin_deal.specs.Heard.{HeardShare, heard_share, has_share_of, with_heard}
use Rattle.merkle_branch.specs.Branches.{is_branch}
use Rattle.coin_deal.specs.Deal.{coin_root}
use Rattle.hb_wire.specs.declared.vote.Vote.{Vote}
use Rattle.hb_wire.specs.declared.vote.Vote.TheVariants.{Coin}
use Rattle.hb_rules.specs.declared.agreement_slot.AgreementSlot.{AgreementSlot}
use Rattle.hb_rules.specs.AgreementRows.{view_of, choice_of, agreement_slot, agreement_rows}
use Rattle.hb_rules.specs.Claims.{is_no_more}
use Rattle.hb_rules.specs.Coins.{share_in, shares_in, coin_from, coin_in}
use Rattle.hb_rules.specs.Hearing.{Hearing, heard_by}
use Rattle.hb_rules.specs.Marks.{Claim, has, makes, support}
use Rattle.hb_rules.specs.Owing.{agreement_slots}
use Rattle.hb_rules.specs.Slots.{IsIdle}
use Rattle.hb_rules.proofs.AgreementParts.{agreement_hold}
use Rattle.hb_rules.proofs.Counts.{count_nodes-mono}
use Rattle.hb_rules.proofs.Lists.{any_within, some_if}
use Rattle.hb_rules.proofs.Rows.{of_epoch-hold}
use Rattle.quiet_check.specs.Inside.{is_inside}
use Rattle.quiet_check.proofs.Slots.{IsCarried, idle_carried}

-- what one of the n nodes was heard to say
pub heard_inside : (n a : ℕ) (heard : List Hearing) (test : Vote → Bool) → a < n → heard_by (filter (is_inside n) heard) a test ≡ heard_by heard a test
heard_inside n a heard test below =
    any_within (λ h. (h.from == a) && test h.vote) (is_inside n)
    (λ h passes.
    let from : h.from ≡ a = eqb-true h.from a (and_parts (h.from == a) (test h.vote) passes).0 in
    lt-ltb h.from n (omega arith)) heard

-- how many of them were heard to say it
pub count_inside : (n : ℕ) (heard : List Hearing) (test : ℕ → Vote → Bool)
    → count_nodes n (λ a. heard_by (filter (is_inside n) heard) a (test a)) ≡ count_nodes n (λ a. heard_by heard a (test a))
count_inside n heard test =
    let less = count_nodes-mono n (λ a. heard_by (filter (is_inside n) heard) a (test a)) (λ a. heard_by heard a (test a))
    (λ a below said. sym (heard_inside n a heard (test a) below) ∙ said) in
    let more = count_nodes-mono n (λ a. heard_by heard a (test a)) (λ a. heard_by (filter (is_inside n) heard) a (test a))
    (λ a below said. heard_inside n a heard (test a) below ∙ said) in
    omega (arith, less, more)

-- ---- coins

-- the share of a node that the run does not have
outside_share : (root : List ℕ) (n : ℕ) (shares : List HeardShare) (a : HeardShare) → nat_lt a.node n ≡ false → with_heard root n shares a ≡ shares
outside_share root n shares a out = by (not (has_share_of shares a.node))
  where
    by : (b : Bool) → (if (b && (nat_lt a.node n && is_branch root n a.node (a.share ∷ a.salt) a.branch)) then shares ++ a ∷ [] else shares) ≡ shares
    by true = rw out refl
    by false = refl

share_node : (e r m : ℕ) (vote : Vote) (a : HeardShare) → share_in e r m vote ≡ Some a → a.node ≡ m
share_node e r m (Coin d s share salt branch) a gives =
    sym (ap (λ (a : HeardShare). a.node) (some_if ((d == e) && (s == r)) (heard_share m share salt branch) a gives).1)
share_node e r m vote a gives = absurd (cc (gives))

shares_from : (c : Numbers) (e j r : ℕ) (heard : List Hearing) (shares : List HeardShare)
    → fold (with_heard (coin_root c e j r) c.n) shares (filter_map (λ h. share_in e r h.from h.vote) (filter (is_inside c.n) heard))
    ≡ fold (with_heard (coin_root c e j r) c.n) shares (filter_map (λ h. share_in e r h.from h.vote) heard)
shares_from c e j r [] shares = refl
shares_from c e j r (h ∷ heard) shares = by (is_inside c.n h) (share_in e r h.from h.vote) refl refl (shares_from c e j r heard)
  where
    share : Hearing → Option HeardShare
    share h = share_in e r h.from h.vote

    add : List HeardShare → HeardShare → List HeardShare
    add = with_heard (coin_root c e j r) c.n

    by : (b : Bool) (o : Option HeardShare) → is_inside c.n h ≡ b → share h ≡ o
        → ((shares : List HeardShare) → fold add shares (filter_map share (filter (is_inside c.n) heard)) ≡ fold add shares (filter_map share heard))
        → fold add shares (filter_map share (if b then h ∷ filter (is_inside c.n) heard else filter (is_inside c.n) heard))
        ≡ fold add shares (cons_option o (filter_map share heard))
    by true None inside gives later =
        ap (λ (o : Option HeardShare). fold add shares (cons_option o (filter_map share (filter (is_inside c.n) heard)))) gives ∙ later shares
    by true (Some a) inside gives later =
        ap (λ (o : Option HeardShare). fold add shares (cons_option o (filter_map share (filter (is_inside c.n) heard)))) gives ∙ later (add shares a)
    by false None inside gives later = later shares
    by false (Some a) inside gives later =
        later shares
        ∙ ap (λ (shares : List HeardShare). fold add shares (filter_map share heard))
        (sym (outside_share (coin_root c e j r) c.n shares a (ap (λ (m : ℕ). nat_lt m c.n) (share_node e r h.from h.vote a gives) ∙ inside)))

shares_inside : (c : Numbers) (e j r : ℕ) (heard : List Hearing) → shares_in c e j r (filter (is_inside c.n) heard) ≡ shares_in c e j r heard
shares_inside c e j r heard = shares_from c e j r heard []

coin_inside : (c : Numbers) (e j r : ℕ) (heard : List Hearing) → coin_in c e j (filter (is_inside c.n) heard) r ≡ coin_in c e j heard r
coin_inside c e j r heard = ap (coin_from c.f) (shares_inside c e j r heard)

-- ---- what the agreement looks at

view_inside : (c : Numbers) (i j e : ℕ) (own : List Vote) (heard : List Hearing) → i < c.n
    → view_of c i j e own (filter (is_inside c.n) heard) ≡ view_of c i j e own heard
view_inside c i j e own heard below =
    let few : List Hearing = filter (is_inside c.n) heard in
    let counts : (λ (claim : Claim). support c.n e claim few) ≡ (λ claim. support c.n e claim heard) =
    fun_ext (λ claim. count_inside c.n heard (λ a. makes e claim)) in
    let coins : coin_in c e j few ≡ coin_in c e j heard = fun_ext (λ r. coin_inside c e j r heard) in
    let no_more : heard_by few i (is_no_more e) ≡ heard_by heard i (is_no_more e) = heard_inside c.n i heard (is_no_more e) below in
    ap (λ (f : Claim → ℕ). record { cast = λ mark. has e mark own; count = f; coin = coin_in c e j few; no_more = heard_by few i (is_no_more e) }) counts
    ∙ ap (λ (f : ℕ → Option Bool).
    record { cast = λ mark. has e mark own; count = λ claim. support c.n e claim heard; coin = f; no_more = heard_by few i (is_no_more e) }) coins
    ∙ ap (λ (b : Bool). record { cast = λ mark. has e mark own; count = λ claim. support c.n e claim heard; coin = coin_in c e j heard; no_more = b }) no_more

choice_inside : (c : Numbers) (i j e : ℕ) (name : AgreementSlot) (own : List Vote) (heard : List Hearing) → i < c.n
    → (agreement_slot c i j e name).choice own (filter (is_inside c.n) heard) ≡ (agreement_slot c i j e name).choice own heard
unfolding agreement_slot
choice_inside c i j e name own heard below = ap (choice_of c i j e name) (view_inside c i j e own heard below)

pub agreement_inside : (c : Numbers) (i j e : ℕ) (own : List Vote) (heard : List Hearing) → i < c.n
    → IsIdle (agreement_slots c i j e) own (filter (is_inside c.n) heard) ↔ IsIdle (agreement_slots c i j e) own heard
agreement_inside c i j e own heard below = (
  idle_carried (agreement_slots c i j e) own (filter (is_inside c.n) heard) heard
      (of_epoch-hold (λ k. IsCarried own (filter (is_inside c.n) heard) heard) e (agreement_rows c i j)
      (agreement_hold (λ k. IsCarried own (filter (is_inside c.n) heard) heard) c i j
      (λ k name known. record { none = λ none. sym (choice_inside c i j k name own heard below) ∙ none }))),
  idle_carried (agreement_slots c i j e) own heard (filter (is_inside c.n) heard)
      (of_epoch-hold (λ k. IsCarried own heard (filter (is_inside c.n) heard)) e (agreement_rows c i j)
      (agreement_hold (λ k. IsCarried own heard (filter (is_inside c.n) heard)) c i j
      (λ k name known. record { none = λ none. choice_inside c i j k name own heard below ∙ none }))),
)
