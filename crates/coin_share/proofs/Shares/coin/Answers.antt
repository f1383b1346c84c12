use Rattle.std.proofs.Common.{◌≡◌, ◌+◌, ℕ, List, inl, inr, length, take, sym, ap, ◌∙◌, subst, arith}
use Rattle.std.proofs.lemmas.List.{length-take}
use Rattle.gf_field.specs.Polynomial.{polynomial_at, Interpolates}
use Rattle.coin_deal.specs.Deal.{coin_of}
use Rattle.coin_deal.specs.Heard.{HeardShare, points, values, polynomial_through}
use Rattle.coin_deal.proofs.OneCoin.{dealt}
use Rattle.coin_share.specs.Shares.{SharesView, added_of, deciding}
use Rattle.coin_share.specs.declared.KeptShare.{KeptShare}
use Rattle.coin_share.proofs.Deciding.{HasEnough, has_enough, choice_of, secret_weighted}
use Rattle.coin_share.proofs.Shares.coin.Goals as goal

-- what is said of the first entries is said of the deciding shares
secret_is : (now : SharesView) (first : List KeptShare) (secret : ℕ) → HasEnough now first → secret ≡ polynomial_at (polynomial_through (added_of first)) 0
    → secret ≡ polynomial_at (polynomial_through (deciding now)) 0
secret_is now first secret has is = is ∙ ap (λ shares. polynomial_at (polynomial_through shares) 0) has.deciding_are

through_them : (now : SharesView) (first : List KeptShare) → HasEnough now first
    → Interpolates (points (added_of first)) (values (added_of first)) (polynomial_through (added_of first))
    → Interpolates (points (deciding now)) (values (deciding now)) (polynomial_through (deciding now))
through_them now first has h =
    subst (λ (shares : List HeardShare). Interpolates (points shares) (values shares) (polynomial_through shares)) has.deciding_are h

pub secret-requires-clause-nodes : goal.secret-requires-clause-nodes
secret-requires-clause-nodes c =
    let a = c.self.inside in
    (has_enough a.n a.f a.count a.root a.kept c.args.self.now c.self.invariant c.self.view_is (omega arith)).nodes

pub secret-requires-clause-distinct : goal.secret-requires-clause-distinct
secret-requires-clause-distinct c =
    let a = c.self.inside in
    (has_enough a.n a.f a.count a.root a.kept c.args.self.now c.self.invariant c.self.view_is (omega arith)).distinct

pub returns-clause-few : goal.returns-clause-few
returns-clause-few c =
    let a = c.self.inside in
    let now = c.args.self.now in
    let has = has_enough a.n a.f a.count a.root a.kept now c.self.invariant c.self.view_is (omega arith) in
    let size : length (deciding now) ≡ now.f + 1 = has.count in
    ((λ e. cc), (λ few. absurd (omega (arith, length-take (now.f + 1) now.added))))

pub returns-clause-value : goal.returns-clause-value
returns-clause-value c =
    let a = c.self.inside in
    let now = c.args.self.now in
    let has = has_enough a.n a.f a.count a.root a.kept now c.self.invariant c.self.view_is (omega arith) in
    ap coin_of (secret_is now (take (a.f + 1) a.kept) c.secret.result has c.secret.ensures.value)

pub returns-clause-polynomial : goal.returns-clause-polynomial
returns-clause-polynomial c =
    let a = c.self.inside in
    let now = c.args.self.now in
    let has = has_enough a.n a.f a.count a.root a.kept now c.self.invariant c.self.view_is (omega arith) in
    record {
      polynomial = polynomial_through (deciding now);
      through = through_them now (take (a.f + 1) a.kept) has c.secret.ensures.through;
      low_bit = ap coin_of (secret_is now (take (a.f + 1) a.kept) c.secret.result has c.secret.ensures.value);
    }

pub returns-clause-weighted : goal.returns-clause-weighted
returns-clause-weighted c weights long are =
    let a = c.self.inside in
    let now = c.args.self.now in
    let first = take (a.f + 1) a.kept in
    let has = has_enough a.n a.f a.count a.root a.kept now c.self.invariant c.self.view_is (omega arith) in
    ap coin_of (secret_is now first c.secret.result has c.secret.ensures.value
    ∙ secret_weighted now.root now.n (deciding now) (polynomial_through (deciding now)) weights has.few has.good
    (through_them now first has c.secret.ensures.through) (long ∙ sym has.count) are)

pub returns-clause-dealt : goal.returns-clause-dealt
returns-clause-dealt c numbers e j r of =
    let a = c.self.inside in
    let now = c.args.self.now in
    let has = has_enough a.n a.f a.count a.root a.kept now c.self.invariant c.self.view_is (omega arith) in
    elim (dealt numbers e j r (deciding now) (omega (arith, has.few, of.n)) (choice_of now numbers e j r of has.count has.good)) [
      | inl h ↦ inl (ap coin_of (secret_is now (take (a.f + 1) a.kept) c.secret.result has c.secret.ensures.value) ∙ h)
      | inr some ↦ inr some
    ]
