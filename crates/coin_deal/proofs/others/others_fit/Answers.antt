use Rattle.std.proofs.Common.{◌≡◌, ℕ, suc, ◌+◌, ◌<◌, [], ◌∷◌, ◌++◌, length, get_or, take, drop, sym, ap, ap₂, ◌∙◌, subst, arith}
use Rattle.std.proofs.lemmas.List.{take_all, take_more, get_or-drop, length-drop, length-map}
use Rattle.std.proofs.lemmas.List.Elements.{All-from_get_or}
use Rattle.gf_field.specs.Field.{field_sum, field_product}
use Rattle.hb_base.specs.ByteLists.{AreBytes}
use Rattle.gf_field.specs.Polynomial.{polynomial_at, AreDistinct, Interpolates}
use Rattle.coin_deal.specs.declared.others.NodeShare.{NodeShare}
use Rattle.coin_deal.specs.Sharing.{HasShares}
use Rattle.coin_deal.proofs.Peeling.{at_zero, drop-bytes, value_left, written}
use Rattle.coin_deal.proofs.Fitting.{points_of, values_of, point_at, value_at, nodes-distinct, small, some_point, nobody, polynomial_of, polynomial_of-has, only_one}
use Rattle.coin_deal.proofs.others.others_fit.Goals as goal
use Rattle.coin_deal.proofs.others.others_fit.Goals.{After-loop-known}

-- all shares are read
all_read : (c : After-loop-known) → take c.loop-known.known-index c.args.shares.now ≡ c.args.shares.now
all_read c = take_all c.loop-known.known-index c.args.shares.now (omega arith)

points_are : (c : After-loop-known) → c.loop-known.points.items ≡ points_of c.args.shares.now
points_are c = c.loop-known.invariant.points ∙ ap points_of (all_read c)

values_are : (c : After-loop-known) → c.loop-known.values.items ≡ values_of c.args.shares.now
values_are c = c.loop-known.invariant.values ∙ ap values_of (all_read c)

pub loop-init : goal.loop-init
loop-init c =
    let shares = c.args.shares.now in
    let d = (goal.at.loop-init c).After-loop-known in
    let bytes : AreBytes (values_of shares) = subst AreBytes (values_are d) (All-from_get_or (λ x. x < 256) c.loop-known.values.items 0 (λ k h. c.loop-known.invariant.bytes k (omega (arith, ap length (values_are d), length-map shares (λ (a : NodeShare). a.share))))) in
    let whole = polynomial_of shares c.args.secret in
    let has = polynomial_of-has shares c.requires.apart c.args.secret c.ranges.secret.fits bytes in
    let lowest : c.args.secret ≡ get_or whole 0 0 = sym has.at_zero ∙ at_zero whole in
    let count : length whole ≡ length shares + 1 = has.count in
    record {
      bytes = bytes;
      has = has;
      points = points_are d;
      size = ap length (values_are d) ∙ length-map shares (λ (a : NodeShare). a.share);
      coefficients = c.in_ok-push-3.ensures.items ∙ ap₂ (λ xs x. xs ++ x ∷ []) c.in_ok-coefficients.ensures.items lowest ∙ sym (take_more whole 0 0 (omega arith));
      lowest = lowest;
      values = λ i h.
          ap (λ vs. get_or vs i 0) (values_are d) ∙ value_at shares i nobody h ∙ sym (has.at_nodes i nobody h)
          ∙ ap (polynomial_at whole) (sym (ap (λ ps. get_or ps i 0) (points_are d) ∙ point_at shares i nobody h));
    }

pub take_lowest-requires-clause-some : goal.take_lowest-requires-clause-some
take_lowest-requires-clause-some c i h = some_point c.args.shares.now c.deref.result.now i (c.deref.ensures.value ∙ c.loop.invariant.points) h

pub interpolate_at-lowest-requires-clause-distinct : goal.interpolate_at-lowest-requires-clause-distinct
interpolate_at-lowest-requires-clause-distinct c =
    subst AreDistinct (sym (c.deref-in-loop.ensures.value ∙ c.loop.invariant.points)) (nodes-distinct c.args.shares.now c.requires.apart)

pub loop-preserved : goal.loop-preserved
loop-preserved c =
    let shares = c.args.shares.now in
    let whole = polynomial_of shares c.args.secret in
    let k = c.loop.counter in
    let held = c.loop.invariant in
    let old = c.loop.values.items in
    let new = c.take_lowest.new.values in
    let points = c.loop-known.points.items in
    let count : length whole ≡ length shares + 1 = held.has.count in
    let below : k + 1 < length whole = omega (arith, c.requires.count) in
    let same : length new ≡ length old = c.take_lowest.auto.values ∙ ap length c.deref_mut.ensures.value in
    let items = written old new c.loop.values.len same c.loop.values.ok.0 in
    let long : length points ≡ length shares = ap length held.points ∙ length-map shares (λ (a : NodeShare). a.node + 1) in
    let read : c.deref.result.now ≡ points = c.deref.ensures.value in
    let left = λ (i : ℕ) (h : i < length shares).
    let inside : i < length points = omega arith in
    let point : get_or points i 0 < 256 = subst (λ ps. get_or ps i 0 < 256) (sym held.points)
    (small shares c.requires.apart (suc i) (omega (arith, length-map shares (λ (a : NodeShare). a.node + 1)))) in
    value_left whole k (get_or points i 0) (get_or old i 0) (get_or new i 0) held.has.bytes (omega (arith, c.requires.count)) (some_point shares points i held.points inside)
    point (c.take_lowest.ensures.bytes i (rw read inside)) (held.values i h)
    (ap (λ ps. field_product (get_or ps i 0) (get_or new i 0)) (sym read) ∙ c.take_lowest.ensures.divided i (rw read inside)
    ∙ ap₂ field_sum (ap (λ vs. get_or vs i 0) c.deref_mut.ensures.value) held.lowest) in
    let rest = drop (k + 1) whole in
    let passes : Interpolates c.deref-in-loop.result.now c.deref-in-loop-2.result.now rest = record {
      degree = record {
        short = omega (arith, length-drop (k + 1) whole, ap length c.deref-in-loop.ensures.value);
        bytes = drop-bytes (k + 1) whole held.has.bytes;
      };
      passes = λ i h.
          let inside : i < length shares = omega (arith, ap length c.deref-in-loop.ensures.value) in
          ap (λ ps. polynomial_at rest (get_or ps i 0)) c.deref-in-loop.ensures.value ∙ sym (left i inside)
          ∙ ap (λ vs. get_or vs i 0) (sym (c.deref-in-loop-2.ensures.value ∙ items));
    } in
    let lowest : c.interpolate_at-lowest.result ≡ get_or whole (k + 1) 0 =
    c.interpolate_at-lowest.ensures.value rest passes ∙ at_zero rest ∙ get_or-drop (k + 1) whole 0 0 ∙ ap (λ i. get_or whole i 0) (omega arith) in
    record {
      bytes = held.bytes;
      has = held.has;
      points = held.points;
      size = ap length items ∙ same ∙ held.size;
      coefficients = c.in_ok-push-4.ensures.items ∙ ap₂ (λ xs x. xs ++ x ∷ []) held.coefficients lowest ∙ sym (take_more whole (k + 1) 0 below);
      lowest = lowest;
      values = λ i h. ap (λ vs. get_or vs i 0) items ∙ left i h;
    }

pub returns-clause-only : goal.returns-clause-only
returns-clause-only c other h =
    let shares = c.args.shares.now in
    let whole = polynomial_of shares c.args.secret in
    let ends : c.loop.counter ≡ c.args.f = omega arith in
    let count : length whole ≡ length shares + 1 = c.loop.invariant.has.count in
    only_one shares c.requires.apart c.args.secret other whole (subst (λ f. HasShares f shares c.args.secret other) (sym c.requires.count) h) c.loop.invariant.has
    ∙ sym (c.loop.invariant.coefficients ∙ take_all (c.loop.counter + 1) whole (omega (arith, c.requires.count)))

pub returns-clause-every_secret : goal.returns-clause-every_secret
returns-clause-every_secret c s h = (
  polynomial_of c.args.shares.now s,
  subst (λ f. HasShares f c.args.shares.now s (polynomial_of c.args.shares.now s)) c.requires.count
      (polynomial_of-has c.args.shares.now c.requires.apart s h c.loop.invariant.bytes),
)
