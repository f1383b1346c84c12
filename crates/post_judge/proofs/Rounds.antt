-- Places of shares, round by round.
use Rattle.std.proofs.Common.{◌≡◌, ℕ, zero, suc, ◌+◌, ◌<◌, Contains, map, sym, subst, arith}
use Rattle.std.specs.List.{range_with_len}
use Rattle.hb_rules.proofs.Lists.{Contains-first, Contains-later, Contains-cases}
use Rattle.post_judge.specs.declared.place.Place.{Place}
use Rattle.post_judge.specs.declared.place.Topic.TheVariants as topics
use Rattle.post_judge.specs.Places.{place, share_places}

among_from : (x e low count r : ℕ) → low + r < low + count
    → Contains (map (λ s. place topics.Shared x e s) (range_with_len low count)) (place topics.Shared x e (low + r))
among_from x e low zero r inside = absurd (omega (arith, inside))
among_from x e low (suc count) zero inside =
    let here : low + 0 ≡ low = omega arith in
    subst (λ (k : ℕ). Contains (map (λ s. place topics.Shared x e s) (range_with_len low (suc count))) (place topics.Shared x e k)) (sym here)
    (Contains-first (place topics.Shared x e low) (map (λ s. place topics.Shared x e s) (range_with_len (low + 1) count)))
among_from x e low (suc count) (suc r) inside =
    let there : low + suc r ≡ (low + 1) + r = omega arith in
    subst (λ (k : ℕ). Contains (map (λ s. place topics.Shared x e s) (range_with_len low (suc count))) (place topics.Shared x e k)) (sym there)
    (Contains-later (place topics.Shared x e low) (map (λ s. place topics.Shared x e s) (range_with_len (low + 1) count)) (place topics.Shared x e ((low + 1) + r))
    (among_from x e (low + 1) count r (omega (arith, inside))))

-- the place of the shares of each round of the run is among them
pub share_place : (x e rounds r : ℕ) → r < rounds → Contains (share_places x e rounds) (place topics.Shared x e r)
share_place x e rounds r inside =
    let here : 0 + r ≡ r = omega arith in
    subst (λ (k : ℕ). Contains (share_places x e rounds) (place topics.Shared x e k)) here (among_from x e 0 rounds r (omega (arith, inside)))

only_from : (x e low count : ℕ) (p : Place) → Contains (map (λ s. place topics.Shared x e s) (range_with_len low count)) p
    → (r : ℕ) × (p ≡ place topics.Shared x e r)
only_from x e low zero p stands = absurd (omega (arith, stands.1))
only_from x e low (suc count) p stands =
    Contains-cases (place topics.Shared x e low) (map (λ s. place topics.Shared x e s) (range_with_len (low + 1) count)) p stands
    ((r : ℕ) × (p ≡ place topics.Shared x e r)) (λ is. (low, sym is)) (λ rest. only_from x e (low + 1) count p rest)

-- and nothing else is
pub only_shares : (x e rounds : ℕ) (p : Place) → Contains (share_places x e rounds) p → (r : ℕ) × (p ≡ place topics.Shared x e r)
only_shares x e rounds p stands = only_from x e 0 rounds p stands
