-- Shares in finer parts.
use Rattle.std.proofs.Common.{◌≡◌, ℕ, zero, suc, ◌+◌, ◌-◌, ◌*◌, ◌^◌, ◌<◌, ◌≤◌, List, [], ◌∷◌, ◌++◌, map, sym, refl, ap, ◌∙◌, subst, add_comm, arith}
use Rattle.std.proofs.Math.Nat.{pow-suc}
use Rattle.mailbox.specs.Shares.{AreAtMost, parts_of, AreWhole}

pub AreAtMost-finer : (finest : ℕ) (ns : List ℕ) → AreAtMost finest ns → AreAtMost (finest + 1) ns
AreAtMost-finer finest [] h = tt
AreAtMost-finer finest (n ∷ ns) h = let a = h.0 in ((omega arith), AreAtMost-finer finest ns h.1)

pub AreAtMost-halved : (finest : ℕ) (ns : List ℕ) → AreAtMost finest ns → AreAtMost (finest + 1) (map (λ n. n + 1) ns)
AreAtMost-halved finest [] h = tt
AreAtMost-halved finest (n ∷ ns) h = let a = h.0 in ((omega arith), AreAtMost-halved finest ns h.1)

pub AreAtMost-append : (finest : ℕ) (ns ms : List ℕ) → AreAtMost finest ns → AreAtMost finest ms → AreAtMost finest (ns ++ ms)
AreAtMost-append finest [] ms h k = k
AreAtMost-append finest (n ∷ ns) ms h k = (h.0, AreAtMost-append finest ns ms h.1 k)

pub parts_of-append : (finest : ℕ) (ns ms : List ℕ) → parts_of finest (ns ++ ms) ≡ parts_of finest ns + parts_of finest ms
parts_of-append finest [] ms = omega arith
parts_of-append finest (n ∷ ns) ms = let s = parts_of-append finest ns ms in omega arith

-- a part is two parts of half the size
twice : (finest n : ℕ) → n ≤ finest → 2 ^ ((finest + 1) - n) ≡ 2 ^ (finest - n) + 2 ^ (finest - n)
twice finest n h =
    let e : (finest + 1) - n ≡ suc (finest - n) = omega arith in
    let p : 2 ^ suc (finest - n) ≡ 2 ^ (finest - n) * 2 = pow-suc 2 (finest - n) in
    ap (λ k. 2 ^ k) e ∙ p ∙ (omega arith)

pub parts_of-finer : (finest : ℕ) (ns : List ℕ) → AreAtMost finest ns → parts_of (finest + 1) ns ≡ parts_of finest ns + parts_of finest ns
parts_of-finer finest [] h = refl
parts_of-finer finest (n ∷ ns) h = let t = twice finest n h.0 in let s = parts_of-finer finest ns h.1 in omega arith

pub parts_of-halved : (finest : ℕ) (ns : List ℕ) → parts_of (finest + 1) (map (λ n. n + 1) ns) ≡ parts_of finest ns
parts_of-halved finest [] = refl
parts_of-halved finest (n ∷ ns) =
    let e : (finest + 1) - (n + 1) ≡ finest - n = omega arith in
    let p : 2 ^ ((finest + 1) - (n + 1)) ≡ 2 ^ (finest - n) = ap (λ k. 2 ^ k) e in
    let s = parts_of-halved finest ns in omega arith

pub whole-finer : (finest : ℕ) → 2 ^ (finest + 1) ≡ 2 ^ finest + 2 ^ finest
whole-finer finest =
    let e : finest + 1 ≡ suc finest = omega arith in
    let p : 2 ^ suc finest ≡ 2 ^ finest * 2 = pow-suc 2 finest in
    ap (λ k. 2 ^ k) e ∙ p ∙ (omega arith)

positive : (k : ℕ) → 0 < 2 ^ k
positive zero = omega arith
positive (suc k) = let p : 2 ^ suc k ≡ 2 ^ k * 2 = pow-suc 2 k in let s = positive k in omega arith

-- where the parts are none, there are no shares
pub no_shares : (finest : ℕ) (ns : List ℕ) → parts_of finest ns ≡ 0 → ns ≡ []
no_shares finest [] e = refl
no_shares finest (n ∷ ns) e = let p = positive (finest - n) in absurd (omega arith)

AreAtMost-more : (k finest : ℕ) (ns : List ℕ) → AreAtMost finest ns → AreAtMost (k + finest) ns
AreAtMost-more k finest [] h = tt
AreAtMost-more k finest (n ∷ ns) h = let a = h.0 in ((omega arith), AreAtMost-more k finest ns h.1)

next : (k finest : ℕ) → suc k + finest ≡ (k + finest) + 1
next k finest = omega arith

abbrev AreAll : List ℕ → ℕ → Type 0
AreAll ns finest = parts_of finest ns ≡ 2 ^ finest

finer : (k finest : ℕ) (ns : List ℕ) → AreAtMost finest ns → AreAll ns finest → AreAll ns (k + finest)
finer zero finest ns h e = let z : finest ≡ 0 + finest = omega arith in subst (AreAll ns) z e
finer (suc k) finest ns h e =
    let s = finer k finest ns h e in
    let t = parts_of-finer (k + finest) ns (AreAtMost-more k finest ns h) in
    let w = whole-finer (k + finest) in
    let r : AreAll ns ((k + finest) + 1) = omega arith in
    subst (AreAll ns) (sym (next k finest)) r

coarser : (k finest : ℕ) (ns : List ℕ) → AreAtMost finest ns → AreAll ns (k + finest) → AreAll ns finest
coarser zero finest ns h e = let z : 0 + finest ≡ finest = omega arith in subst (AreAll ns) z e
coarser (suc k) finest ns h e =
    let r : AreAll ns ((k + finest) + 1) = subst (AreAll ns) (next k finest) e in
    let t = parts_of-finer (k + finest) ns (AreAtMost-more k finest ns h) in
    let w = whole-finer (k + finest) in
    coarser k finest ns h (omega arith)

-- shares that are the whole right are so in parts of any size that is fine enough
pub whole_parts : (finest : ℕ) (ns : List ℕ) → AreAtMost finest ns → AreWhole ns → parts_of finest ns ≡ 2 ^ finest
whole_parts finest ns h w = coarser w.0 finest ns h (subst (AreAll ns) (add_comm finest w.0) (finer finest w.0 ns w.1 w.2))

AreAtMost-around : (finest : ℕ) (before after : List ℕ) (n : ℕ) → AreAtMost finest (before ++ n ∷ after)
    → AreAtMost finest before × (n ≤ finest) × AreAtMost finest after
AreAtMost-around finest [] after n h = (tt, h.0, h.1)
AreAtMost-around finest (m ∷ before) after n h = let r = AreAtMost-around finest before after n h.1 in ((h.0, r.0), r.1, r.2)

pub whole_first : AreWhole (0 ∷ [])
whole_first = (0, ((omega arith), tt), refl)

-- a split leaves the whole right whole
pub whole_split : (before after : List ℕ) (splits : ℕ) → AreWhole (before ++ splits ∷ after) → AreWhole ((before ++ (splits + 1) ∷ after) ++ (splits + 1) ∷ [])
whole_split before after splits w =
    let f : ℕ = w.0 in
    let n : ℕ = splits + 1 in
    let h = AreAtMost-around f before after splits w.1 in
    let most : n ≤ f + 1 = let a = h.1 in omega arith in
    let mid : AreAtMost (f + 1) (n ∷ after) = (most, AreAtMost-finer f after h.2) in
    let all = AreAtMost-append (f + 1) (before ++ n ∷ after) (n ∷ [])
    (AreAtMost-append (f + 1) before (n ∷ after) (AreAtMost-finer f before h.0) mid) (most, tt) in
    let e : (f + 1) - (splits + 1) ≡ f - splits = omega arith in
    let half : 2 ^ ((f + 1) - (splits + 1)) ≡ 2 ^ (f - splits) = ap (λ k. 2 ^ k) e in
    let a₁ = parts_of-append (f + 1) (before ++ n ∷ after) (n ∷ []) in
    let a₂ = parts_of-append (f + 1) before (n ∷ after) in
    let a₃ = parts_of-append f before (splits ∷ after) in
    let b = parts_of-finer f before h.0 in
    let c = parts_of-finer f after h.2 in
    let d = whole-finer f in
    let was : parts_of f (before ++ splits ∷ after) ≡ 2 ^ f = w.2 in
    (f + 1, all, omega arith)
