-- A function of numbers, of which one value was changed.
use Rattle.std.proofs.Common.{◌≡◌, ℕ, ◌≢◌, eqb, eq-eqb, ne_eqb, cond, refl, ap}

-- f with the value a at k
abbrev pub put : (ℕ → ℕ) → ℕ → ℕ → ℕ → ℕ
put f k a i = cond (eqb i k) a (f i)

pub put_here : (f : ℕ → ℕ) (k a : ℕ) → put f k a k ≡ a
put_here f k a = ap (λ b. cond b a (f k)) (eq-eqb k k refl)

pub put_at : (f : ℕ → ℕ) (k a i : ℕ) → i ≡ k → put f k a i ≡ a
put_at f k a i e = ap (λ b. cond b a (f i)) (eq-eqb i k e)

pub put_else : (f : ℕ → ℕ) (k a i : ℕ) → i ≢ k → put f k a i ≡ f i
put_else f k a i ne = ap (λ b. cond b a (f i)) (ne_eqb i k ne)
