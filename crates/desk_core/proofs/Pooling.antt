-- A pool to which transactions were submitted, and nothing else.
use Rattle.std.proofs.Common.{◌≡◌, ℕ, List, [], ◌∷◌, refl, ap, ◌∙◌, map}
use Rattle.tx_pool.specs.Calls.{Call, Submit, submitted_in, settled_in, first_places, IsPoolOf}
use Rattle.tx_pool.specs.Pool.{PoolView, without}

-- the calls that submit these
abbrev pub submissions : List (List ℕ) → List Call
submissions txs = map Submit txs

submitted-submissions : (txs : List (List ℕ)) → submitted_in (submissions txs) ≡ txs
submitted-submissions [] = refl
submitted-submissions (tx ∷ txs) = ap (λ (rest : List (List ℕ)). tx ∷ rest) (submitted-submissions txs)

settled-submissions : (txs : List (List ℕ)) → settled_in (submissions txs) ≡ []
settled-submissions [] = refl
settled-submissions (tx ∷ txs) = settled-submissions txs

without-none : (txs : List (List ℕ)) → without [] txs ≡ txs
without-none [] = refl
without-none (tx ∷ txs) = ap (λ (rest : List (List ℕ)). tx ∷ rest) (without-none txs)

-- it has each at its first place
pub pooled-submissions : (txs : List (List ℕ)) (pool : PoolView) → IsPoolOf (submissions txs) pool → pool.pooled ≡ first_places txs
pooled-submissions txs pool is =
    is.pooled
    ∙ ap (λ (gone : List (List ℕ)). without gone (first_places (submitted_in (submissions txs)))) (settled-submissions txs)
    ∙ without-none (first_places (submitted_in (submissions txs)))
    ∙ ap first_places (submitted-submissions txs)
