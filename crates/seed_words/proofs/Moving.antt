-- A generator some words on.
use Rattle.std.proofs.Common.{◌≡◌, ℕ, ◌+◌, List, ◌∷◌, [], ◌++◌, map, sym, ap, ap₂, ◌∙◌, add_assoc, append_assoc, arith}
use Rattle.std.specs.List.{range_with_len}
use Rattle.std.proofs.lemmas.List.FromFn.{map-range_with_len_more}
use Rattle.rand_chacha.specs.ChaCha.{ChaCha}
use Rattle.seed_words.specs.Words.{moved_by, word_of}

pub moved_more : (g h : ChaCha) (k more : ℕ) → h ≡ moved_by g k → moved_by h more ≡ moved_by g (k + more)
moved_more g h k more e = ap (λ (h : ChaCha). moved_by h more) e ∙ ap (λ p. record g { word_pos = p }) (add_assoc g.word_pos k more)

-- the word that a moved generator gives next
pub word_moved : (g h : ChaCha) (k : ℕ) → h ≡ moved_by g k → word_of h h.word_pos ≡ word_of g (g.word_pos + k)
word_moved g h k e = ap (λ (h : ChaCha). word_of h h.word_pos) e

-- one item more of a list that is given place by place
pub one_more : {X : Type 0} (f : ℕ → X) (old items new : List X) (x : X) (k : ℕ)
    → items ≡ old ++ map f (range_with_len 0 k) → new ≡ items ++ x ∷ [] → x ≡ f k → new ≡ old ++ map f (range_with_len 0 (k + 1))
one_more f old items new x k so_far pushed is =
    pushed ∙ ap₂ (λ xs y. xs ++ y ∷ []) so_far is ∙ append_assoc old (map f (range_with_len 0 k)) (f k ∷ [])
    ∙ ap (λ ys. old ++ ys) (sym (map-range_with_len_more f 0 k k (omega arith)))
