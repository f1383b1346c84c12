-- A line of nine parts, from the left and from the right.
use Rattle.std.proofs.Common.{◌≡◌, ℕ, List, [], ◌++◌, append_assoc}

pub nine_parts : (s a b c d e f g h i : List ℕ) → s ≡ []
    → ((((((((s ++ a) ++ b) ++ c) ++ d) ++ e) ++ f) ++ g) ++ h) ++ i ≡ a ++ (b ++ (c ++ (d ++ (e ++ (f ++ (g ++ (h ++ i)))))))
nine_parts s a b c d e f g h i none = rw none (simp append_assoc)
