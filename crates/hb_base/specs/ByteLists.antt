-- Lists of bytes, as clauses see a `Bytes`.
use Rattle.std.specs.Prelude.{ℕ, ◌<◌, List, All}

-- numbers that fit into a byte each
abbrev pub AreBytes : List ℕ → Type 0
AreBytes bytes = All (λ byte. byte < 256) bytes
