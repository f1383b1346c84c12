-- What a liar has said.
use Rattle.std.specs.Prelude.{◌≡◌, ℕ, ◌+◌, ◌≤◌, List, [], ◌∷◌, ◌++◌, length, All}
use Rattle.hb_wire.specs.declared.post.Lie.{Lie}
use Rattle.hb_wire.specs.declared.vote.To.{To}
use Rattle.hb_base.specs.Limits.{most_lies, longest_lie}

-- the liar's node, the lies that wait to be posted, and how many were ever taken
pub record LiesView : Type 0 where
  pub node : ℕ
  pub waiting : List Lie
  pub taken : ℕ

-- at most so many lies, none too long, all under the liar's node
pub record IsWithinLimits (lies : LiesView) : Type 0 where
  pub node : All (λ lie. lie.node ≡ lies.node) lies.waiting
  pub short : All (λ lie. length lie.bytes ≤ longest_lie) lies.waiting
  pub counted : length lies.waiting ≤ lies.taken
  pub few : lies.taken ≤ most_lies

-- nothing was said
abbrev pub no_lies : ℕ → LiesView
no_lies node = record { node = node; waiting = []; taken = 0 }

-- one lie more, which waits behind the others
abbrev pub with_lie : LiesView → ℕ → To → List ℕ → LiesView
with_lie lies actor to bytes = record {
  node = lies.node;
  waiting = lies.waiting ++ record { node = lies.node; actor = actor; to = to; bytes = bytes } ∷ [];
  taken = lies.taken + 1;
}
