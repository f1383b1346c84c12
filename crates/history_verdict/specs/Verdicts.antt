-- What a judge of posts answers, and which of a history's posts is the first that may not follow those before it.
use Rattle.std.specs.Prelude.{◌≡◌, ℕ, ◌+◌, ◌<◌, Bool, true, false, List, [], ◌∷◌, ◌++◌, length, take}
use Rattle.hb_base.specs.Numbers.{Numbers}
use Rattle.hb_wire.specs.declared.post.Post.{Post}
use Rattle.hb_rules.specs.History.{MayFollow, IsLegal}
use Rattle.hb_rules.specs.Strings.{NoCollision}
use Rattle.history_verdict.specs.declared.verdict.Verdict.{Verdict}
use Rattle.history_verdict.specs.declared.verdict.Verdict.TheVariants.{Legal, Illegal}

-- The answer says whether the post may follow the history. A yes is always right, and a no is right where no two hashed
-- strings share a digest.
pub record Judges (c : Numbers) (history : List Post) (post : Post) (answer : Bool) : Type 0 where
  pub sound : answer ≡ true → MayFollow c history post
  pub complete : answer ≡ false → NoCollision c (history ++ post ∷ []) → MayFollow c history post → ⊥

-- The posts before post k are a legal history, and where no two hashed strings share a digest, these with post k
-- are none.
pub record IsFirstIllegal (c : Numbers) (history : List Post) (k : ℕ) : Type 0 where
  pub inside : k < length history
  pub before : IsLegal c (take k history)
  pub with_it : NoCollision c (take (k + 1) history) → IsLegal c (take (k + 1) history) → ⊥

-- what a verdict says of a history
abbrev pub IsVerdict : Numbers → List Post → Verdict → Type 0
IsVerdict c history (Legal posts) = IsLegal c history × (posts ≡ length history)
IsVerdict c history (Illegal post) = IsFirstIllegal c history post
