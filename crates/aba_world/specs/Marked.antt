-- With which bits lanes of correct nodes have begun, and which bits they have decided. The letters: e is an epoch, b a bit, s
-- the place of a lane and an epoch, k the number of a place and a bit.
use Rattle.std.specs.Prelude.{◌≡◌, ℕ, zero, ◌+◌, ◌*◌, ◌<◌, Bool, true, false, ◌&&◌, ◌||◌, ◌==◌, not, List, Option, Some, None, length, slice_index_or}
use Rattle.std.specs.List.{list_any}
use Rattle.hb_base.specs.Limits.{most_epochs}
use Rattle.hb_base.specs.Numbers.{Numbers}
use Rattle.hb_wire.specs.declared.vote.Vote.{Vote}
use Rattle.hb_wire.specs.declared.vote.Vote.TheVariants.{Est, Decided}
use Rattle.hb_wire.specs.declared.post.Post.{Post}
use Rattle.hb_rules.specs.Lanes.{said_by_lane}
use Rattle.aba_world.specs.declared.marks.Kind.{Kind}
use Rattle.aba_world.specs.declared.marks.Kind.TheVariants.{Beginning, Decision}

-- how many places there are
abbrev pub places : ℕ
places = 512

-- the place of a lane and an epoch
abbrev pub place_of : ℕ → ℕ → ℕ
place_of lane e = lane * most_epochs + e

-- the number of a place and a bit in a table of all: first those of bit 0, then those of bit 1
abbrev pub number_of : ℕ → ℕ → Bool → ℕ
number_of lane e false = place_of lane e
number_of lane e true = places + place_of lane e

-- the number that a vote of a lane marks: a lane begins with its estimate of round 0
abbrev pub number_in : Kind → ℕ → Vote → Option ℕ
number_in Beginning lane (Est e zero b) = Some (number_of lane e b)
number_in Decision lane (Decided e b) = Some (number_of lane e b)
number_in kind lane vote = None

-- the number that a post of a lane of a correct node marks
abbrev pub mark_of : Numbers → Kind → Post → Option ℕ
mark_of c kind post = said_by_lane c (number_in kind) post

abbrev pub is_number : ℕ → Option ℕ → Bool
is_number k None = false
is_number k (Some m) = m == k

-- whether a post marks this number
abbrev pub marks : Numbers → Kind → ℕ → Post → Bool
marks c kind k post = is_number k (mark_of c kind post)

-- what stands in a table under a number
abbrev pub entry : List Bool → ℕ → Bool
entry table k = slice_index_or table k false

-- in the table those numbers stand out that some of the posts mark
pub record AreMarked (c : Numbers) (kind : Kind) (posts : List Post) (table : List Bool) : Type 0 where
  pub size : length table ≡ 1024
  pub each : (k : ℕ) → entry table k ≡ list_any (marks c kind k) posts

-- beside those of the old table, the new one has the number that one more post marks
pub record AreMarkedBy (c : Numbers) (kind : Kind) (post : Post) (old new : List Bool) : Type 0 where
  pub size : length new ≡ length old
  pub each : (k : ℕ) → entry new k ≡ (entry old k || marks c kind k post)

-- whether at a place not both bits are decided, and each one that is was begun with
abbrev pub agrees_at : List Bool → List Bool → ℕ → Bool
agrees_at begun decided s =
    not (entry decided s && entry decided (places + s))
    && ((entry begun s || not (entry decided s)) && (entry begun (places + s) || not (entry decided (places + s))))

-- it is so at all places
pub record AllAgree (begun decided : List Bool) : Type 0 where
  pub each : (s : ℕ) → s < places → agrees_at begun decided s ≡ true
