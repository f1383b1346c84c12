-- When the entries of a journal are folded, and how many there are.
use Rattle.std.specs.Prelude.{ℕ, ◌⊎◌, ◌≤◌, ◌+◌, ◌^◌, max, Bool, ◌&&◌, ◌==◌, nat_lt, List, [], ◌∷◌, ◌++◌, length, if◌then◌else◌}
use Rattle.std.specs.List.{concat}
use Rattle.disk_model.specs.Image.{Image}
use Rattle.vote_journal.specs.Text.{text_of}
use Rattle.vote_journal.specs.Usable.{IsUsable, disk_of, entries_in_journal}
use Rattle.vote_journal.specs.declared.journal.Journal.{Journal}
use Rattle.hb_wire.specs.declared.vote.Vote.{Vote}
use Rattle.journaled_actor.specs.Payload.{payload}

-- there are 64 entries, of fewer than 2^32 bytes together
abbrev pub is_full : List (List ℕ) → Bool
is_full entries = (length entries == 64) && nat_lt (length (concat entries)) (2 ^ 32)

-- the entries, put together where they are full
abbrev pub folded_if_full : List (List ℕ) → List (List ℕ)
folded_if_full entries = if is_full entries then concat entries ∷ [] else entries

-- the entries once votes are cast: these as one entry behind the others, which are folded first where they are full; and
-- where there are no votes, the same
abbrev pub entries_after : List (List ℕ) → List Vote → List (List ℕ)
entries_after entries [] = entries
entries_after entries (vote ∷ votes) = folded_if_full entries ++ payload (vote ∷ votes) ∷ []

-- so many entries of this text are few: at most 64, or the text has 2^32 bytes or more
abbrev pub AreFew : ℕ → List ℕ → Type 0
AreFew count text = (count ≤ 64) ⊎ (2 ^ 32 ≤ length text)

-- so many entries there are at most while one is added to these
abbrev pub most_while : List (List ℕ) → ℕ
most_while entries = max (length entries) (length (folded_if_full entries) + 1)

-- a journal that may be appended to, of few entries
pub record IsReady {D : Type 0} (seen : D → Image) (may_leave : D → Image → Type 0) (journal : Journal D) : Type 0 where
  pub usable : IsUsable seen may_leave journal
  pub few : AreFew (length (entries_in_journal seen journal)) (text_of (seen (disk_of journal)))
