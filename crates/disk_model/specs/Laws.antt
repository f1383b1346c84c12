-- What holds of every disk in memory: a crash may leave what a read gives, and since this moment there is no other.
use Rattle.std.specs.Prelude.{◌≤◌, ℕ, List, [], ◌∷◌, length, refl}
use Rattle.std.proofs.Common.{inl, inr, arith}
use Rattle.disk_model.specs.declared.halves.Halves.{Halves}
use Rattle.disk_model.specs.Image.{Image}
use Rattle.disk_model.specs.Area.{AreaState, MayBeLeft}
use Rattle.disk_model.specs.Halves.{HalvesMayLeave, content_of}
use Rattle.disk_model.specs.Memory.{MemoryState, LeftIn, LeftSince}

content_stays : (area : AreaState) → MayBeLeft area area.content
content_stays area = record { no_shorter = omega arith; no_longer = omega arith; others = λ k l m n. refl }

pub seen_stays : (halves : Halves) → HalvesMayLeave halves (content_of halves)
seen_stays halves = record { a = content_stays halves.a; b = content_stays halves.b }

none_later : (past : List Halves) (t : ℕ) (c : Image) → length past ≤ t → LeftIn t past c → ⊥
none_later [] t c h left = left
none_later (halves ∷ older) t c h (inl now) = omega (arith, h, now.0)
none_later (halves ∷ older) t c h (inr left) = none_later older t c (omega (arith, h)) left

pub only_now_left : (disk : MemoryState) (c : Image) → LeftSince disk (length disk.past) c → HalvesMayLeave disk.halves c
only_now_left disk c (inl now) = now
only_now_left disk c (inr left) = absurd (none_later disk.past (length disk.past) c (omega arith) left)
