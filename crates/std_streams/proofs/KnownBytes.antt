-- What several reads and writes do to known bytes.
use Rattle.std.proofs.Common.{refl, ℕ, ◌+◌, ◌≤◌, List, [], ◌++◌, length, take, drop, Option, None, Some, Result, Ok, Err, sym, ap, ◌∙◌, append_assoc, append-nil}
use Rattle.std.specs.Io.KnownBytes.{Keeps, Appends, ReadConsumes}
use Rattle.std.proofs.Math.Seq.{take-add}
use Rattle.hb_base.specs.Outside.{AppendsFront}

pub keeps_itself : (known : Option (List ℕ)) → Keeps known known
keeps_itself None = tt
keeps_itself (Some xs) = refl

pub keeps_then_keeps : (old now new : Option (List ℕ)) → Keeps old now → Keeps now new → Keeps old new
keeps_then_keeps None now new first then = tt
keeps_then_keeps (Some xs) None new first then = absurd first
keeps_then_keeps (Some xs) (Some ys) None first then = absurd then
keeps_then_keeps (Some xs) (Some ys) (Some zs) first then = then ∙ first

-- a read after others that took nothing
pub keeps_then_read : {E : Type 0} (old now new : Option (List ℕ)) (r : Result ℕ E) (buf : List ℕ) → Keeps old now → ReadConsumes now new r buf → ReadConsumes old new r buf
keeps_then_read None now new (Ok n) buf kept read = (tt, read.1)
keeps_then_read (Some xs) None new (Ok n) buf kept read = absurd kept
keeps_then_read (Some xs) (Some ys) new (Ok n) buf kept read = rw (sym kept) read
keeps_then_read old now new (Err e) buf kept read = keeps_then_keeps old now new kept read

pub appends_nothing : (old new : Option (List ℕ)) → Keeps old new → Appends old new []
appends_nothing None new kept = tt
appends_nothing (Some xs) None kept = absurd kept
appends_nothing (Some xs) (Some ys) kept = kept ∙ sym (append-nil xs)

pub appends_then_appends : (old now new : Option (List ℕ)) (xs ys : List ℕ) → Appends old now xs → Appends now new ys → Appends old new (xs ++ ys)
appends_then_appends None now new xs ys first then = tt
appends_then_appends (Some ps) None new xs ys first then = absurd first
appends_then_appends (Some ps) (Some qs) None xs ys first then = absurd then
appends_then_appends (Some ps) (Some qs) (Some rs) xs ys first then = then ∙ ap (λ zs. zs ++ ys) first ∙ append_assoc ps xs ys

-- a front was written, and then more of the rest
pub front_grows : (old now new : Option (List ℕ)) (bytes : List ℕ) (at count : ℕ) → Appends old now (take at bytes) → Appends now new (take count (drop at bytes)) → Appends old new (take (at + count) bytes)
front_grows old now new bytes at count first then = rw (take-add at count bytes) (appends_then_appends old now new (take at bytes) (take count (drop at bytes)) first then)

-- a front was written, and then nothing
pub front_stays : (old now new : Option (List ℕ)) (bytes : List ℕ) (at : ℕ) → at ≤ length bytes → Appends old now (take at bytes) → Keeps now new → AppendsFront old new bytes
front_stays old now new bytes at within first kept =
    (at, within, rw (sym (append-nil (take at bytes))) (appends_then_appends old now new (take at bytes) [] first (appends_nothing now new kept)))
