-- The states of a disk in memory whose second sync is stopped, and what is read of it once it is on again.
use Rattle.std.proofs.Common.{◌≡◌, ◌-◌, ⊎_elim, ℕ, min, List, [], ◌∷◌, ◌++◌, length, take, drop, Result, Ok, Err, is_ok, true, IfOk, OnOk, ◌∙◌, ap, subst, arith}
use Rattle.std.specs.Prelude.{IsOk, IsErrOf, IsSomeAnd}
use Rattle.std.proofs.lemmas.List.{take_all, drop_all, append-nil}
use Rattle.disk_model.specs.declared.disk.DiskFault.{DiskFault}
use Rattle.disk_model.specs.declared.disk.DiskFault.TheVariants.{Failed}
use Rattle.disk_model.specs.declared.disk.Half.TheVariants.{A}
use Rattle.disk_model.specs.declared.plan.Leave.{Leave}
use Rattle.disk_model.specs.declared.plan.Stop.{Stop}
use Rattle.disk_model.specs.Image.{half_of}
use Rattle.disk_model.specs.Disk.{Reads}
use Rattle.disk_model.specs.Area.{after_write}
use Rattle.disk_model.specs.Halves.{content_of, on_half, settled}
use Rattle.disk_model.specs.Memory.{MemoryState, Answers, AnswersOrMemory, passed, stopped, restarted, new_disk}

-- the bytes that are synced, and those that are written over them
abbrev four_bytes : List ℕ
four_bytes = 9 ∷ 8 ∷ 7 ∷ 6 ∷ []

abbrev three_bytes : List ℕ
three_bytes = 1 ∷ 2 ∷ 3 ∷ []

abbrev written : List ℕ → MemoryState → MemoryState
written bytes disk = passed (on_half A (after_write 0 bytes) disk.halves) disk

abbrev synced : MemoryState → MemoryState
synced disk = passed (settled disk.halves) disk

abbrev fresh : Leave → MemoryState
fresh leave = new_disk (record { call = 4; leave = leave } ∷ []) []

abbrev one_written : Leave → MemoryState
one_written leave = written four_bytes (fresh leave)

abbrev one_synced : Leave → MemoryState
one_synced leave = synced (one_written leave)

abbrev two_written : Leave → MemoryState
two_written leave = written three_bytes (one_synced leave)

-- the disk once its power is off
abbrev pub off_after : Leave → MemoryState
off_after leave = stopped (two_written leave).halves leave (two_written leave)

pub made : (stops : List Stop) (planned : List ℕ) (leave : Leave) (disk : MemoryState) → disk ≡ new_disk stops planned
    → stops ≡ record { call = 4; leave = leave } ∷ [] → planned ≡ [] → disk ≡ fresh leave
made stops planned leave disk is one none =
    is ∙ ap (λ (s : List Stop). new_disk s planned) one ∙ ap (λ (p : List ℕ). new_disk (record { call = 4; leave = leave } ∷ []) p) none

-- a write, a sync, a write and a sync
pub goes_off : (leave : Leave) (d0 d1 d2 d3 d4 : MemoryState) (r1 r2 r3 r4 : Result (Unit {0}) DiskFault) (x1 x3 : Unit {0})
    → d0 ≡ fresh leave → r1 ≡ Ok x1 → r3 ≡ Ok x3
    → AnswersOrMemory (on_half A (after_write 0 four_bytes) d0.halves) (on_half A (after_write 0 four_bytes) d0.halves) d0 d1 r1
    → Answers (settled d1.halves) d1.halves d1 d2 r2
    → AnswersOrMemory (on_half A (after_write 0 three_bytes) d2.halves) (on_half A (after_write 0 three_bytes) d2.halves) d2 d3 r3
    → Answers (settled d3.halves) d3.halves d3 d4 r4
    → d4 ≡ off_after leave
goes_off leave d0 d1 d2 d3 d4 r1 r2 r3 r4 x1 x3 new first third a1 a2 a3 a4 =
    let is1 : d1 ≡ one_written leave =
    ⊎_elim (λ (ok : IsOk r1 × (d1 ≡ one_written leave)). ok.1) (λ none. absurd (cc (first, none.1)))
    (subst (λ (d : MemoryState). AnswersOrMemory (on_half A (after_write 0 four_bytes) d.halves) (on_half A (after_write 0 four_bytes) d.halves) d d1 r1) new a1) in
    let ok2 : IsOk r2 × (d2 ≡ one_synced leave) = subst (λ (d : MemoryState). Answers (settled d.halves) d.halves d d2 r2) is1 a2 in
    let is3 : d3 ≡ two_written leave =
    ⊎_elim (λ (ok : IsOk r3 × (d3 ≡ two_written leave)). ok.1) (λ none. absurd (cc (third, none.1)))
    (subst (λ (d : MemoryState). AnswersOrMemory (on_half A (after_write 0 three_bytes) d.halves) (on_half A (after_write 0 three_bytes) d.halves) d d3 r3) ok2.1 a3) in
    let err4 : IsErrOf r4 Failed × (d4 ≡ off_after leave) = subst (λ (d : MemoryState). Answers (settled d.halves) d.halves d d4 r4) is3 a4 in
    err4.1

-- it is switched on
pub comes_back : {E : Type 0} (leave : Leave) (d4 d5 : MemoryState) (result : Result (Unit {0}) E) (x : Unit {0}) → d4 ≡ off_after leave
    → result ≡ Ok x → OnOk result (IsSomeAnd d4.off (λ left. d5 ≡ restarted left d4)) → d5 ≡ restarted leave (off_after leave)
comes_back {E} leave d4 d5 result x off ok back =
    let some : IsSomeAnd d4.off (λ (left : Leave). d5 ≡ restarted left d4) =
    subst (λ (r : Result (Unit {0}) E). OnOk r (IsSomeAnd d4.off (λ (left : Leave). d5 ≡ restarted left d4))) ok back in
    subst (λ (d : MemoryState). IsSomeAnd d.off (λ (left : Leave). d5 ≡ restarted left d)) off some

whole : (bytes before after : List ℕ) (n : ℕ) → length bytes ≡ 4 → length before ≡ 4 → Reads bytes 0 before after n → after ≡ bytes
whole bytes before after n four room r =
    let all : n ≡ 4 = r.count ∙ ap (λ (k : ℕ). min k (length bytes - 0)) room ∙ ap (λ (k : ℕ). min 4 (k - 0)) four in
    r.is ∙ ap (λ (k : ℕ). take k (drop 0 bytes) ++ drop k before) all
    ∙ ap (λ (xs : List ℕ). xs ++ drop 4 before) (take_all 4 bytes (omega (arith, four)))
    ∙ ap (λ (xs : List ℕ). bytes ++ xs) (drop_all 4 before (omega (arith, room)))
    ∙ append-nil bytes

-- what is read then
pub found : (l leave : Leave) (disk : MemoryState) (before after : List ℕ) (result : Result ℕ DiskFault) (n : ℕ)
    → disk ≡ restarted leave (off_after leave) → result ≡ Ok n
    → IfOk result (λ m. Reads (half_of A (content_of disk.halves)) 0 before after m) → length before ≡ 4
    → leave ≡ l → length (half_of A (content_of (restarted l (off_after l)).halves)) ≡ 4
    → after ≡ half_of A (content_of (restarted l (off_after l)).halves)
found l leave disk before after result n back ok bytes room is four =
    let here : disk ≡ restarted l (off_after l) = subst (λ (k : Leave). disk ≡ restarted k (off_after k)) is back in
    let read : Reads (half_of A (content_of disk.halves)) 0 before after n =
    subst (λ (r : Result ℕ DiskFault). IfOk r (λ m. Reads (half_of A (content_of disk.halves)) 0 before after m)) ok bytes in
    whole (half_of A (content_of (restarted l (off_after l)).halves)) before after n four room
    (subst (λ (d : MemoryState). Reads (half_of A (content_of d.halves)) 0 before after n) here read)

-- which does not fail: the disk is on, and no fault is planned
pub reads_on : (leave : Leave) (disk after : MemoryState) (result : Result ℕ DiskFault) (fault : DiskFault)
    → disk ≡ restarted leave (off_after leave) → Answers disk.halves disk.halves disk after result → result ≡ Err fault → ⊥
reads_on leave disk after result fault back answers failed =
    let here : MemoryState = restarted leave (off_after leave) in
    let ok : IsOk result × (after ≡ passed here.halves here) =
    subst (λ (d : MemoryState). Answers d.halves d.halves d after result) back answers in
    let no : is_ok {T = ℕ} (Err fault) ≡ true = subst (λ (r : Result ℕ DiskFault). is_ok r ≡ true) failed ok.0 in
    cc
