-- A disk in memory: its states, and what each call makes of them by its plan.
use Rattle.std.specs.Prelude.{◌≡◌, ◌⊎◌, ◌≤◌, ◌<◌, ◌+◌, ◌-◌, ◌^◌, ◌==◌, ◌&&◌, ℕ, Bool, true, false, List, [], ◌∷◌, length, min, nat_lt}
use Rattle.std.specs.Prelude.{if◌then◌else◌, Option, Some, None, is_some, Result, IsOk, IsErrOf, count_by}
use Rattle.std.specs.List.{list_any}
use Rattle.disk_model.specs.declared.disk.DiskFault.{DiskFault}
use Rattle.disk_model.specs.declared.disk.DiskFault.TheVariants.{Failed, Memory}
use Rattle.disk_model.specs.declared.halves.Halves.{Halves}
use Rattle.disk_model.specs.declared.plan.Leave.{Leave}
use Rattle.disk_model.specs.declared.plan.Stop.{Stop}
use Rattle.disk_model.specs.declared.met.Met.{Met}
use Rattle.disk_model.specs.declared.met.Met.TheVariants.{Nothing, Fault, Stops, Off}
use Rattle.hb_base.specs.Limits.{most_stops}
use Rattle.disk_model.specs.Image.{Image}
use Rattle.disk_model.specs.Supply.{Supply}
use Rattle.disk_model.specs.Area.{at_rest, IsKept}
use Rattle.disk_model.specs.Halves.{HalvesMayLeave, restored}

-- the halves now, and before each call that was done or stopped and each switching on, the newest first; its plan; how many
-- calls were numbered and how many failed; and what the stop that was met last leaves, while the disk is off
pub record MemoryState : Type 0 where
  pub halves : Halves
  pub past : List Halves
  pub stops : List Stop
  pub planned : List ℕ
  pub calls : ℕ
  pub faults : ℕ
  pub off : Option Leave

-- one more, up to the greatest u64
abbrev pub one_more : ℕ → ℕ
one_more n = min (n + 1) (2 ^ 64 - 1)

-- what the first stop at this call leaves
abbrev pub stop_at : ℕ → List Stop → Option Leave
stop_at call [] = None
stop_at call (stop ∷ stops) = if stop.call == call then Some stop.leave else stop_at call stops

-- what the plan has for a call: a stop comes before a fault
abbrev pub met_at : Option Leave → Bool → Met
met_at (Some leave) fails = Stops leave
met_at None true = Fault
met_at None false = Nothing

-- what the next call meets: calls past the greatest u32 are in no plan
abbrev pub met_by : Option Leave → ℕ → List Stop → List ℕ → Met
met_by (Some leave) call stops planned = Off
met_by None call stops planned = if nat_lt call (2 ^ 32) then met_at (stop_at call stops) (list_any (λ fault. fault == call) planned) else Nothing

abbrev pub met_of : MemoryState → Met
met_of disk = met_by disk.off (one_more disk.calls) disk.stops disk.planned

-- after a call that went well, with these halves
abbrev pub passed : Halves → MemoryState → MemoryState
passed halves disk = record {
  halves = halves;
  past = disk.halves ∷ disk.past;
  stops = disk.stops;
  planned = disk.planned;
  calls = one_more disk.calls;
  faults = disk.faults;
  off = disk.off;
}

-- after one at which the power went off
abbrev pub stopped : Halves → Leave → MemoryState → MemoryState
stopped halves leave disk = record {
  halves = halves;
  past = disk.halves ∷ disk.past;
  stops = disk.stops;
  planned = disk.planned;
  calls = one_more disk.calls;
  faults = one_more disk.faults;
  off = Some leave;
}

-- after one that failed by the plan and changed nothing
abbrev pub faulted : MemoryState → MemoryState
faulted disk = record {
  halves = disk.halves;
  past = disk.past;
  stops = disk.stops;
  planned = disk.planned;
  calls = one_more disk.calls;
  faults = one_more disk.faults;
  off = disk.off;
}

-- after one while the disk was off
abbrev pub refused : MemoryState → MemoryState
refused disk = record {
  halves = disk.halves;
  past = disk.past;
  stops = disk.stops;
  planned = disk.planned;
  calls = disk.calls;
  faults = one_more disk.faults;
  off = disk.off;
}

-- after it was switched on
abbrev pub restarted : Leave → MemoryState → MemoryState
restarted leave disk = record {
  halves = restored leave disk.halves;
  past = disk.halves ∷ disk.past;
  stops = disk.stops;
  planned = disk.planned;
  calls = disk.calls;
  faults = disk.faults;
  off = None;
}

-- What a call answers and leaves, by what it meets: the halves once it is done, and those at a stop.
abbrev pub AnswersAs : {T : Type 0} → Met → Halves → Halves → MemoryState → MemoryState → Result T DiskFault → Type 0
AnswersAs Nothing done cut_off old new result = IsOk result × (new ≡ passed done old)
AnswersAs Fault done cut_off old new result = IsErrOf result Failed × (new ≡ faulted old)
AnswersAs (Stops leave) done cut_off old new result = IsErrOf result Failed × (new ≡ stopped cut_off leave old)
AnswersAs Off done cut_off old new result = IsErrOf result Failed × (new ≡ refused old)

-- It fails exactly where the plan names the call or the disk is off.
abbrev pub Answers : {T : Type 0} → Halves → Halves → MemoryState → MemoryState → Result T DiskFault → Type 0
Answers done cut_off old new result = AnswersAs (met_of old) done cut_off old new result

-- whether a write that meets this is done: one that is stopped counts as done, and no other needs memory
abbrev pub is_done : Met → Bool
is_done Nothing = true
is_done Fault = false
is_done (Stops leave) = true
is_done Off = false

-- or it finds no memory for what it does, and changes nothing
abbrev pub AnswersOrMemory : {T : Type 0} → Halves → Halves → MemoryState → MemoryState → Result T DiskFault → Type 0
AnswersOrMemory done cut_off old new result = Answers done cut_off old new result ⊎ ((is_done (met_of old) ≡ true) × IsErrOf result Memory × (new ≡ old))

-- some state since that one might have left this
abbrev pub LeftIn : ℕ → List Halves → Image → Type 0
LeftIn t [] c = ⊥
LeftIn t (halves ∷ older) c = ((t ≤ length older) × HalvesMayLeave halves c) ⊎ LeftIn t older c

abbrev pub LeftSince : MemoryState → ℕ → Image → Type 0
LeftSince disk t c = HalvesMayLeave disk.halves c ⊎ LeftIn t disk.past c

-- how many stops are at calls still to come: calls past the greatest u32 are in no plan
abbrev pub stops_after : ℕ → List Stop → ℕ
stops_after calls stops = count_by (λ stop. nat_lt calls stop.call && nat_lt stop.call (2 ^ 32)) stops

abbrev pub supply_of : MemoryState → Supply
supply_of disk = record { off = is_some disk.off; stops = stops_after disk.calls disk.stops; planned = disk.planned; calls = min disk.calls (2 ^ 32 - 1) }

-- a disk that is empty and on
abbrev pub new_disk : List Stop → List ℕ → MemoryState
new_disk stops planned = record {
  halves = record { a = at_rest []; b = at_rest [] };
  past = [];
  stops = stops;
  planned = planned;
  calls = 0;
  faults = 0;
  off = None;
}

-- what the type of a disk in memory keeps
pub record IsDisk (disk : MemoryState) : Type 0 where
  pub a : IsKept disk.halves.a
  pub b : IsKept disk.halves.b
  pub few : length disk.stops ≤ most_stops
  pub calls : disk.calls < 2 ^ 64
  pub faults : disk.faults < 2 ^ 64
