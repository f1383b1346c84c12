-- The lists of a scenario, in the order in which they are read.
use Rattle.std.specs.Prelude.{ℕ, ◌+◌, ◌-◌, ◌^◌, ◌&&◌, ◌==◌, min, Bool, nat_lt, nat_le, List, [], ◌∷◌, ◌++◌, length, count_by, Result}
use Rattle.std.specs.Prelude.{Ok, Err, if◌then◌else◌, bytes_eq, ⊤}
use Rattle.std.specs.List.{list_any}
use Rattle.serde_json.specs.Data.{Data, Items, no_items, item}
use Rattle.disk_model.specs.declared.plan.Stop.{Stop}
use Rattle.hb_base.specs.Limits.{most_posts, most_links, most_stops, most_faults}
use Rattle.script_fault.specs.declared.fault.ScriptFault.{ScriptFault}
use Rattle.script_fault.specs.declared.fault.ScriptFault.TheVariants.{OutOfRange, TooManyLiars, LiarTwice, NoSuchLiar}
use Rattle.script_fault.specs.declared.place.ListName.{ListName}
use Rattle.script_fault.specs.declared.place.ListName.TheVariants as lists
use Rattle.script_fault.specs.declared.place.KeyName.TheVariants as keys
use Rattle.net_script.specs.declared.script.Submit.{Submit}
use Rattle.net_script.specs.declared.script.LiarAt.{LiarAt}
use Rattle.net_script.specs.declared.script.Link.{Link}
use Rattle.script_reader.specs.declared.stops.StopAt.{StopAt}
use Rattle.script_reader.specs.declared.stops.CallAt.{CallAt}
use Rattle.script_reader.specs.Fault.{◌>>=◌, fine, check}
use Rattle.script_fault.specs.Place.{place, top}
use Rattle.script_reader.specs.Fields.{entry_at, number_at, number_or, node_at, node_or_any, name_at, shape_at, leave_at, transaction_at, list_at}

-- ---- any list

-- An index is told up to 2^32 - 1. No scenario has so many entries.
abbrev pub next_index : ℕ → ℕ
next_index index = min (index + 1) (2 ^ 32 - 1)

-- the entries one after another, each by those before it and its index
unfoldable pub entries_from : {X : Type 0} → (List X → ℕ → Data → Result X ScriptFault) → List X → ℕ → Items → Result (List X) ScriptFault
entries_from entry earlier index no_items = Ok earlier
entries_from entry earlier index (item d ds) = do
  x ← entry earlier index d
  entries_from entry (earlier ++ x ∷ []) (next_index index) ds

abbrev pub read_entries : {X : Type 0} → (List X → ℕ → Data → Result X ScriptFault) → Items → Result (List X) ScriptFault
read_entries entry ds = entries_from entry [] 0 ds

-- ---- submissions

-- an entry of `submit`, where there are n nodes
unfoldable pub submit_at : ℕ → List Submit → ℕ → Data → Result Submit ScriptFault
submit_at n earlier index d = do
  known ← entry_at lists.Submit index d
  node ← node_at (place lists.Submit index keys.Node) n d
  tx ← transaction_at (place lists.Submit index keys.Tx) d
  Ok (record { node = node; tx = tx })

unfoldable pub submits_at : ℕ → Data → Result (List Submit) ScriptFault
submits_at n d = do
  items ← list_at keys.Submit d
  read_entries (submit_at n) items

-- ---- liars

-- an entry of `liars`
unfoldable pub liar_at : ℕ → List LiarAt → ℕ → Data → Result LiarAt ScriptFault
liar_at n earlier index d = do
  known ← entry_at lists.Liars index d
  node ← node_at (place lists.Liars index keys.Node) n d
  name ← name_at (place lists.Liars index keys.Name) d
  hears ← number_or most_posts (place lists.Liars index keys.Hears) 0 most_posts d
  Ok (record { node = node; name = name; hears = hears })

-- the first liar whose node an earlier one names lies twice
abbrev pub each_once : List LiarAt → List LiarAt → Result ⊤ ScriptFault
each_once earlier [] = fine
each_once earlier (liar ∷ liars) =
    if list_any (λ other. other.node == liar.node) earlier then Err (LiarTwice liar.node) else each_once (earlier ++ liar ∷ []) liars

-- the first liar for whose name the cast has fewer boxes than there are such liars up to it is not to be had
abbrev pub all_cast : List (List ℕ) → List LiarAt → List LiarAt → Result ⊤ ScriptFault
all_cast cast earlier [] = fine
all_cast cast earlier (liar ∷ liars) =
    if nat_lt (count_by (λ name. bytes_eq name liar.name) cast) (count_by (λ other. bytes_eq other.name liar.name) (earlier ++ liar ∷ []))
    then Err (NoSuchLiar liar.name)
    else all_cast cast (earlier ++ liar ∷ []) liars

-- the liars, at most f of them, each at a node of its own, and each with a box of the cast
unfoldable pub liars_at : ℕ → ℕ → List (List ℕ) → Data → Result (List LiarAt) ScriptFault
liars_at n f cast d = do
  items ← list_at keys.Liars d
  liars ← read_entries (liar_at n) items
  few ← check (nat_le (length liars) f) (TooManyLiars (length liars) f)
  once ← each_once [] liars
  boxes ← all_cast cast [] liars
  Ok liars

-- ---- rules on links

-- an entry of `links`
unfoldable pub link_at : ℕ → List Link → ℕ → Data → Result Link ScriptFault
link_at n earlier index d = do
  known ← entry_at lists.Links index d
  from ← node_or_any (place lists.Links index keys.From) n d
  to ← node_or_any (place lists.Links index keys.To) n d
  every ← number_at (place lists.Links index keys.Every) 1 65536 d
  at ← number_at (place lists.Links index keys.At) 0 (every - 1) d
  shape ← shape_at (place lists.Links index keys.Shape) d
  Ok (record { from = from; to = to; every = every; at = at; shape = shape })

abbrev pub count_items : Items → ℕ
count_items no_items = 0
count_items (item d ds) = count_items ds + 1

-- the rules, of which there is a most
unfoldable pub links_at : ℕ → Data → Result (List Link) ScriptFault
links_at n d = do
  items ← list_at keys.Links d
  few ← check (nat_le (count_items items) most_links) (OutOfRange (top keys.Links) (count_items items))
  read_entries (link_at n) items

-- ---- stops and faults

-- whether a device call, or a stop, is of this actor
abbrev pub is_call_of : ℕ → ℕ → CallAt → Bool
is_call_of node actor at = (at.node == node) && (at.actor == actor)

abbrev pub is_stop_of : ℕ → ℕ → StopAt → Bool
is_stop_of node actor stop = is_call_of node actor stop.at

-- a stop, as the disk is told of it
abbrev pub stop_of : StopAt → Stop
stop_of stop = record { call = stop.at.call; leave = stop.leave }

-- the device call that an entry names: an actor is 0 to n
unfoldable pub call_at : ListName → ℕ → ℕ → Data → Result CallAt ScriptFault
call_at list index n d = do
  node ← node_at (place list index keys.Node) n d
  actor ← number_at (place list index keys.Actor) 0 n d
  call ← number_at (place list index keys.Call) 1 1000000 d
  Ok (record { node = node; actor = actor; call = call })

-- an actor has at most so many entries of a list, and one more is out of range
abbrev pub room_for : ℕ → ListName → ℕ → ℕ → Result ⊤ ScriptFault
room_for most list index count = check (nat_lt count most) (OutOfRange (place list index keys.Actor) (most + 1))

-- an entry of `stops`
unfoldable pub stop_at : ℕ → List StopAt → ℕ → Data → Result StopAt ScriptFault
stop_at n earlier index d = do
  known ← entry_at lists.Stops index d
  at ← call_at lists.Stops index n d
  leave ← leave_at (place lists.Stops index keys.Leave) d
  room ← room_for most_stops lists.Stops index (count_by (is_stop_of at.node at.actor) earlier)
  Ok (record { at = at; leave = leave })

-- an entry of `faults`
unfoldable pub fault_at : ℕ → List CallAt → ℕ → Data → Result CallAt ScriptFault
fault_at n earlier index d = do
  known ← entry_at lists.Faults index d
  at ← call_at lists.Faults index n d
  room ← room_for most_faults lists.Faults index (count_by (is_call_of at.node at.actor) earlier)
  Ok at

unfoldable pub stops_at : ℕ → Data → Result (List StopAt) ScriptFault
stops_at n d = do
  items ← list_at keys.Stops d
  read_entries (stop_at n) items

unfoldable pub faults_at : ℕ → Data → Result (List CallAt) ScriptFault
faults_at n d = do
  items ← list_at keys.Faults d
  read_entries (fault_at n) items
