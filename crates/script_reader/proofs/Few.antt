-- No list has more entries of one kind than it may.
use Rattle.std.proofs.Common.{◌≡◌, ℕ, ◌+◌, ◌<◌, ◌≤◌, ◌==◌, Bool, true, false, nat_lt, nat_le, List, [], ◌∷◌, ◌++◌, length, count_by, cond, Result, Ok, refl, sym, ap, subst, ◌∙◌, arith, ltb-true, leb-true, eqb-true, length-append}
use Rattle.std.proofs.lemmas.List.Sums.{sum_by-append}
use Rattle.serde_json.specs.Data.{Data, Items, no_items, item}
use Rattle.hb_base.specs.Limits.{most_links, most_stops, most_faults}
use Rattle.disk_model.specs.declared.plan.Leave.{Leave}
use Rattle.script_fault.specs.declared.fault.ScriptFault.{ScriptFault}
use Rattle.script_fault.specs.declared.fault.ScriptFault.TheVariants.{OutOfRange}
use Rattle.script_fault.specs.declared.place.ListName.TheVariants as lists
use Rattle.script_fault.specs.declared.place.KeyName.TheVariants as keys
use Rattle.net_script.specs.declared.script.Link.{Link}
use Rattle.script_reader.specs.declared.stops.StopAt.{StopAt}
use Rattle.script_reader.specs.declared.stops.CallAt.{CallAt}
use Rattle.script_reader.specs.Fault.{◌>>=◌, check}
use Rattle.script_fault.specs.Place.{place, top}
use Rattle.script_reader.specs.Fields.{entry_at, leave_at, list_at}
use Rattle.script_reader.specs.Entries.{next_index, entries_from, read_entries, count_items, link_at, links_at}
use Rattle.script_reader.specs.Entries.{is_call_of, is_stop_of, call_at, room_for, stop_at, fault_at, stops_at, faults_at}
use Rattle.script_reader.specs.Bounds.{AreFewStops, AreFewFaults}
use Rattle.script_reader.proofs.Steps.{then_ok, check_ok, holds_of_all}

abbrev one_if : Bool → ℕ
one_if b = cond b 1 0

-- An actor that has fewer entries than it may has no more than that with one more.
module _ {X : Type 0} (at : X → CallAt) (most : ℕ) where
  few_push : (earlier : List X) (x : X) → ((node actor : ℕ) → count_by (λ y. is_call_of node actor (at y)) earlier ≤ most)
      → count_by (λ y. is_call_of (at x).node (at x).actor (at y)) earlier < most
      → (node actor : ℕ) → count_by (λ y. is_call_of node actor (at y)) (earlier ++ x ∷ []) ≤ most
  few_push earlier x few room node actor = by ((at x).node == node) ((at x).actor == actor) refl refl
    where
      counted : count_by (λ y. is_call_of node actor (at y)) (earlier ++ x ∷ [])
          ≡ count_by (λ y. is_call_of node actor (at y)) earlier + (0 + one_if (is_call_of node actor (at x)))
      counted = sum_by-append (λ y. one_if (is_call_of node actor (at y))) earlier (x ∷ [])

      by : (b c : Bool) → ((at x).node == node) ≡ b → ((at x).actor == actor) ≡ c → count_by (λ y. is_call_of node actor (at y)) (earlier ++ x ∷ []) ≤ most
      by true true first second =
          let n : (at x).node ≡ node = eqb-true (at x).node node first in
          let a : (at x).actor ≡ actor = eqb-true (at x).actor actor second in
          let here : is_call_of node actor (at x) ≡ true = rw (first, second) refl in
          let one : one_if (is_call_of node actor (at x)) ≡ 1 = ap one_if here in
          let has : count_by (λ y. is_call_of node (at x).actor (at y)) earlier < most =
          subst (λ m. count_by (λ y. is_call_of m (at x).actor (at y)) earlier < most) n room in
          let same : count_by (λ y. is_call_of node actor (at y)) earlier < most =
          subst (λ m. count_by (λ y. is_call_of node m (at y)) earlier < most) a has in
          omega (arith, counted, one, same)
      by true false first second =
          let other : is_call_of node actor (at x) ≡ false = rw (first, second) refl in
          let none : one_if (is_call_of node actor (at x)) ≡ 0 = ap one_if other in
          omega (arith, counted, none, few node actor)
      by false c first second =
          let other : is_call_of node actor (at x) ≡ false = rw first refl in
          let none : one_if (is_call_of node actor (at x)) ≡ 0 = ap one_if other in
          omega (arith, counted, none, few node actor)

-- ---- stops

stop_room : (n : ℕ) (earlier : List StopAt) (index : ℕ) (d : Data) (stop : StopAt) → stop_at n earlier index d ≡ Ok stop
    → count_by (is_stop_of stop.at.node stop.at.actor) earlier < most_stops
unfolding stop_at
stop_room n earlier index d stop is =
    let made : CallAt → Leave → StopAt = λ at leave. record { at = at; leave = leave } in
    let count : CallAt → ℕ = λ at. count_by (is_stop_of at.node at.actor) earlier in
    let room_for_it : CallAt → Leave → Result StopAt ScriptFault = λ at leave. room_for most_stops lists.Stops index (count at) >>= λ room. Ok (made at leave) in
    let leave_for_it : CallAt → Result StopAt ScriptFault = λ at. leave_at (place lists.Stops index keys.Leave) d >>= room_for_it at in
    let known = then_ok (entry_at lists.Stops index d) (λ known. call_at lists.Stops index n d >>= leave_for_it) stop is in
    let at = then_ok (call_at lists.Stops index n d) leave_for_it stop known.2 in
    let leave = then_ok (leave_at (place lists.Stops index keys.Leave) d) (room_for_it at.0) stop at.2 in
    let room = check_ok (nat_lt (count at.0) most_stops) (OutOfRange (place lists.Stops index keys.Actor) (most_stops + 1)) (Ok (made at.0 leave.0)) stop leave.2 in
    let same : made at.0 leave.0 ≡ stop = cc room.1 in
    subst (λ (s : StopAt). count_by (is_stop_of s.at.node s.at.actor) earlier < most_stops) {x = made at.0 leave.0} same (ltb-true _ _ room.0)

-- stops that were read are few at each actor
pub few_stops : (n : ℕ) (d : Data) (stops : List StopAt) → stops_at n d ≡ Ok stops → AreFewStops stops
unfolding stops_at
few_stops n d stops is =
    let items = then_ok (list_at keys.Stops d) (λ items. read_entries (stop_at n) items) stops is in
    holds_of_all AreFewStops (stop_at n) (λ earlier index d stop few is. few_push (λ (s : StopAt). s.at) most_stops earlier stop few (stop_room n earlier index d stop is))
    [] 0 items.0 stops (λ node actor. omega arith) items.2

-- ---- faults

fault_room : (n : ℕ) (earlier : List CallAt) (index : ℕ) (d : Data) (fault : CallAt) → fault_at n earlier index d ≡ Ok fault
    → count_by (is_call_of fault.node fault.actor) earlier < most_faults
unfolding fault_at
fault_room n earlier index d fault is =
    let count : CallAt → ℕ = λ at. count_by (is_call_of at.node at.actor) earlier in
    let room_for_it : CallAt → Result CallAt ScriptFault = λ at. room_for most_faults lists.Faults index (count at) >>= λ room. Ok at in
    let known = then_ok (entry_at lists.Faults index d) (λ known. call_at lists.Faults index n d >>= room_for_it) fault is in
    let at = then_ok (call_at lists.Faults index n d) room_for_it fault known.2 in
    let room = check_ok (nat_lt (count at.0) most_faults) (OutOfRange (place lists.Faults index keys.Actor) (most_faults + 1)) (Ok at.0) fault at.2 in
    let same : at.0 ≡ fault = cc room.1 in
    subst (λ (a : CallAt). count_by (is_call_of a.node a.actor) earlier < most_faults) same (ltb-true _ _ room.0)

-- faults that were read are few at each actor
pub few_faults : (n : ℕ) (d : Data) (faults : List CallAt) → faults_at n d ≡ Ok faults → AreFewFaults faults
unfolding faults_at
few_faults n d faults is =
    let items = then_ok (list_at keys.Faults d) (λ items. read_entries (fault_at n) items) faults is in
    holds_of_all AreFewFaults (fault_at n) (λ earlier index d fault few is. few_push (λ (a : CallAt). a) most_faults earlier fault few (fault_room n earlier index d fault is))
    [] 0 items.0 faults (λ node actor. omega arith) items.2

-- ---- rules

-- as many entries are read as there are items
length_read : {X : Type 0} (entry : List X → ℕ → Data → Result X ScriptFault) (earlier : List X) (index : ℕ) (ds : Items) (xs : List X)
    → entries_from entry earlier index ds ≡ Ok xs → length xs ≡ length earlier + count_items ds
unfolding entries_from
length_read entry earlier index no_items xs is =
    let same : earlier ≡ xs = cc is in
    ap length (sym same) ∙ omega arith
length_read entry earlier index (item d ds) xs is =
    let one = then_ok (entry earlier index d) (λ x. entries_from entry (earlier ++ x ∷ []) (next_index index) ds) xs is in
    let rest = length_read entry (earlier ++ one.0 ∷ []) (next_index index) ds xs one.2 in
    omega (arith, rest, length-append earlier (one.0 ∷ []))

-- the rules that were read are few
pub few_links : (n : ℕ) (d : Data) (links : List Link) → links_at n d ≡ Ok links → length links ≤ most_links
unfolding links_at
few_links n d links is =
    let few_for : Items → Result (List Link) ScriptFault =
    λ items. check (nat_le (count_items items) most_links) (OutOfRange (top keys.Links) (count_items items)) >>= λ few. read_entries (link_at n) items in
    let items = then_ok (list_at keys.Links d) few_for links is in
    let few = check_ok (nat_le (count_items items.0) most_links) (OutOfRange (top keys.Links) (count_items items.0)) (read_entries (link_at n) items.0) links items.2 in
    omega (arith, leb-true (count_items items.0) most_links few.0, length_read (link_at n) [] 0 items.0 links few.1)
