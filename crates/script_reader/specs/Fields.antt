-- What stands at a place of a scenario.
use Rattle.std.specs.Prelude.{ℕ, ◌-◌, ◌&&◌, ◌||◌, Bool, nat_le, List, [], ◌∷◌, length, codes, Option, Some, None, is_some, ok_or}
use Rattle.std.specs.Prelude.{option_and_then, Result, Ok, Err, if◌then◌else◌, bytes_eq, ⊤}
use Rattle.std.specs.List.{list_any, list_all}
use Rattle.serde_json.specs.Data.{Data, Items, no_items, Members, no_members, member}
use Rattle.serde_json.specs.Find.{get, as_number, as_u64, as_str, as_array, as_object}
use Rattle.hex.specs.declared.error.FromHexError.{FromHexError}
use Rattle.hex.specs.Hex.{decode_of}
use Rattle.hb_base.specs.LiarName.{is_name_byte}
use Rattle.hb_base.specs.Limits.{longest_transaction}
use Rattle.disk_model.specs.declared.plan.Leave.{Leave}
use Rattle.disk_model.specs.declared.plan.Leave.TheVariants as leaves
use Rattle.script_fault.specs.declared.fault.ScriptFault.{ScriptFault}
use Rattle.script_fault.specs.declared.fault.ScriptFault.TheVariants.{WrongKind, Missing, Unknown, NotNumber, OutOfRange, BadHex, BadLength, BadWord}
use Rattle.script_fault.specs.declared.place.ListName.{ListName}
use Rattle.script_fault.specs.declared.place.KeyName.{KeyName}
use Rattle.script_fault.specs.declared.place.KeyName.TheVariants as keys
use Rattle.script_fault.specs.declared.place.Place.{Place}
use Rattle.net_script.specs.declared.script.Order.{Order}
use Rattle.net_script.specs.declared.script.Order.TheVariants as orders
use Rattle.net_script.specs.declared.script.Shape.{Shape}
use Rattle.net_script.specs.declared.script.Shape.TheVariants as shapes
use Rattle.script_reader.specs.Fault.{◌>>=◌, fine}
use Rattle.script_fault.specs.Place.{key_text, required_keys, optional_keys, place, top}

-- ---- an object and its keys

-- what an object has at the key of a place
abbrev pub found : Place → Data → Option Data
found p d = get (key_text p.key) d

-- the first of these keys that an object lacks is missing
abbrev pub have_all : ListName → ℕ → List KeyName → Data → Result ⊤ ScriptFault
have_all list index [] d = fine
have_all list index (key ∷ keys) d = if is_some (found (place list index key) d) then have_all list index keys d else Err (Missing (place list index key))

abbrev pub is_one_of : List KeyName → List ℕ → Bool
is_one_of keys text = list_any (λ key. bytes_eq text (key_text key)) keys

-- whether an entry of this list may have such a key
abbrev pub is_known : ListName → List ℕ → Bool
is_known list text = is_one_of (required_keys list) text || is_one_of (optional_keys list) text

-- Members come in the byte order of their keys, so the first that no entry may have is the least.
abbrev pub no_other : ListName → ℕ → Members → Result ⊤ ScriptFault
no_other list index no_members = fine
no_other list index (member text d members) = if is_known list text then no_other list index members else Err (Unknown list index text)

-- A scenario, or an entry of a list, is an object that has the keys that it must have, and no others than it may have.
unfoldable pub entry_at : ListName → ℕ → Data → Result ⊤ ScriptFault
entry_at list index d = do
  members ← ok_or (as_object d) (WrongKind (place list index keys.Itself))
  whole ← have_all list index (required_keys list) d
  no_other list index members

-- what an object has at a place, where it must have something
abbrev pub required : Place → Data → Result Data ScriptFault
required p d = ok_or (found p d) (Missing p)

-- ---- numbers

-- a whole number from low to high
unfoldable pub number_of : Place → ℕ → ℕ → Data → Result ℕ ScriptFault
number_of p low high d = do
  n ← ok_or (option_and_then as_u64 (as_number d)) (NotNumber p)
  if nat_le low n && nat_le n high then Ok n else Err (OutOfRange p n)

unfoldable pub number_at : Place → ℕ → ℕ → Data → Result ℕ ScriptFault
number_at p low high d = do
  value ← required p d
  number_of p low high value

-- the same, where another number stands for one that is not there
abbrev pub number_if : ℕ → Place → ℕ → ℕ → Option Data → Result ℕ ScriptFault
number_if usual p low high None = Ok usual
number_if usual p low high (Some d) = number_of p low high d

unfoldable pub number_or : ℕ → Place → ℕ → ℕ → Data → Result ℕ ScriptFault
number_or usual p low high d = number_if usual p low high (found p d)

-- a node of n
unfoldable pub node_at : Place → ℕ → Data → Result ℕ ScriptFault
node_at p n d = number_at p 0 (n - 1) d

-- the same, where one is named
abbrev pub node_if : Place → ℕ → Option Data → Result (Option ℕ) ScriptFault
node_if p n None = Ok None
node_if p n (Some d) = number_of p 0 (n - 1) d >>= λ node. Ok (Some node)

unfoldable pub node_or_any : Place → ℕ → Data → Result (Option ℕ) ScriptFault
node_or_any p n d = node_if p n (found p d)

-- ---- texts

unfoldable pub text_of : Place → Data → Result (List ℕ) ScriptFault
text_of p d = ok_or (as_str d) (WrongKind p)

unfoldable pub text_at : Place → Data → Result (List ℕ) ScriptFault
text_at p d = do
  value ← required p d
  text_of p value

-- a text that names something, at a place that takes no other words
abbrev pub known_word : {W : Type 0} → Place → List ℕ → Option W → Result W ScriptFault
known_word p text named = ok_or named (BadWord p text)

abbrev pub order_named : List ℕ → Option Order
order_named text =
    if bytes_eq text (codes "fifo") then Some orders.Fifo
    else if bytes_eq text (codes "mixed") then Some orders.Mixed
    else None

abbrev pub shape_named : List ℕ → Option Shape
shape_named text =
    if bytes_eq text (codes "once") then Some shapes.Once
    else if bytes_eq text (codes "twice") then Some shapes.Twice
    else if bytes_eq text (codes "late") then Some shapes.Late
    else if bytes_eq text (codes "drop") then Some shapes.Drop
    else None

abbrev pub leave_named : List ℕ → Option Leave
leave_named text =
    if bytes_eq text (codes "old") then Some leaves.Old
    else if bytes_eq text (codes "new") then Some leaves.New
    else if bytes_eq text (codes "torn") then Some leaves.Torn
    else None

-- a name of 1 to 16 bytes, each an ASCII lower-case letter, a digit or `_`
abbrev pub is_name : List ℕ → Bool
is_name text = nat_le 1 (length text) && nat_le (length text) 16 && list_all is_name_byte text

abbrev pub name_of : List ℕ → Option (List ℕ)
name_of text = if is_name text then Some text else None

-- the order, which is Fifo where none is named
abbrev pub order_if : Place → Option Data → Result Order ScriptFault
order_if p None = Ok orders.Fifo
order_if p (Some d) = text_of p d >>= λ text. known_word p text (order_named text)

unfoldable pub order_or_fifo : Place → Data → Result Order ScriptFault
order_or_fifo p d = order_if p (found p d)

unfoldable pub shape_at : Place → Data → Result Shape ScriptFault
shape_at p d = text_at p d >>= λ text. known_word p text (shape_named text)

unfoldable pub leave_at : Place → Data → Result Leave ScriptFault
leave_at p d = text_at p d >>= λ text. known_word p text (leave_named text)

unfoldable pub name_at : Place → Data → Result (List ℕ) ScriptFault
name_at p d = text_at p d >>= λ text. known_word p text (name_of text)

-- a transaction, from hex of either case
abbrev pub transaction_from : Place → Result (List ℕ) FromHexError → Result (List ℕ) ScriptFault
transaction_from p (Err e) = Err (BadHex p)
transaction_from p (Ok bytes) = if nat_le 1 (length bytes) && nat_le (length bytes) longest_transaction then Ok bytes else Err (BadLength p (length bytes))

unfoldable pub transaction_at : Place → Data → Result (List ℕ) ScriptFault
transaction_at p d = text_at p d >>= λ text. transaction_from p (decode_of text)

-- ---- lists

-- the list at a key of the scenario, and the empty list where the key is not there
abbrev pub list_if : KeyName → Option Data → Result Items ScriptFault
list_if key None = Ok no_items
list_if key (Some d) = ok_or (as_array d) (WrongKind (top key))

unfoldable pub list_at : KeyName → Data → Result Items ScriptFault
list_at key d = list_if key (found (top key) d)
