-- The places of a scenario, and the words under which they are told.
use Rattle.std.specs.Prelude.{ℕ, List, [], ◌∷◌, codes}
use Rattle.script_fault.specs.declared.place.ListName.{ListName}
use Rattle.script_fault.specs.declared.place.ListName.TheVariants as lists
use Rattle.script_fault.specs.declared.place.KeyName.{KeyName}
use Rattle.script_fault.specs.declared.place.KeyName.TheVariants as keys
use Rattle.script_fault.specs.declared.place.Place.{Place}

unfoldable pub list_text : ListName → List ℕ
list_text lists.Top = codes "top"
list_text lists.Submit = codes "submit"
list_text lists.Liars = codes "liars"
list_text lists.Links = codes "links"
list_text lists.Stops = codes "stops"
list_text lists.Faults = codes "faults"

unfoldable pub key_text : KeyName → List ℕ
key_text keys.Itself = codes "-"
key_text keys.Nodes = codes "nodes"
key_text keys.Faulty = codes "faulty"
key_text keys.Epochs = codes "epochs"
key_text keys.Rounds = codes "rounds"
key_text keys.Batch = codes "batch"
key_text keys.Seed = codes "seed"
key_text keys.Version = codes "version"
key_text keys.Workers = codes "workers"
key_text keys.Order = codes "order"
key_text keys.Submit = codes "submit"
key_text keys.Liars = codes "liars"
key_text keys.Links = codes "links"
key_text keys.Stops = codes "stops"
key_text keys.Faults = codes "faults"
key_text keys.Node = codes "node"
key_text keys.Tx = codes "tx"
key_text keys.Name = codes "name"
key_text keys.Hears = codes "hears"
key_text keys.From = codes "from"
key_text keys.To = codes "to"
key_text keys.Every = codes "every"
key_text keys.At = codes "at"
key_text keys.Shape = codes "shape"
key_text keys.Actor = codes "actor"
key_text keys.Call = codes "call"
key_text keys.Leave = codes "leave"

-- the keys that must be there, in the order in which they are looked for
unfoldable pub required_keys : ListName → List KeyName
required_keys lists.Top = keys.Nodes ∷ keys.Faulty ∷ keys.Epochs ∷ []
required_keys lists.Submit = keys.Node ∷ keys.Tx ∷ []
required_keys lists.Liars = keys.Node ∷ keys.Name ∷ []
required_keys lists.Links = keys.Every ∷ keys.At ∷ keys.Shape ∷ []
required_keys lists.Stops = keys.Node ∷ keys.Actor ∷ keys.Call ∷ keys.Leave ∷ []
required_keys lists.Faults = keys.Node ∷ keys.Actor ∷ keys.Call ∷ []

-- the keys that may be there besides
unfoldable pub optional_keys : ListName → List KeyName
optional_keys lists.Top =
    keys.Rounds ∷ keys.Batch ∷ keys.Seed ∷ keys.Version ∷ keys.Workers ∷ keys.Order
    ∷ keys.Submit ∷ keys.Liars ∷ keys.Links ∷ keys.Stops ∷ keys.Faults ∷ []
optional_keys lists.Submit = []
optional_keys lists.Liars = keys.Hears ∷ []
optional_keys lists.Links = keys.From ∷ keys.To ∷ []
optional_keys lists.Stops = []
optional_keys lists.Faults = []

-- the place of a key in the entry of this index
abbrev pub place : ListName → ℕ → KeyName → Place
place list index key = record { list = list; index = index; key = key }

-- the place of a key of the scenario itself
abbrev pub top : KeyName → Place
top key = place lists.Top 0 key
