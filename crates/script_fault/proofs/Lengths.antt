-- How long the words of places are.
use Rattle.std.proofs.Common.{◌≤◌, length, lit≤}
use Rattle.script_fault.specs.declared.place.ListName.{ListName}
use Rattle.script_fault.specs.declared.place.ListName.TheVariants as lists
use Rattle.script_fault.specs.declared.place.KeyName.{KeyName}
use Rattle.script_fault.specs.declared.place.KeyName.TheVariants as keys
use Rattle.script_fault.specs.Place.{list_text, key_text}

pub list_text_short : (list : ListName) → length (list_text list) ≤ 6
unfolding list_text
list_text_short lists.Top = lit≤ tt
list_text_short lists.Submit = lit≤ tt
list_text_short lists.Liars = lit≤ tt
list_text_short lists.Links = lit≤ tt
list_text_short lists.Stops = lit≤ tt
list_text_short lists.Faults = lit≤ tt

pub key_text_short : (key : KeyName) → length (key_text key) ≤ 7
unfolding key_text
key_text_short keys.Itself = lit≤ tt
key_text_short keys.Nodes = lit≤ tt
key_text_short keys.Faulty = lit≤ tt
key_text_short keys.Epochs = lit≤ tt
key_text_short keys.Rounds = lit≤ tt
key_text_short keys.Batch = lit≤ tt
key_text_short keys.Seed = lit≤ tt
key_text_short keys.Version = lit≤ tt
key_text_short keys.Workers = lit≤ tt
key_text_short keys.Order = lit≤ tt
key_text_short keys.Submit = lit≤ tt
key_text_short keys.Liars = lit≤ tt
key_text_short keys.Links = lit≤ tt
key_text_short keys.Stops = lit≤ tt
key_text_short keys.Faults = lit≤ tt
key_text_short keys.Node = lit≤ tt
key_text_short keys.Tx = lit≤ tt
key_text_short keys.Name = lit≤ tt
key_text_short keys.Hears = lit≤ tt
key_text_short keys.From = lit≤ tt
key_text_short keys.To = lit≤ tt
key_text_short keys.Every = lit≤ tt
key_text_short keys.At = lit≤ tt
key_text_short keys.Shape = lit≤ tt
key_text_short keys.Actor = lit≤ tt
key_text_short keys.Call = lit≤ tt
key_text_short keys.Leave = lit≤ tt
