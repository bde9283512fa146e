-- Where a value stands in a file, and the faults that tell the place.
use Rattle.std.specs.Prelude.{ℕ, List, codes}
use Rattle.topology.specs.declared.fault.Entry.{Entry}
use Rattle.topology.specs.declared.fault.Entry.TheVariants as entry
use Rattle.topology.specs.declared.fault.TopologyFault.{TopologyFault}
use Rattle.topology.specs.declared.fault.TopologyFault.TheVariants as fault
use Rattle.topology.specs.declared.fault.What.{What}
use Rattle.topology.specs.declared.fault.What.TheVariants as what
use Rattle.topology.specs.declared.place.Place.{Place}

abbrev pub at_place : Entry → ℕ → What → Place
at_place e k w = record { entry = e; index = k; what = w }

-- the key of a list in the file
abbrev pub list_key : Entry → List ℕ
list_key entry.Switch = codes "switch"
list_key entry.Path = codes "path"

abbrev pub key_for : Entry → What → List ℕ
key_for e what.List = list_key e
key_for e what.Name = codes "name"
key_for e what.Capacity = codes "capacity"
key_for e what.Opening = codes "open"
key_for e what.Unit = codes "unit"
key_for e what.From = codes "from"
key_for e what.To = codes "to"
key_for e what.Load = codes "load"
key_for e what.Via = codes "via"

-- the key of a value in the file
abbrev pub key_of : Place → List ℕ
key_of place = key_for place.entry place.what

abbrev pub missing : Place → TopologyFault
missing place = fault.Missing place.entry place.index place.what

abbrev pub wrong_kind : Place → TopologyFault
wrong_kind place = fault.WrongKind place.entry place.index place.what

abbrev pub out_of_range : Place → TopologyFault
out_of_range place = fault.Range place.entry place.index place.what
