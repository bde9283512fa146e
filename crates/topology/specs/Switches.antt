-- The switches of a file.
use Rattle.std.specs.Prelude.{ℕ, false, List, [], ◌∷◌, map, take, length, slice_index_or, codes, Option}
use Rattle.bound_certificate.specs.declared.site.Site.{Site}
use Rattle.topology.specs.declared.fault.Entry.TheVariants as entry
use Rattle.topology.specs.declared.fault.TopologyFault.{TopologyFault}
use Rattle.topology.specs.declared.fault.What.TheVariants as what
use Rattle.topology.specs.Faults.{first_fault, first_from}
use Rattle.topology.specs.Fields.{text_at, number_at, number_fault, list_fault, entries_of}
use Rattle.topology.specs.Names.{name_fault}
use Rattle.topology.specs.Place.{at_place}
use Rattle.toml.specs.Data.{Data, boolean}

-- the greatest number of switches
abbrev pub most_switches : ℕ
most_switches = 32

-- the greatest numbers of 32 and of 16 bits
abbrev pub most_32 : ℕ
most_32 = 4294967295

abbrev pub most_16 : ℕ
most_16 = 65535

-- what stands past the end of a list of entries
abbrev pub no_entry : Data
no_entry = boolean false

-- the name of an entry
unfoldable pub name_of : Data → List ℕ
name_of switch = text_at (codes "name") switch

-- the numbers of a switch
unfoldable pub site_of : Data → Site
site_of switch =
    record {
      capacity =
          number_at (codes "capacity") switch;
      opening = number_at (codes "open") switch;
      unit = number_at
          (codes "unit") switch;
    }

-- what is wrong with the switch of this number, behind switches with these names
unfoldable pub switch_fault : List (List ℕ) → ℕ → Data → Option TopologyFault
switch_fault earlier k switch =
    first_fault (
    name_fault earlier (at_place entry.Switch k what.Name) switch
    ∷ number_fault 0 most_32 (at_place entry.Switch k what.Capacity) switch
    ∷ number_fault 0 most_32 (at_place entry.Switch k what.Opening) switch
    ∷ number_fault 0 most_16 (at_place entry.Switch k what.Unit) switch
    ∷ [])

-- the same of a switch in the list of all
unfoldable pub switch_fault_in : List Data → ℕ → Option TopologyFault
switch_fault_in switches k = switch_fault (map name_of (take k switches)) k (slice_index_or switches k no_entry)

-- the switches of a file
abbrev pub switches_of : Data → List Data
switches_of root = entries_of entry.Switch root

-- what is wrong with the list of the switches, or with one of them
unfoldable pub switches_fault : Data → Option TopologyFault
switches_fault root =
    first_fault (
    list_fault most_switches entry.Switch root
    ∷ first_from (switch_fault_in (switches_of root)) 0 (length (switches_of root))
    ∷ [])
