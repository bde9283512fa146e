-- The paths of a file.
use Rattle.std.specs.Prelude.{ℕ, ◌==◌, not, List, [], ◌∷◌, map, take, length, slice_index_or, codes, Option, is_err}
use Rattle.std.specs.Result.{result_unwrap_or}
use Rattle.bound_certificate.specs.declared.need.Need.{Need}
use Rattle.flow_keys.specs.Prefix.{Seen, prefix_of}
use Rattle.topology.specs.declared.ends.Ends.{Ends}
use Rattle.topology.specs.declared.fault.Entry.TheVariants as entry
use Rattle.topology.specs.declared.fault.TopologyFault.{TopologyFault}
use Rattle.topology.specs.declared.fault.TopologyFault.TheVariants as fault
use Rattle.topology.specs.declared.fault.What.TheVariants as what
use Rattle.topology.specs.declared.place.Place.{Place}
use Rattle.topology.specs.Faults.{when, first_fault, first_from}
use Rattle.topology.specs.Fields.{text_at, number_at, kind_fault, number_fault, list_fault, entries_of}
use Rattle.topology.specs.Names.{name_fault}
use Rattle.topology.specs.Place.{key_of, at_place}
use Rattle.topology.specs.Switches.{name_of, no_entry, most_16}
use Rattle.topology.specs.Via.{via_of, via_fault}
use Rattle.toml.specs.Data.{Data, as_str}

-- the greatest number of paths
abbrev pub most_paths : ℕ
most_paths = 64

-- what stands for a text that is no prefix
abbrev pub no_prefix : Seen
no_prefix = record { family = 0; words = []; bits = 0 }

-- the prefix at a key
unfoldable pub prefix_at : List ℕ → Data → Seen
prefix_at key path = result_unwrap_or (prefix_of (text_at key path)) no_prefix

-- what is wrong with a prefix
unfoldable pub prefix_fault : Place → Data → Option TopologyFault
prefix_fault place path =
    first_fault (
    kind_fault as_str place path
    ∷ when (is_err (prefix_of (text_at (key_of place) path))) (fault.BadPrefix place.index place.what)
    ∷ [])

-- the prefixes of a path
unfoldable pub ends_of : Data → Ends
ends_of path = record { from = prefix_at (codes "from") path; to = prefix_at (codes "to") path }

-- what is wrong with the prefixes of path k
unfoldable pub ends_fault : ℕ → Data → Option TopologyFault
ends_fault k path =
    first_fault (
    prefix_fault (at_place entry.Path k what.From) path
    ∷ prefix_fault (at_place entry.Path k what.To) path
    ∷ when (not ((prefix_at (codes "from") path).family == (prefix_at (codes "to") path).family)) (fault.MixedFamily k)
    ∷ [])

-- the load of a path, and its via at switches with these names
unfoldable pub need_of : List (List ℕ) → Data → Need
need_of switches path =
    record { load = number_at (codes "load") path; via = via_of switches path }

-- what is wrong with the load or the via of path k
unfoldable pub need_fault : List (List ℕ) → ℕ → Data → Option TopologyFault
need_fault switches k path =
    first_fault (
    number_fault 1 most_16 (at_place entry.Path k what.Load) path
    ∷ via_fault switches k path
    ∷ [])

-- what is wrong with path k at switches with these names, behind paths with these names
unfoldable pub path_fault : List (List ℕ) → List (List ℕ) → ℕ → Data → Option TopologyFault
path_fault switches earlier k path =
    first_fault (
    name_fault earlier (at_place entry.Path k what.Name) path
    ∷ ends_fault k path
    ∷ need_fault switches k path
    ∷ [])

-- the same of a path in the list of all
unfoldable pub path_fault_in : List (List ℕ) → List Data → ℕ → Option TopologyFault
path_fault_in switches paths k =
    path_fault switches (map name_of (take k paths)) k (slice_index_or paths k no_entry)

-- the paths of a file
abbrev pub paths_of : Data → List Data
paths_of root = entries_of entry.Path root

-- what is wrong with the list of the paths, or with one of them
unfoldable pub paths_fault : List (List ℕ) → Data → Option TopologyFault
paths_fault switches root =
    first_fault (
    list_fault most_paths entry.Path root
    ∷ first_from (path_fault_in switches (paths_of root)) 0 (length (paths_of root))
    ∷ [])
