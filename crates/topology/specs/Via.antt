-- The via of a path: the names of the switches that it crosses.
use Rattle.std.specs.Prelude.{ℕ, Bool, not, ◌==◌, List, [], ◌∷◌, map, take, length, position, bytes_eq, codes, slice_index_or, Option, is_some, is_none, unwrap_or}
use Rattle.std.specs.List.{list_any}
use Rattle.topology.specs.declared.fault.Entry.TheVariants as entry
use Rattle.topology.specs.declared.fault.TopologyFault.{TopologyFault}
use Rattle.topology.specs.declared.fault.TopologyFault.TheVariants as fault
use Rattle.topology.specs.declared.fault.What.TheVariants as what
use Rattle.topology.specs.declared.place.Place.{Place}
use Rattle.topology.specs.Faults.{when, first_fault, first_from}
use Rattle.topology.specs.Fields.{elements_at, kind_fault, count_fault}
use Rattle.topology.specs.Place.{at_place, wrong_kind}
use Rattle.topology.specs.Switches.{no_entry}
use Rattle.toml.specs.Data.{Data, as_str, as_array}

-- the greatest number of switches in a via
abbrev pub most_via : ℕ
most_via = 8

-- where the via of path k stands
abbrev pub via_place : ℕ → Place
via_place k = at_place entry.Path k what.Via

abbrev pub is_no_text : Data → Bool
is_no_text element = not (is_some (as_str element))

-- the text of an element
abbrev pub text_of : Data → List ℕ
text_of element = unwrap_or (as_str element) []

-- the number of the switch with this name
abbrev pub switch_of : List (List ℕ) → List ℕ → Option ℕ
switch_of switches name = position (bytes_eq name) switches

-- the number of the switch that an element names
unfoldable pub number_of : List (List ℕ) → Data → ℕ
number_of switches element = unwrap_or (switch_of switches (text_of element)) 0

-- what is wrong with an element in the via of path k, behind elements that name these switches
unfoldable pub hop_fault : List (List ℕ) → ℕ → List ℕ → Data → Option TopologyFault
hop_fault switches k earlier element =
    first_fault (
    when (is_none (switch_of switches (text_of element))) (fault.UnknownSwitch k)
    ∷ when (list_any (λ number. number == number_of switches element) earlier) (fault.TwiceVia k)
    ∷ [])

-- the same of an element in the list of all
unfoldable pub hop_fault_in : List (List ℕ) → ℕ → List Data → ℕ → Option TopologyFault
hop_fault_in switches k elements j =
    hop_fault switches k (map (number_of switches) (take j elements)) (slice_index_or elements j no_entry)

-- the elements of a via
abbrev pub hops_of : Data → List Data
hops_of path = elements_at (codes "via") path

-- the numbers of the switches that a via names
unfoldable pub via_of : List (List ℕ) → Data → List ℕ
via_of switches path = map (number_of switches) (hops_of path)

-- what is wrong with the via of path k
unfoldable pub via_fault : List (List ℕ) → ℕ → Data → Option TopologyFault
via_fault switches k path =
    first_fault (
    kind_fault as_array (via_place k) path
    ∷ when (list_any is_no_text (hops_of path)) (wrong_kind (via_place k))
    ∷ count_fault most_via (via_place k) (length (hops_of path))
    ∷ first_from (hop_fault_in switches k (hops_of path)) 0 (length (hops_of path))
    ∷ [])
