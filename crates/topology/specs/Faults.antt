-- The first fault of some tests.
use Rattle.std.specs.Prelude.{ℕ, Bool, List, [], ◌∷◌, map, Option, Some, None, if◌then◌else◌}
use Rattle.std.specs.List.{range_with_len}
use Rattle.topology.specs.declared.fault.TopologyFault.{TopologyFault}

-- a fault where the test holds
abbrev pub when : Bool → TopologyFault → Option TopologyFault
when test fault = if test then Some fault else None

-- the first of two
abbrev pub or_else : Option TopologyFault → Option TopologyFault → Option TopologyFault
or_else None other = other
or_else (Some fault) other = Some fault

-- the first fault among the answers of some tests
abbrev pub first_fault : List (Option TopologyFault) → Option TopologyFault
first_fault [] = None
first_fault (found ∷ more) = or_else found (first_fault more)

-- the first fault of the tests with so many numbers from one on
unfoldable pub first_from : (ℕ → Option TopologyFault) → ℕ → ℕ → Option TopologyFault
first_from test start count = first_fault (map test (range_with_len start count))
