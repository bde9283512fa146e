-- So far the numbers are those of different switches, which the elements in front name.
use Rattle.std.proofs.Common.{◌≡◌, ◌≢◌, ◌<◌, ◌-◌, All, AllPairs, map, take, length}
use Rattle.toml.specs.View.{view}
use Rattle.topology.specs.Faults.{first_from}
use Rattle.topology.specs.Via.{number_of, hop_fault_in}
use Rattle.topology.proofs.via.number_each.Given as goal

abbrev pub invariant-loop-element : goal.invariant-loop-element
invariant-loop-element l =
    (l.via.items ≡ map (number_of l.switches) (take l.element-index (map view l.elements)))
    × All (λ number. number < length l.switches) l.via.items
    × AllPairs (λ a b. a ≢ b) l.via.items
    × (first_from (hop_fault_in l.switches l.path (map view l.elements)) l.element-index
    (length l.elements - l.element-index)
    ≡ first_from (hop_fault_in l.switches l.path (map view l.elements)) 0 (length l.elements))
