-- So far the names, the prefixes and the needs are those of the entries in front, of which each is right.
use Rattle.std.proofs.Common.{◌≡◌, ◌-◌, All, map, take, length}
use Rattle.bound_certificate.specs.Limits.{IsNeed}
use Rattle.toml.specs.View.{view}
use Rattle.topology.specs.Faults.{first_from}
use Rattle.topology.specs.Paths.{ends_of, need_of, path_fault_in}
use Rattle.topology.specs.Switches.{name_of}
use Rattle.topology.proofs.paths.read_each.Given as goal

abbrev pub invariant-loop-index : goal.invariant-loop-index
invariant-loop-index l =
    (l.names ≡ map name_of (take l.index (map view l.entries)))
    × (l.ends.items ≡ map ends_of (take l.index (map view l.entries)))
    × (l.needs.items ≡ map (need_of l.switches) (take l.index (map view l.entries)))
    × All (IsNeed (length l.switches)) l.needs.items
    × (first_from (path_fault_in l.switches (map view l.entries)) l.index
    (length l.entries - l.index)
    ≡ first_from (path_fault_in l.switches (map view l.entries)) 0 (length l.entries))
