-- So far the names and the numbers are those of the entries in front, of which each is right.
use Rattle.std.proofs.Common.{◌≡◌, ◌-◌, map, take, length}
use Rattle.toml.specs.View.{view}
use Rattle.topology.specs.Faults.{first_from}
use Rattle.topology.specs.Switches.{name_of, site_of, switch_fault_in}
use Rattle.topology.proofs.switches.read_each.Given as goal

abbrev pub invariant-loop-index : goal.invariant-loop-index
invariant-loop-index l =
    (l.names ≡ map name_of (take l.index (map view l.entries)))
    × (l.sites.items ≡ map site_of (take l.index (map view l.entries)))
    × (first_from (switch_fault_in (map view l.entries)) l.index (length l.entries - l.index)
    ≡ first_from (switch_fault_in (map view l.entries)) 0 (length l.entries))
