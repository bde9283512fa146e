use Rattle.std.proofs.Common.{◌≡◌, ◌≤◌, ◌-◌, [], ◌∷◌}
use Rattle.mon_io.specs.Inputs.{Picked}
use Rattle.mon_trace.proofs.Readings.{Listing}
use Rattle.mon_trace.proofs.reading.read_trace.Given as goal

abbrev pub invariant-loop-packet : goal.invariant-loop-packet
invariant-loop-packet g l =
    Listing ((g.I.Inputs.state l.fn.inputs).contents l.trace) (g.I.Inputs.state l.inputs).rest l.reader l.topology
    l.division l.read
    × ((g.I.Inputs.state l.fn.inputs).faults ≤ (g.I.Inputs.state l.inputs).faults)
    × ((g.I.Inputs.state l.inputs).contents ≡ (g.I.Inputs.state l.fn.inputs).contents)
    × Picked (g.I.Inputs.picks l.fn.inputs) (g.I.Inputs.picks l.inputs) (l.trace ∷ [])

abbrev pub decreases-loop-packet : goal.decreases-loop-packet
decreases-loop-packet g l = 1048576 - l.read.counts.packets
