use Rattle.std.proofs.Common.{◌≡◌, ◌≤◌, ◌-◌, [], ◌∷◌}
use Rattle.mon_io.specs.Inputs.{Picked}
use Rattle.mon_central.proofs.Readings.{Dividing}
use Rattle.mon_central.proofs.epochs.sketch.Given as goal

abbrev pub invariant-loop-packet : goal.invariant-loop-packet
invariant-loop-packet g l =
    Dividing ((g.I.Inputs.state l.fn.inputs).contents l.trace) (g.I.Inputs.state l.inputs).rest l.reader l.setting
    l.topology l.epochs
    × ((g.I.Inputs.state l.fn.inputs).faults ≤ (g.I.Inputs.state l.inputs).faults)
    × ((g.I.Inputs.state l.inputs).contents ≡ (g.I.Inputs.state l.fn.inputs).contents)
    × Picked (g.I.Inputs.picks l.fn.inputs) (g.I.Inputs.picks l.inputs) (l.trace ∷ [])

abbrev pub decreases-loop-packet : goal.decreases-loop-packet
decreases-loop-packet g l = 1048576 - l.epochs.counts.packets
