use Rattle.std.proofs.Common.{◌≡◌, ◌-◌, length}
use Rattle.mon_io.specs.Inputs.{PickedNothing}
use Rattle.mon_io.proofs.Told.{HasRead}
use Rattle.mon_io.proofs.contents.read_rest.Given as goal

abbrev pub invariant-loop-count : goal.invariant-loop-count
invariant-loop-count g l =
    HasRead (g.I.Inputs.state l.initial.inputs) (g.I.Inputs.state l.inputs) l.bytes.items l.limit
    × (length l.chunk ≡ length l.initial.chunk)
    × PickedNothing (g.I.Inputs.picks l.initial.inputs) (g.I.Inputs.picks l.inputs)

abbrev pub decreases-loop-count : goal.decreases-loop-count
decreases-loop-count g l = l.limit - length l.bytes.items
