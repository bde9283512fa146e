use Rattle.std.proofs.Common.{◌≡◌, length}
use Rattle.mon_io.specs.Inputs.{PickedNothing}
use Rattle.child_worker.proofs.Readings.{HasRead}
use Rattle.child_worker.proofs.child.read_job.Given as goal

abbrev pub invariant-loop : goal.invariant-loop
invariant-loop g l =
    HasRead (g.I.Inputs.state l.initial.inputs) (g.I.Inputs.state l.inputs) l.work
    × (length l.buffer ≡ length l.initial.buffer)
    × PickedNothing (g.I.Inputs.picks l.initial.inputs) (g.I.Inputs.picks l.inputs)
