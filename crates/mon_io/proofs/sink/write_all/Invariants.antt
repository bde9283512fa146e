use Rattle.std.proofs.Common.{length, ◌-◌, ◌+◌, ◌≤◌}
use Rattle.mon_io.proofs.Told.{Appended}
use Rattle.mon_io.proofs.sink.write_all.Given as goal

abbrev pub invariant-loop-written : goal.invariant-loop-written
invariant-loop-written g l =
    Appended (g.K.Sink.state l.initial.sink) (g.K.Sink.state l.sink) l.bytes l.written
    × (g.K.Sink.sure_room l.initial.sink ≤ g.K.Sink.sure_room l.sink + l.written)

abbrev pub decreases-loop-written : goal.decreases-loop-written
decreases-loop-written g l = length l.bytes - l.written
