use Rattle.std.proofs.Common.{◌-◌, length}
use Rattle.mon_io.specs.Inputs.{PickedNothing}
use Rattle.pcap_reader.proofs.Fillings.{IsFilling}
use Rattle.pcap_reader.proofs.filling.fill.Given as goal

abbrev pub invariant-loop-filled : goal.invariant-loop-filled
invariant-loop-filled g l =
    IsFilling (g.I.Inputs.state l.initial.inputs) (g.I.Inputs.state l.inputs) l.into l.filled
    × PickedNothing (g.I.Inputs.picks l.initial.inputs) (g.I.Inputs.picks l.inputs)

abbrev pub decreases-loop-filled : goal.decreases-loop-filled
decreases-loop-filled g l = length l.initial.into - l.filled
