use Rattle.mon_trace.proofs.Counting.{AreCounted}
use Rattle.mon_trace.proofs.numbers.epoch_packets.Given as goal

abbrev pub invariant-loop-packet : goal.invariant-loop-packet
invariant-loop-packet l = AreCounted l.packets l.packet-index l.numbers
