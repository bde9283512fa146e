use Rattle.std.proofs.Common.{arith, ◌∙◌}
use Rattle.pcap_reader.proofs.Fillings.{filled_more, within_more}
use Rattle.pcap_reader.proofs.filling.fill.Goals as goal

pub loop-filled-preserved : goal.loop-filled-preserved
loop-filled-preserved g c = (
  record {
    within = within_more _ _ _ _ c.loop-filled.invariant.0 c.in-Ok.ensures.bound.0;
    took = filled_more _ _ _ _ c.loop-filled.invariant.0 c.in-Ok.ensures.bytes.0 c.in-Ok.ensures.bound.0;
    stays = c.read.ensures.stays ∙ c.loop-filled.invariant.0.stays;
    later = omega (arith, c.loop-filled.invariant.0.later, c.read.ensures.cause.later);
  },
  λ names stood. c.read.ensures.picks names (c.loop-filled.invariant.1 names stood),
)
