-- The lines of the switches so far.
use Rattle.std.proofs.Common.{◌≡◌, string_bytes}
use Rattle.trace_maker.specs.Topology.{switches_text}
use Rattle.trace_maker.proofs.topology.switches_text.Given as goal

abbrev pub invariant-loop-switch : goal.invariant-loop-switch
invariant-loop-switch l = string_bytes l.text ≡ switches_text l.switch
