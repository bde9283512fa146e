-- The lines of the paths so far.
use Rattle.std.proofs.Common.{◌≡◌, string_bytes}
use Rattle.trace_maker.specs.Topology.{paths_text}
use Rattle.trace_maker.proofs.topology.paths_text.Given as goal

abbrev pub invariant-loop-path : goal.invariant-loop-path
invariant-loop-path l = string_bytes l.text ≡ paths_text l.path
