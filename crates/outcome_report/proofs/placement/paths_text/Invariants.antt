-- The lines of the paths so far.
use Rattle.std.proofs.Common.{◌≡◌, string_bytes}
use Rattle.std.specs.List.{flat_map, range_with_len}
use Rattle.outcome_report.specs.Outcome.{path_line}
use Rattle.outcome_report.proofs.placement.paths_text.Given as goal

abbrev pub invariant-loop-path : goal.invariant-loop-path
invariant-loop-path l = string_bytes l.text ≡ flat_map (path_line l.topology l.sites) (range_with_len 0 l.path)
