-- The lines of the switches so far.
use Rattle.std.proofs.Common.{◌≡◌, string_bytes}
use Rattle.std.specs.List.{flat_map, range_with_len}
use Rattle.outcome_report.specs.Outcome.{switch_line}
use Rattle.outcome_report.proofs.placement.switches_text.Given as goal

abbrev pub invariant-loop-switch : goal.invariant-loop-switch
invariant-loop-switch l = string_bytes l.text ≡ flat_map (switch_line l.topology l.sites) (range_with_len 0 l.switch)
