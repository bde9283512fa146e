-- The sketches so far.
use Rattle.std.proofs.Common.{◌≡◌, All, length}
use Rattle.hash_family.specs.Setting.{setting_of}
use Rattle.measure_report.specs.Run.{IsEpoch}
use Rattle.report_rows.proofs.made.sketches.Given as goal

abbrev pub invariant-loop : goal.invariant-loop
invariant-loop g l = (length l.sketches.items ≡ l.counter) × All (IsEpoch (setting_of l.params)) l.sketches.items
