-- The lines of the epochs so far.
use Rattle.std.proofs.Common.{◌≡◌, string_bytes}
use Rattle.std.specs.List.{flat_map, range_with_len}
use Rattle.sketch_merge.specs.Merged.{View}
use Rattle.measure_report.specs.Report.{epoch_text}
use Rattle.measure_report.specs.Run.{packets_in, view_in}
use Rattle.measure_report.proofs.epochs.epochs_text.Given as goal

abbrev pub invariant-loop-epoch : goal.invariant-loop-epoch
invariant-loop-epoch l =
    (other : View) → string_bytes l.text
    ≡ flat_map (epoch_text l.run.form l.family l.run.heavy (packets_in l.run) (view_in l.epochs other))
    (range_with_len 0 l.epoch)
