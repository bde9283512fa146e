use Rattle.std.proofs.Common.{ℕ, List, ◌++◌, sym, ◌∙◌, ap, arith}
use Rattle.std.specs.List.{flat_map, range_with_len}
use Rattle.measure_report.specs.Report.{epoch_text}
use Rattle.measure_report.specs.Run.{packets_in, view_in}
use Rattle.measure_report.proofs.Pieces.{one_more_piece}
use Rattle.measure_report.proofs.epochs.epochs_text.Goals as goal

pub loop-epoch-preserved : goal.loop-epoch-preserved
loop-epoch-preserved c = λ other.
    let lines : ℕ → List ℕ = epoch_text c.args.run.now.form c.args.family.now c.args.run.now.heavy
    (packets_in c.args.run.now) (view_in c.args.epochs.now other) in
    let before = c.loop-epoch.invariant other in
    let now = c.deref.ensures ∙ c.in_ok-lines.ensures.text other in
    c.in-Ok.ensures.bytes ∙ (λ i. before i ++ now i) ∙ sym (one_more_piece lines c.loop-epoch.epoch)

pub returns : goal.returns
returns c = record {
  text = λ other.
      let lines : ℕ → List ℕ = epoch_text c.args.run.now.form c.args.family.now c.args.run.now.heavy
      (packets_in c.args.run.now) (view_in c.args.epochs.now other) in
      c.loop-epoch.invariant other ∙ ap (λ (n : ℕ). flat_map lines (range_with_len 0 n)) (omega arith);
}
