use Rattle.std.proofs.Common.{rules}
use Rattle.measure_report.specs.Run.{packets_in}
use Rattle.measure_report.proofs.EpochLines.{first_lines, lines_of_two}
use Rattle.measure_report.proofs.epochs.epoch_text.Goals as goal

pub returns-then-epoch-eq0 : goal.returns-then-epoch-eq0
returns-then-epoch-eq0 c = record {
  text = λ other. first_lines c.args.run.now.form c.args.family.now c.args.run.now.heavy (packets_in c.args.run.now)
      c.args.epochs.now c.args.epoch c.index-epochs-from.result other _ c.if-epoch-eq0.true c.requires.within
      (rw c.from.ensures at c.index-epochs-from.is) c.in_ok-block.ensures.text;
}

pub returns-in-Ok : goal.returns-in-Ok
returns-in-Ok c = record {
  text = λ other. lines_of_two c.args.run.now.form c.args.family.now c.args.run.now.heavy (packets_in c.args.run.now)
      c.args.epochs.now c.args.epoch c.index-epochs-from-2.result c.index-epochs-from.result other _ _ _
      (search rules) c.requires.within (rw c.from-2.ensures at c.index-epochs-from-2.is)
      (rw c.from.ensures at c.index-epochs-from.is) c.in_ok-block.ensures.text c.in_ok-change.ensures.text
      c.in-Ok.ensures.ok;
}
