use Rattle.std.proofs.Common.{sym, subst}
use Rattle.hash_family.specs.Setting.{setting_of}
use Rattle.sketch_merge.specs.Merged.{View}
use Rattle.measure_report.specs.Run.{IsEpoch}
use Rattle.report_rows.proofs.Nothing.{epoch_of_nothing}
use Rattle.report_rows.proofs.made.nothing.Goals as goal

pub returns : goal.returns
returns g c = record {
  epoch = subst (λ (view : View). IsEpoch (setting_of c.args.params) view)
      (sym (rw c.expect.ensures at c.new.ensures.value)) (epoch_of_nothing (setting_of c.args.params));
}
