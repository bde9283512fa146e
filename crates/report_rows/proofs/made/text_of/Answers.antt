use Rattle.std.proofs.Common.{◌∙◌, sym}
use Rattle.report_rows.proofs.made.text_of.Goals as goal

pub write_report-requires-clause-setting : goal.write_report-requires-clause-setting
write_report-requires-clause-setting g c =
    rw c.deref.ensures.value (λ epoch other within. c.sketches-epochs.ensures.setting epoch other within
    ∙ sym c.requires.setting)

pub write_report-requires-clause-small : goal.write_report-requires-clause-small
write_report-requires-clause-small g c = rw c.deref.ensures.value c.sketches-epochs.ensures.small

pub write_report-requires-clause-few : goal.write_report-requires-clause-few
write_report-requires-clause-few g c = rw c.deref.ensures.value c.sketches-epochs.ensures.few
