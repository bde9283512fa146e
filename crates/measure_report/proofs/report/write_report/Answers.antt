use Rattle.measure_report.proofs.report.write_report.Goals as goal

pub epochs_text-requires : goal.epochs_text-requires
epochs_text-requires c = record {
  number = c.requires.number;
  each = λ epoch other within. record {
    shape = c.requires.setting epoch other within;
    small = c.requires.small epoch other within;
    few = c.requires.few epoch other within;
  };
}
