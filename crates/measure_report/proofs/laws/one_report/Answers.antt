use Rattle.measure_report.proofs.Reports.{same_report}
use Rattle.measure_report.proofs.laws.one_report.Goals as goal

pub returns : goal.returns
returns c = record { same = same_report }
