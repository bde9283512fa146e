use Rattle.measure_told.proofs.Faults.{measure_refused, measure_unfit}
use Rattle.measure_told.proofs.laws.told_faults.Goals as goal

pub returns : goal.returns
returns c = record { unfit = measure_unfit; refused = measure_refused }
