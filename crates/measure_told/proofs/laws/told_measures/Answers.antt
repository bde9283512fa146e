use Rattle.measure_told.proofs.Told.{measure_ends, measure_spent, measure_stale}
use Rattle.measure_told.proofs.laws.told_measures.Goals as goal

pub returns : goal.returns
returns c = record { ends = measure_ends; spent = measure_spent; stale = measure_stale }
