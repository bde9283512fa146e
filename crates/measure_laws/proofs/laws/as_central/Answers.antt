use Rattle.measure_laws.proofs.Kept.{block_as_central, change_as_central, measured_as_central}
use Rattle.measure_laws.proofs.laws.as_central.Goals as goal

pub returns : goal.returns
returns c = record { block = block_as_central; change = change_as_central; text = measured_as_central }
