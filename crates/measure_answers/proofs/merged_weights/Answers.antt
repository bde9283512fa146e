use Rattle.measure_answers.proofs.Weighed.{weighs}
use Rattle.measure_answers.proofs.merged_weights.Goals as goal

pub returns : goal.returns
returns c = record { weighed = λ r first replay merged on gathers epoch within. weighs r first replay merged on gathers epoch within }
