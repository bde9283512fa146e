use Rattle.scripted_logs.proofs.Measures.{measure_given_up, measure_honest}
use Rattle.scripted_logs.proofs.laws.scripted_measures.Goals as goal

pub returns : goal.returns
returns c = record { honest = measure_honest; honest_given_up = measure_given_up }
