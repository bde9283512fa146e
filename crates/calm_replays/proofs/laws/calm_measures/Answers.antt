use Rattle.calm_replays.proofs.Measures.{inline_ends, measure_calm, measure_honest}
use Rattle.calm_replays.proofs.laws.calm_measures.Goals as goal

pub returns : goal.returns
returns c = record { calm = measure_calm; ends = inline_ends; honest = measure_honest }
