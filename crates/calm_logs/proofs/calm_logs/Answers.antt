use Rattle.std.specs.Prelude.{⊤}
use Rattle.calm_logs.proofs.Searches.{calm_found, calm_given_up}
use Rattle.calm_logs.proofs.calm_logs.Goals as goal

pub returns-clause-found : goal.returns-clause-found
returns-clause-found c = calm_found

pub returns-clause-given_up : goal.returns-clause-given_up
returns-clause-given_up c =
    λ problem solving first part work. calm_given_up problem solving first (λ plan log. ⊤) part work
