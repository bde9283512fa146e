use Rattle.std.proofs.Common.{arith}
use Rattle.bound_certificate.proofs.Fitting.{IsFitting, fitting}
use Rattle.outcome_report.proofs.placement.paths_text.Goals as goal
use Rattle.outcome_report.proofs.placement.paths_text.Goals.{In-loop-path}

is_fitting : (c : In-loop-path) → IsFitting c.args.topology.now.problem c.args.sites.now
is_fitting c =
    fitting c.args.topology.now.problem c.args.sites.now (rw c.problem.ensures.problem at c.sites-sites.ensures.within)
    c.requires

pub path_text-requires-clause-placed : goal.path_text-requires-clause-placed
path_text-requires-clause-placed c = omega (arith, (is_fitting c).size)

pub path_text-requires-clause-switch : goal.path_text-requires-clause-switch
path_text-requires-clause-switch c = (is_fitting c).known c.loop-path.path (omega arith)
