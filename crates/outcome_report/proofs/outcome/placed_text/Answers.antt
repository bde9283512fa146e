use Rattle.outcome_report.proofs.Placed.{fits_choices}
use Rattle.outcome_report.proofs.outcome.placed_text.Goals as goal

pub cost_of-cost-requires : goal.cost_of-cost-requires
cost_of-cost-requires c =
    rw c.problem.ensures.problem (fits_choices c.args.topology.now.problem c.args.sites.now c.requires)
