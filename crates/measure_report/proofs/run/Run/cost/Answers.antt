use Rattle.outcome_report.proofs.Placed.{fits_choices}
use Rattle.measure_report.proofs.run.Run.cost.Goals as goal

pub cost_of-requires : goal.cost_of-requires
cost_of-requires c =
    rw (c.problem.ensures.problem, c.as_slice.ensures)
    (fits_choices c.self.inside.topology.now.problem c.self.inside.placement.now.sites c.self.invariant.fits)
