use Rattle.bound_certificate.proofs.Known.{is_placement-choices}
use Rattle.bound_certificate.proofs.placement.cost.Goals as goal

pub cost_of-requires : goal.cost_of-requires
cost_of-requires c =
    rw c.as_slice.ensures (is_placement-choices c.args.problem.now c.args.placement.now.sites c.requires)
