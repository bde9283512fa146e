use Rattle.bound_certificate.proofs.Nodes.{choices_push}
use Rattle.placement_search.proofs.dive.estimate.Goals as goal

pub is_over-requires : goal.is_over-requires
is_over-requires c =
    rw (c.as_slice-sites.ensures.value, c.with-child.ensures.value)
    (choices_push c.args.problem.now c.args.choices.now c.args.site c.requires.choices c.requires.above c.requires.site)

pub cost_of-cost-requires : goal.cost_of-cost-requires
cost_of-cost-requires c =
    rw (c.as_slice-sites.ensures.value, c.with-child.ensures.value)
    (choices_push c.args.problem.now c.args.choices.now c.args.site c.requires.choices c.requires.above c.requires.site)
