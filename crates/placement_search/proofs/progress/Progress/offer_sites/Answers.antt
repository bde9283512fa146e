use Rattle.std.proofs.Common.{◌≡◌, ◌∙◌}
use Rattle.bound_certificate.proofs.Known.{is_placement-choices}
use Rattle.placement_search.proofs.progress.Progress.offer_sites.Goals as goal

pub cost_of-cost-requires : goal.cost_of-cost-requires
cost_of-cost-requires c =
    let same : c.in-Ok.items ≡ c.args.sites = c.in-Ok.ensures ∙ c.as_slice.ensures.value in
    rw c.as_slice-then-fits.ensures.value
    (is_placement-choices c.args.problem.now c.args.sites (rw same at c.if-fits.ensures.placed))
