use Rattle.std.proofs.lemmas.Bool.{and_parts}
use Rattle.bound_certificate.specs.Sums.{all_below}
use Rattle.bound_certificate.specs.Problem.{site_count}
use Rattle.bound_certificate.specs.Placement.{is_placement, is_within_capacity, fits}
use Rattle.bound_certificate.proofs.Known.{is_placement-choices}
use Rattle.bound_certificate.proofs.Counted.{formed_root}
use Rattle.bound_certificate.proofs.judge.is_best.Goals as goal

pub cost_of-cost-requires : goal.cost_of-cost-requires
unfolding fits
cost_of-cost-requires c =
    let p = c.args.problem.now in
    let cs = c.args.placement.now.sites in
    let parts = and_parts (is_placement p cs) (all_below (is_within_capacity p cs) (site_count p)) c.requires.fits in
    rw c.as_slice.ensures (is_placement-choices p cs parts.0)

pub are_explored-explored-requires-clause-formed : goal.are_explored-explored-requires-clause-formed
are_explored-explored-requires-clause-formed c = rw c.new.ensures.value (formed_root c.args.tree.now c.requires.formed)
