use Rattle.std.proofs.Common.{◌≡◌, ◌<◌, false, sym, arith}
use Rattle.std.proofs.lemmas.Grind.{common_steps}
use Rattle.bound_certificate.specs.Problem.{site_count}
use Rattle.bound_certificate.specs.Placement.{is_within_capacity}
use Rattle.bound_certificate.proofs.Below.{all_below_fails}
use Rattle.bound_certificate.proofs.placement.is_within_capacities.Goals as goal

pub returns-then-not-is_within_capacity : goal.returns-then-not-is_within_capacity
returns-then-not-is_within_capacity c =
    let below : c.loop-site.site < site_count c.args.problem.now = omega arith in
    let fails : is_within_capacity c.args.problem.now c.args.choices.now c.loop-site.site ≡ false =
    grind (arith, common_steps) in
    sym (all_below_fails (is_within_capacity c.args.problem.now c.args.choices.now)
    (site_count c.args.problem.now) c.loop-site.site below fails)
