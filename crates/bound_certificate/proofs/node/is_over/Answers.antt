use Rattle.std.proofs.Common.{◌<◌, ◌-◌, length, arith}
use Rattle.std.proofs.lemmas.Bool.Decides.{nat_tests}
use Rattle.bound_certificate.specs.Problem.{site_count}
use Rattle.bound_certificate.proofs.Known.{chosen-below}
use Rattle.bound_certificate.proofs.node.is_over.Goals as goal

pub is_within_capacity-requires-clause-known : goal.is_within_capacity-requires-clause-known
is_within_capacity-requires-clause-known c =
    let last : length c.args.choices.now - 1 < length c.args.choices.now = grind (arith, nat_tests) in
    chosen-below c.args.problem.now c.args.choices.now (site_count c.args.problem.now)
    (length c.args.choices.now - 1) c.requires last
    (rw c.via-via.ensures.value at c.via-via.ensures.known)
