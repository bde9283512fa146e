use Rattle.bound_certificate.specs.Problem.{site_count}
use Rattle.bound_certificate.proofs.Known.{chosen-below}
use Rattle.bound_certificate.proofs.choices.served_by.Goals as goal

pub service-requires-clause-site : goal.service-requires-clause-site
service-requires-clause-site c =
    rw c.from.ensures (chosen-below c.args.problem.now c.args.choices.now
    (site_count c.args.problem.now) c.args.need c.requires.choices c.requires.need
    (rw c.via-via.ensures.value at c.via-via.ensures.known))
