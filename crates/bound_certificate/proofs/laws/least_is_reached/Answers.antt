use Rattle.bound_certificate.proofs.FloorLaw.{least_at, least_one}
use Rattle.bound_certificate.proofs.laws.least_is_reached.Goals as goal

pub returns-clause-one : goal.returns-clause-one
returns-clause-one c = least_one

pub returns-clause-least : goal.returns-clause-least
returns-clause-least c = least_at
