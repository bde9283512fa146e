use Rattle.drill_laws.proofs.Fit.{fit, read}
use Rattle.drill_laws.proofs.fit_drills.Goals as goal
use Rattle.maker_laws.proofs.Topologies.{accepted}

pub returns-clause-spells : goal.returns-clause-spells
returns-clause-spells c = λ seed packets flows. accepted

pub returns-clause-fit : goal.returns-clause-fit
returns-clause-fit c = fit

pub returns-clause-read : goal.returns-clause-read
returns-clause-read c = read
