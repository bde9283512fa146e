use Rattle.std.proofs.Common.{refl}
use Rattle.maker_laws.proofs.Topologies.{accepted}
use Rattle.maker_laws.proofs.made_topologies.Goals as goal
use Rattle.maker_laws.specs.Topology.{made_topology}

pub returns-clause-accepted : goal.returns-clause-accepted
returns-clause-accepted c = accepted

pub returns-clause-switches : goal.returns-clause-switches
unfolding made_topology
returns-clause-switches c = refl

pub returns-clause-paths : goal.returns-clause-paths
unfolding made_topology
returns-clause-paths c = refl
