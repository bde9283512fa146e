use Rattle.topology.proofs.Accepted.{accepted}
use Rattle.mon_call.proofs.Lengths.{too_long}
use Rattle.mon_call.proofs.topology_file.read_topology.Goals as goal

pub returns-in-Err-TooLong-clause-reads : goal.returns-in-Err-TooLong-clause-reads
returns-in-Err-TooLong-clause-reads g c =
    let reads = rw c.in-Err-TooLong.field-0-is at c.in-Err-TooLong.ensures.reads in
    too_long _ _ reads.0 reads.1 reads.2

pub returns-in-Ok-from_toml-clause-accepted : goal.returns-in-Ok-from_toml-clause-accepted
returns-in-Ok-from_toml-clause-accepted g c =
    accepted c.deref.result.now c.in-Ok-from_toml.topology c.in-Ok-from_toml.ensures.topology
