use Rattle.mon_words.proofs.Plain.{central_plain, check_plain, child_plain, drill_plain, epoch_plain, measure_plain, place_plain, topology_plain, total_plain, trace_plain}
use Rattle.mon_words.proofs.laws.plain_words.Goals as goal

pub returns-clause-total : goal.returns-clause-total
returns-clause-total c = total_plain

pub returns-clause-central : goal.returns-clause-central
returns-clause-central c = central_plain

pub returns-clause-epoch : goal.returns-clause-epoch
returns-clause-epoch c = epoch_plain

pub returns-clause-check : goal.returns-clause-check
returns-clause-check c = check_plain

pub returns-clause-child : goal.returns-clause-child
returns-clause-child c = child_plain

pub returns-clause-place : goal.returns-clause-place
returns-clause-place c = place_plain

pub returns-clause-measure : goal.returns-clause-measure
returns-clause-measure c = measure_plain

pub returns-clause-drill : goal.returns-clause-drill
returns-clause-drill c = drill_plain

pub returns-clause-generate_trace : goal.returns-clause-generate_trace
returns-clause-generate_trace c = trace_plain

pub returns-clause-generate_topology : goal.returns-clause-generate_topology
returns-clause-generate_topology c = topology_plain
