use Rattle.pcap_reader.proofs.Traces.{one_trace, one_fault, not_both, always_one, starts_record}
use Rattle.pcap_reader.proofs.Readings.{record_no_fault}
use Rattle.pcap_reader.proofs.laws.one_reading.Goals as goal

pub returns-clause-one_trace : goal.returns-clause-one_trace
returns-clause-one_trace c = λ bytes header other xs ys first second. one_trace first second

pub returns-clause-one_fault : goal.returns-clause-one_fault
returns-clause-one_fault c = one_fault

pub returns-clause-not_both : goal.returns-clause-not_both
returns-clause-not_both c = not_both

pub returns-clause-always_one : goal.returns-clause-always_one
returns-clause-always_one c = always_one

pub returns-clause-no_fault : goal.returns-clause-no_fault
returns-clause-no_fault c =
    λ order count offset rest few. (starts_record order count offset rest, record_no_fault order count offset rest few)
