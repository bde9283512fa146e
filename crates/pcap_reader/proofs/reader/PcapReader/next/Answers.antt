use Rattle.std.proofs.Common.{Err, sym, subst}
use Rattle.pcap_reader.specs.Reader.{Advanced}
use Rattle.pcap_reader.specs.declared.fault.PcapStop.{PcapStop}
use Rattle.pcap_reader.proofs.Steps.{advanced_stop}
use Rattle.pcap_reader.proofs.reader.PcapReader.next.Goals as goal

pub returns-in-Err-clause-advances : goal.returns-in-Err-clause-advances
returns-in-Err-clause-advances g c = λ contents members so_far.
    let now = (g.I.Inputs.state c.step.new.inputs).rest in
    subst (λ (stop : PcapStop). Advanced contents now c.stopped-in-Err.new.self members (Err stop))
    (sym c.stopped-in-Err.ensures.stop)
    (advanced_stop contents now c.step.new.self c.stopped-in-Err.new.self members c.in-Err.stop
    (c.in-Err.ensures.advances contents members so_far))
