use Rattle.std.proofs.Common.{◌++◌, ℕ, List, Err, arith, sym, ◌∙◌, ap, subst, length-append, [], ◌∷◌}
use Rattle.flow_keys.specs.Frame.{frame_key}
use Rattle.pcap_reader.specs.declared.fault.PcapStop.{PcapStop}
use Rattle.pcap_reader.specs.declared.header.Header.{Header}
use Rattle.mon_central.specs.Sketched.{Divides}
use Rattle.mon_central.proofs.Readings.{few_before, key_read, packet_read}
use Rattle.mon_central.proofs.Stops.{Reads, advanced_stop, begun_stop, counted_stop}
use Rattle.routed_trace.proofs.Readings.{whole_trace}
use Rattle.mon_central.proofs.epochs.sketch.Goals as goal

pub returns-in-Ok-None-clause-sketched : goal.returns-in-Ok-None-clause-sketched
returns-in-Ok-None-clause-sketched g c =
    let dividing = c.loop-packet.invariant.0 in
    let ended = rw c.in-Ok-None.field-0-is at (c.in-Ok-None.ensures.advances _ dividing.members
    dividing.so_far) in record {
      header = c.next.new.self.header;
      members = dividing.members;
      is_trace = whole_trace _ ended.0 ended.1;
      few = dividing.so_far.begins.few;
      divides = subst (λ (h : Header). Divides c.args.setting.now c.args.topology.now c.loop-packet.epochs h
          dividing.members) (sym c.next.ensures.header) dividing.divides;
    }

pub add-requires-clause-next : goal.add-requires-clause-next
add-requires-clause-next g c =
    let dividing = c.loop-packet.invariant.0 in
    let header = c.loop-packet.reader.header in
    let advanced = rw c.in-Ok-Some.field-0-is at (c.in-Ok-Some.ensures.advances _ dividing.members
    dividing.so_far) in record {
      header = header;
      members = dividing.members;
      member = advanced.0;
      few = few_before dividing.members advanced;
      divides = dividing.divides;
      packet_is = packet_read header dividing.members c.next.ensures.header advanced;
      key_is = key_read header dividing.members c.next.ensures.header advanced
          (c.key_of-key.ensures.key ∙ ap (λ (bytes : List ℕ). frame_key c.in-Ok-Some.packet.link bytes)
          c.captured.ensures.bytes);
    }

pub loop-packet-smaller : goal.loop-packet-smaller
loop-packet-smaller g c =
    let dividing = c.loop-packet.invariant.0 in
    let header = c.loop-packet.reader.header in
    let advanced = rw c.in-Ok-Some.field-0-is at (c.in-Ok-Some.ensures.advances _ dividing.members dividing.so_far) in
    let at = packet_read header dividing.members c.next.ensures.header advanced in
    let is = key_read header dividing.members c.next.ensures.header advanced
    (c.key_of-key.ensures.key ∙ ap (λ (bytes : List ℕ). frame_key c.in-Ok-Some.packet.link bytes)
    c.captured.ensures.bytes) in
    let counted = c.in-Ok-add.ensures header dividing.members advanced.0 dividing.divides at is in
    omega (
      arith,
      counted.counts_are.packets,
      dividing.divides.counts_are.packets,
      length-append dividing.members
          (advanced.0 ∷ []),
      few_before dividing.members advanced,
    )

pub loop-packet-preserved : goal.loop-packet-preserved
loop-packet-preserved g c =
    let dividing = c.loop-packet.invariant.0 in
    let header = c.loop-packet.reader.header in
    let advanced = rw c.in-Ok-Some.field-0-is at (c.in-Ok-Some.ensures.advances _ dividing.members dividing.so_far) in
    let at = packet_read header dividing.members c.next.ensures.header advanced in
    let is = key_read header dividing.members c.next.ensures.header advanced
    (c.key_of-key.ensures.key ∙ ap (λ (bytes : List ℕ). frame_key c.in-Ok-Some.packet.link bytes)
    c.captured.ensures.bytes) in
    let members = dividing.members ++ advanced.0 ∷ [] in
    let counted = c.in-Ok-add.ensures header dividing.members advanced.0 dividing.divides at is in (
      record {
        members = members;
        so_far = advanced.1;
        divides = subst (λ (h : Header). Divides c.args.setting.now c.args.topology.now c.add.new.self h members)
            (sym c.next.ensures.header) counted;
      },
      omega (arith, c.loop-packet.invariant.1, c.next.ensures.later),
      c.next.ensures.stays ∙ c.loop-packet.invariant.2,
      λ names stood. c.next.ensures.picks (names ++ c.args.trace.now ∷ []) (c.loop-packet.invariant.3 names stood),
    )

pub returns-in-Err-clause-sketched : goal.returns-in-Err-clause-sketched
returns-in-Err-clause-sketched g c =
    let contents = (g.I.Inputs.state c.args.inputs.now).contents in
    let before = g.I.Inputs.state c.args.inputs.now in
    let now = g.I.Inputs.state c.begin.new.inputs in
    subst (Reads contents c.args.trace.now c.args.topology.now c.args.setting.now before now)
    (sym c.trace_status.ensures.value)
    (begun_stop contents c.args.trace.now c.args.topology.now c.args.setting.now before now c.in-Err.stop
    c.in-Err.ensures.begun
    (λ is. c.in-Err.ensures.cause (ap (λ (stop : PcapStop). Err stop) is)))

pub returns-in-Err-next-clause-sketched : goal.returns-in-Err-next-clause-sketched
returns-in-Err-next-clause-sketched g c =
    let contents = (g.I.Inputs.state c.args.inputs.now).contents in
    let before = g.I.Inputs.state c.args.inputs.now in
    let mid = g.I.Inputs.state c.loop-packet.inputs in
    let now = g.I.Inputs.state c.next.new.inputs in
    let dividing = c.loop-packet.invariant.0 in
    subst (Reads contents c.args.trace.now c.args.topology.now c.args.setting.now before now)
    (sym c.trace_status-in-Err-next.ensures.value)
    (advanced_stop contents c.args.trace.now c.args.topology.now c.args.setting.now before mid now c.loop-packet.reader
    c.next.new.self dividing.members c.in-Err-next.stop
    dividing.so_far dividing.divides.counts_are.divided
    (c.in-Err-next.ensures.advances _ dividing.members dividing.so_far) c.loop-packet.invariant.1
    (λ is. c.in-Err-next.ensures.cause (ap (λ (stop : PcapStop). Err stop) is)))

pub returns-in-Err-add-clause-sketched : goal.returns-in-Err-add-clause-sketched
returns-in-Err-add-clause-sketched g c =
    let contents = (g.I.Inputs.state c.args.inputs.now).contents in
    let before = g.I.Inputs.state c.args.inputs.now in
    let now = g.I.Inputs.state c.next.new.inputs in
    let dividing = c.loop-packet.invariant.0 in
    let header = c.loop-packet.reader.header in
    let advanced = rw c.in-Ok-Some.field-0-is at (c.in-Ok-Some.ensures.advances _ dividing.members dividing.so_far) in
    let at = packet_read header dividing.members c.next.ensures.header advanced in
    let is = key_read header dividing.members c.next.ensures.header advanced
    (c.key_of-key.ensures.key ∙ ap (λ (bytes : List ℕ). frame_key c.in-Ok-Some.packet.link bytes)
    c.captured.ensures.bytes) in
    let counted = c.in-Err-add.ensures header dividing.members advanced.0 dividing.divides at is in
    counted_stop contents c.args.trace.now c.args.topology.now c.args.setting.now c.add.new.self before now
    c.next.new.self header dividing.members advanced.0 c.in-Err-add.status
    c.next.ensures.header advanced.1 dividing.divides.counts_are.divided counted
