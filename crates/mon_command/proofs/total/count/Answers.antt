use Rattle.std.proofs.Common.{◌≡◌, ℕ, ◌+◌, [], ◌∷◌, ◌++◌, true, false, is_some, List, Option, Err, subst, arith, refl, sym, ◌∙◌, ap}
use Rattle.flow_keys.specs.Frame.{frame_key}
use Rattle.pcap_reader.specs.Reader.{captured_of}
use Rattle.pcap_reader.specs.declared.header.Header.{Header}
use Rattle.pcap_reader.specs.declared.fault.PcapStop.{PcapStop}
use Rattle.routed_trace.specs.Routed.{keyed_in}
use Rattle.routed_trace.proofs.Readings.{whole_trace}
use Rattle.mon_call.specs.Trace.{ReadsTrace}
use Rattle.mon_call.specs.declared.status.Status.{Status}
use Rattle.mon_command.specs.Total.{IsBroken, IsCount}
use Rattle.mon_command.proofs.Counting.{advanced_stop, begun_stop, counted_more}
use Rattle.mon_command.proofs.total.count.Goals as goal

pub returns-in-Ok-None-clause-counted : goal.returns-in-Ok-None-clause-counted
returns-in-Ok-None-clause-counted g c =
    let counting = c.loop-packet.invariant.0 in
    let ended = rw c.in-Ok-None.field-0-is at (c.in-Ok-None.ensures.advances _ counting.members
    counting.so_far) in record {
      header = c.next.new.self.header;
      members = counting.members;
      trace = whole_trace _ ended.0 ended.1;
      packets = counting.packets_is;
      keyed = counting.keyed_is ∙ ap (λ (h : Header). keyed_in h counting.members) (sym c.next.ensures.header);
    }

pub returns-in-Err-clause-counted : goal.returns-in-Err-clause-counted
returns-in-Err-clause-counted g c =
    let before = g.I.Inputs.state c.args.inputs.now in
    let contents = before.contents c.args.trace.now in
    let now = g.I.Inputs.state c.begin.new.inputs in
    subst (λ (s : Status). ReadsTrace (IsCount contents) (IsBroken contents) contents before now (Err s))
    (sym c.trace_status.ensures.value)
    (begun_stop contents before now c.in-Err.stop c.in-Err.ensures.begun
    (λ is. c.in-Err.ensures.cause (ap (λ (stop : PcapStop). Err stop) is)))

pub returns-in-Err-next-clause-counted : goal.returns-in-Err-next-clause-counted
returns-in-Err-next-clause-counted g c =
    let before = g.I.Inputs.state c.args.inputs.now in
    let contents = before.contents c.args.trace.now in
    let now = g.I.Inputs.state c.next.new.inputs in
    let counting = c.loop-packet.invariant.0 in
    subst (λ (s : Status). ReadsTrace (IsCount contents) (IsBroken contents) contents before now (Err s))
    (sym c.trace_status-in-Err-next.ensures.value)
    (advanced_stop contents before (g.I.Inputs.state c.loop-packet.inputs) now c.loop-packet.reader c.next.new.self
    counting.members c.in-Err-next.stop
    counting.so_far (c.in-Err-next.ensures.advances _ counting.members counting.so_far) c.loop-packet.invariant.1
    (λ is. c.in-Err-next.ensures.cause (ap (λ (stop : PcapStop). Err stop) is)))

pub loop-packet-preserved-then-is_some : goal.loop-packet-preserved-then-is_some
loop-packet-preserved-then-is_some g c =
    let counting = c.loop-packet.invariant.0 in
    let advanced = rw c.in-Ok-Some.field-0-is at (c.in-Ok-Some.ensures.advances _ counting.members counting.so_far) in
    let keyed : is_some (frame_key c.in-Ok-Some.packet.link (captured_of c.next.new.self)) ≡ true =
    ap (λ (bytes : List ℕ). is_some (frame_key c.in-Ok-Some.packet.link bytes)) (sym c.captured.ensures.bytes)
    ∙ ap (λ (k : Option (List ℕ)). is_some k) (sym c.key_of.ensures.key) ∙ sym c.if-is_some.ensures in
    let more = counted_more c.in-Ok-Some.packet true (c.loop-packet.keyed + 1) counting advanced c.next.ensures.header
    keyed refl in (
      more.0,
      omega (arith, c.loop-packet.invariant.1, c.next.ensures.later),
      c.next.ensures.stays
          ∙ c.loop-packet.invariant.2,
      λ names stood. c.next.ensures.picks (names ++ c.args.trace.now ∷ [])
          (c.loop-packet.invariant.3 names stood),
    )

pub loop-packet-smaller-then-is_some : goal.loop-packet-smaller-then-is_some
loop-packet-smaller-then-is_some g c =
    let counting = c.loop-packet.invariant.0 in
    let advanced = rw c.in-Ok-Some.field-0-is at (c.in-Ok-Some.ensures.advances _ counting.members counting.so_far) in
    let keyed : is_some (frame_key c.in-Ok-Some.packet.link (captured_of c.next.new.self)) ≡ true =
    ap (λ (bytes : List ℕ). is_some (frame_key c.in-Ok-Some.packet.link bytes)) (sym c.captured.ensures.bytes)
    ∙ ap (λ (k : Option (List ℕ)). is_some k) (sym c.key_of.ensures.key) ∙ sym c.if-is_some.ensures in
    let more = counted_more c.in-Ok-Some.packet true (c.loop-packet.keyed + 1) counting advanced c.next.ensures.header
    keyed refl in
    omega (arith, more.1)

pub loop-packet-preserved : goal.loop-packet-preserved
loop-packet-preserved g c =
    let counting = c.loop-packet.invariant.0 in
    let advanced = rw c.in-Ok-Some.field-0-is at (c.in-Ok-Some.ensures.advances _ counting.members counting.so_far) in
    let keyed : is_some (frame_key c.in-Ok-Some.packet.link (captured_of c.next.new.self)) ≡ false =
    ap (λ (bytes : List ℕ). is_some (frame_key c.in-Ok-Some.packet.link bytes)) (sym c.captured.ensures.bytes)
    ∙ ap (λ (k : Option (List ℕ)). is_some k) (sym c.key_of.ensures.key) ∙ sym c.if-is_some.ensures in
    let more = counted_more c.in-Ok-Some.packet false (c.loop-packet.keyed) counting advanced c.next.ensures.header
    keyed (omega arith) in (
      more.0,
      omega (arith, c.loop-packet.invariant.1, c.next.ensures.later),
      c.next.ensures.stays
          ∙ c.loop-packet.invariant.2,
      λ names stood. c.next.ensures.picks (names ++ c.args.trace.now ∷ [])
          (c.loop-packet.invariant.3 names stood),
    )

pub loop-packet-smaller : goal.loop-packet-smaller
loop-packet-smaller g c =
    let counting = c.loop-packet.invariant.0 in
    let advanced = rw c.in-Ok-Some.field-0-is at (c.in-Ok-Some.ensures.advances _ counting.members counting.so_far) in
    let keyed : is_some (frame_key c.in-Ok-Some.packet.link (captured_of c.next.new.self)) ≡ false =
    ap (λ (bytes : List ℕ). is_some (frame_key c.in-Ok-Some.packet.link bytes)) (sym c.captured.ensures.bytes)
    ∙ ap (λ (k : Option (List ℕ)). is_some k) (sym c.key_of.ensures.key) ∙ sym c.if-is_some.ensures in
    let more = counted_more c.in-Ok-Some.packet false (c.loop-packet.keyed) counting advanced c.next.ensures.header
    keyed (omega arith) in
    omega (arith, more.1)
