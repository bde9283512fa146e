use Rattle.std.proofs.Common.{◌++◌, ℕ, List, Err, arith, sym, ◌∙◌, ap, subst, length-append, [], ◌∷◌}
use Rattle.flow_keys.specs.Frame.{frame_key}
use Rattle.pcap_reader.specs.declared.fault.PcapStop.{PcapStop}
use Rattle.pcap_reader.specs.declared.header.Header.{Header}
use Rattle.routed_trace.proofs.Readings.{whole_trace}
use Rattle.mon_trace.specs.Listing.{Lists}
use Rattle.mon_trace.proofs.Readings.{few_before, key_read, packet_read}
use Rattle.mon_trace.proofs.Stops.{Reads, advanced_stop, begun_stop, listed_stop}
use Rattle.mon_trace.proofs.reading.read_trace.Goals as goal

pub loop-packet-init : goal.loop-packet-init
loop-packet-init g c = (
  record {
    members = [];
    so_far = c.in-Ok.ensures.begun;
    lists = c.none-read.ensures c.args.topology.now c.args.division.now c.in-Ok.reader.header;
  },
  c.begin.ensures.later,
  c.begin.ensures.stays,
  c.begin.ensures.picks,
)

pub returns-in-Ok-None-clause-read : goal.returns-in-Ok-None-clause-read
returns-in-Ok-None-clause-read g c =
    let listing = c.loop-packet.invariant.0 in
    let ended = rw c.in-Ok-None.field-0-is at (c.in-Ok-None.ensures.advances _ listing.members listing.so_far) in
    let lists = subst (λ (h : Header). Lists c.args.topology.now c.args.division.now c.loop-packet.read h
    listing.members) (sym c.next.ensures.header) listing.lists in record {
      header = c.next.new.self.header;
      members = listing.members;
      is_trace = whole_trace _ ended.0 ended.1;
      few = listing.so_far.begins.few;
      counts_are = lists.counts_are;
      list = lists.list;
    }

pub add-requires-clause-part : goal.add-requires-clause-part
add-requires-clause-part g c =
    let listing = c.loop-packet.invariant.0 in
    let advanced = rw c.in-Ok-Some.field-0-is at (c.in-Ok-Some.ensures.advances _ listing.members listing.so_far) in
    record {
      header = c.loop-packet.reader.header;
      members = listing.members;
      few = few_before listing.members advanced;
      counts_are = listing.lists.counts_are;
    }

pub loop-packet-smaller : goal.loop-packet-smaller
loop-packet-smaller g c =
    let listing = c.loop-packet.invariant.0 in
    let header = c.loop-packet.reader.header in
    let advanced = rw c.in-Ok-Some.field-0-is at (c.in-Ok-Some.ensures.advances _ listing.members listing.so_far) in
    let at = packet_read header listing.members c.next.ensures.header advanced in
    let is = key_read header listing.members c.next.ensures.header advanced
    (c.key_of-key.ensures.key ∙ ap (λ (bytes : List ℕ). frame_key c.in-Ok-Some.packet.link bytes)
    c.captured.ensures.bytes) in
    let listed = c.in-Ok-add.ensures header listing.members advanced.0 listing.lists at is in
    omega (
      arith,
      listed.counts_are.packets,
      listing.lists.counts_are.packets,
      length-append listing.members (advanced.0 ∷ []),
      few_before listing.members advanced,
    )

pub loop-packet-preserved : goal.loop-packet-preserved
loop-packet-preserved g c =
    let listing = c.loop-packet.invariant.0 in
    let header = c.loop-packet.reader.header in
    let advanced = rw c.in-Ok-Some.field-0-is at (c.in-Ok-Some.ensures.advances _ listing.members listing.so_far) in
    let at = packet_read header listing.members c.next.ensures.header advanced in
    let is = key_read header listing.members c.next.ensures.header advanced
    (c.key_of-key.ensures.key ∙ ap (λ (bytes : List ℕ). frame_key c.in-Ok-Some.packet.link bytes)
    c.captured.ensures.bytes) in
    let members = listing.members ++ advanced.0 ∷ [] in
    let listed = c.in-Ok-add.ensures header listing.members advanced.0 listing.lists at is in (
      record {
        members = members;
        so_far = advanced.1;
        lists = subst (λ (h : Header). Lists c.args.topology.now c.args.division.now c.add.new.self h members)
            (sym c.next.ensures.header) listed;
      },
      omega (arith, c.loop-packet.invariant.1, c.next.ensures.later),
      c.next.ensures.stays ∙ c.loop-packet.invariant.2,
      λ names stood. c.next.ensures.picks (names ++ c.args.trace.now ∷ []) (c.loop-packet.invariant.3 names stood),
    )

pub returns-in-Err-clause-read : goal.returns-in-Err-clause-read
returns-in-Err-clause-read g c =
    let before = g.I.Inputs.state c.args.inputs.now in
    let contents = before.contents c.args.trace.now in
    let now = g.I.Inputs.state c.begin.new.inputs in
    subst (Reads contents c.args.topology.now c.args.division.now before now) (sym c.trace_status.ensures.value)
    (begun_stop contents c.args.topology.now c.args.division.now before now c.in-Err.stop c.in-Err.ensures.begun
    (λ is. c.in-Err.ensures.cause (ap (λ (stop : PcapStop). Err stop) is)))

pub returns-in-Err-next-clause-read : goal.returns-in-Err-next-clause-read
returns-in-Err-next-clause-read g c =
    let before = g.I.Inputs.state c.args.inputs.now in
    let contents = before.contents c.args.trace.now in
    let mid = g.I.Inputs.state c.loop-packet.inputs in
    let now = g.I.Inputs.state c.next.new.inputs in
    let listing = c.loop-packet.invariant.0 in
    subst (Reads contents c.args.topology.now c.args.division.now before now)
    (sym c.trace_status-in-Err-next.ensures.value)
    (advanced_stop contents c.args.topology.now c.args.division.now before mid now c.loop-packet.reader c.next.new.self
    listing.members c.in-Err-next.stop listing.so_far listing.lists.counts_are.divided
    (c.in-Err-next.ensures.advances _ listing.members listing.so_far) c.loop-packet.invariant.1
    (λ is. c.in-Err-next.ensures.cause (ap (λ (stop : PcapStop). Err stop) is)))

pub returns-in-Err-add-clause-read : goal.returns-in-Err-add-clause-read
returns-in-Err-add-clause-read g c =
    let before = g.I.Inputs.state c.args.inputs.now in
    let contents = before.contents c.args.trace.now in
    let now = g.I.Inputs.state c.next.new.inputs in
    let listing = c.loop-packet.invariant.0 in
    let header = c.loop-packet.reader.header in
    let advanced = rw c.in-Ok-Some.field-0-is at (c.in-Ok-Some.ensures.advances _ listing.members listing.so_far) in
    let at = packet_read header listing.members c.next.ensures.header advanced in
    let is = key_read header listing.members c.next.ensures.header advanced
    (c.key_of-key.ensures.key ∙ ap (λ (bytes : List ℕ). frame_key c.in-Ok-Some.packet.link bytes)
    c.captured.ensures.bytes) in
    let listed = c.in-Err-add.ensures header listing.members advanced.0 listing.lists at is in
    listed_stop contents c.args.topology.now c.args.division.now c.add.new.self before now c.next.new.self header
    listing.members advanced.0 c.in-Err-add.status c.next.ensures.header advanced.1
    listing.lists.counts_are.divided listed
