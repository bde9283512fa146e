-- The records of a made trace.
use Rattle.std.specs.Prelude.{ℕ, ◌+◌, ◌*◌, ◌^◌, List, [], ◌∷◌, map}
use Rattle.std.specs.List.{range_with_len}
use Rattle.flow_keys.specs.declared.link.Link.TheVariants.{Ethernet}
use Rattle.pcap_reader.specs.declared.header.Header.{Header}
use Rattle.pcap_reader.specs.declared.order.Order.TheVariants.{Little}
use Rattle.pcap_reader.specs.Trace.{Record}
use Rattle.trace_maker.specs.Trace.{flow_of, frame_bytes, head_bytes, host, network, original_of, protocol_of, source_port}

-- little-endian numbers, and Ethernet frames
abbrev pub made_header : Header
made_header = record { order = Little; link = Ethernet }

-- the record of packet n
abbrev pub member_of : ℕ → ℕ → ℕ → Record
member_of seed flows n = record {
  head = head_bytes n (original_of seed n);
  captured = frame_bytes (flow_of seed flows n) (original_of seed n);
}

-- a flow's addresses as numbers, 10.network.host and 10.(100 + network).0.1, and the words of its key
abbrev pub source_number : ℕ → ℕ
source_number flow = 10 * 2 ^ 24 + network flow * 2 ^ 16 + host flow

abbrev pub destination_number : ℕ → ℕ
destination_number flow = 10 * 2 ^ 24 + (100 + network flow) * 2 ^ 16 + 1

abbrev pub key_of : ℕ → List ℕ
key_of flow =
    4 ∷ source_number flow ∷ 0 ∷ 0 ∷ 0 ∷ destination_number flow ∷ 0 ∷ 0 ∷ 0
    ∷ (65536 * source_port flow + 443) ∷ protocol_of flow ∷ []

-- the records of so many packets
abbrev pub members_of : ℕ → ℕ → ℕ → List Record
members_of seed packets flows = map (member_of seed flows) (range_with_len 0 packets)
