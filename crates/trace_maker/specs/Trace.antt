-- The trace of a seed: classic pcap, version 2.4, with little-endian numbers and times in microseconds, of Ethernet
-- frames. Of each packet the Ethernet header, the IPv4 header and the first eight bytes behind it are captured.
use Rattle.std.specs.Prelude.{ℕ, ◌+◌, ◌-◌, ◌*◌, ◌/◌, ◌%◌, ◌==◌, List, [], ◌∷◌, ◌++◌, if◌then◌else◌}
use Rattle.std.specs.List.{flat_map, range_with_len}
use Rattle.byteorder.specs.Endian.{big_bytes, little_bytes}
use Rattle.trace_maker.specs.Stream.{word}

-- the flow of packet n, of so many flows: two words of the stream, each as a number below that of the flows, and their
-- product divided by it, so that low numbers are drawn more often
unfoldable pub flow_of : ℕ → ℕ → ℕ → ℕ
flow_of seed flows n = (word seed (2 * n) % flows) * (word seed (2 * n + 1) % flows) / flows

-- its original length in bytes: 64 to 1500
unfoldable pub original_of : ℕ → ℕ → ℕ
original_of seed n = 64 + word seed (2 * n + 1) % 1437

-- when it came, 50,000 packets in a second: seconds and microseconds
abbrev pub seconds : ℕ → ℕ
seconds n = 1600000000 + n / 50000

abbrev pub microseconds : ℕ → ℕ
microseconds n = n % 50000 * 20

-- the network of a flow, one of thirty, and its host there
abbrev pub network : ℕ → ℕ
network flow = flow % 30

abbrev pub host : ℕ → ℕ
host flow = flow / 30

-- its addresses: 10.network.host, and 10.(100 + network).0.1
abbrev pub source_address : ℕ → List ℕ
source_address flow = 10 ∷ network flow ∷ host flow / 256 ∷ host flow % 256 ∷ []

abbrev pub destination_address : ℕ → List ℕ
destination_address flow = 10 ∷ (100 + network flow) ∷ 0 ∷ 1 ∷ []

-- its source port; the destination port is 443
abbrev pub source_port : ℕ → ℕ
source_port flow = 1024 + flow % 50000

-- TCP where its number is odd, else UDP
abbrev pub protocol_of : ℕ → ℕ
protocol_of flow = if flow % 2 == 1 then 6 else 17

-- magic number, version, zone, accuracy, longest captured length, and link
abbrev pub header_bytes : List ℕ
header_bytes =
    little_bytes 4 0xa1b2c3d4 ++ (little_bytes 2 2 ++ (little_bytes 2 4 ++ (little_bytes 4 0 ++ (little_bytes 4 0
    ++ (little_bytes 4 65535 ++ little_bytes 4 1)))))

-- seconds, microseconds, captured length and original length of packet n
unfoldable pub head_bytes : ℕ → ℕ → List ℕ
head_bytes n original =
    little_bytes 4 (seconds n) ++ (little_bytes 4 (microseconds n)
    ++ (little_bytes 4 42 ++ little_bytes 4 original))

-- destination 02:00:00:00:00:02, source 02:00:00:00:00:01, and the type of IPv4
abbrev pub ethernet_bytes : List ℕ
ethernet_bytes = 2 ∷ 0 ∷ 0 ∷ 0 ∷ 0 ∷ 2 ∷ 2 ∷ 0 ∷ 0 ∷ 0 ∷ 0 ∷ 1 ∷ 0x08 ∷ 0 ∷ []

-- version and header length, service, total length, identification, fragment, time to live, protocol, checksum, and
-- addresses
abbrev pub ipv4_bytes : ℕ → ℕ → ℕ → List ℕ
ipv4_bytes protocol flow original =
    (0x45 ∷ 0 ∷ []) ++ (big_bytes 2 (original - 14) ++ (big_bytes 2 0 ++ (big_bytes 2 0
    ++ ((0x40 ∷ protocol ∷ []) ++ (big_bytes 2 0 ++ (source_address flow ++ destination_address flow))))))

-- the ports, and four zero bytes
abbrev pub port_bytes : ℕ → List ℕ
port_bytes flow = big_bytes 2 (source_port flow) ++ (big_bytes 2 443 ++ big_bytes 4 0)

-- the captured bytes of a packet
unfoldable pub frame_bytes : ℕ → ℕ → List ℕ
frame_bytes flow original = ethernet_bytes ++ (ipv4_bytes (protocol_of flow) flow original ++ port_bytes flow)

-- the record of packet n
unfoldable pub record_bytes : ℕ → ℕ → ℕ → List ℕ
record_bytes seed flows n =
    head_bytes n (original_of seed n) ++ frame_bytes (flow_of seed flows n) (original_of seed n)

-- the header, and so many records
unfoldable pub generated_trace : ℕ → ℕ → ℕ → List ℕ
generated_trace seed packets flows =
    header_bytes ++ flat_map (record_bytes seed flows) (range_with_len 0 packets)
