-- A trace while it is read.
use Rattle.std.proofs.Common.{◌≡◌, ℕ, ◌<◌, List, ◌∷◌, [], length, Option, Some, Ok, ◌∙◌, ap, arith, length-append}
use Rattle.flow_keys.specs.Frame.{frame_key}
use Rattle.flow_keys.specs.declared.link.Link.{Link}
use Rattle.pcap_reader.specs.Trace.{Record, packet_of}
use Rattle.pcap_reader.specs.Reader.{SoFar, Advanced, captured_of}
use Rattle.pcap_reader.specs.declared.header.Header.{Header}
use Rattle.pcap_reader.specs.declared.packet.Packet.{Packet}
use Rattle.pcap_reader.specs.declared.reader.PcapReader.{PcapReader}
use Rattle.topology.specs.Topology.{Topo}
use Rattle.routed_trace.specs.declared.division.Division.{Division}
use Rattle.mon_trace.specs.Listing.{Lists}
use Rattle.mon_trace.specs.declared.reading.RoutedTrace.{RoutedTrace}

-- what was listed are the records that a reader has read
pub record Listing (contents rest : Option (List ℕ)) (reader : PcapReader) (topology : Option Topo) (division : Division)
    (read : RoutedTrace) : Type 0 where
  pub members : List Record
  pub so_far : SoFar contents rest reader members
  pub lists : Lists topology division read reader.header members

-- a record that a step gave, behind fewer than 1,048,576
pub few_before : {contents now : Option (List ℕ)} {next : PcapReader} {packet : Packet} (members : List Record)
    → Advanced contents now next members (Ok (Some packet)) → length members < 1048576
few_before members advanced = omega (arith, length-append members (advanced.0 ∷ []), advanced.1.begins.few)

-- the packet of the record that a step gave, and its key
pub packet_read : {contents now : Option (List ℕ)} {next : PcapReader} {packet : Packet} (header : Header)
    (members : List Record) → next.header ≡ header → (advanced : Advanced contents now next members (Ok (Some packet)))
    → packet ≡ packet_of header advanced.0
packet_read header members same advanced = advanced.2 ∙ ap (λ (h : Header). packet_of h advanced.0) same

pub key_read : {contents now : Option (List ℕ)} {next : PcapReader} {packet : Packet} {key : Option (List ℕ)}
    (header : Header) (members : List Record) → next.header ≡ header
    → (advanced : Advanced contents now next members (Ok (Some packet)))
    → key ≡ frame_key packet.link (captured_of next) → key ≡ frame_key header.link advanced.0.captured
key_read {next = next} header members same advanced is =
    let link = ap (λ (p : Packet). p.link) advanced.2 ∙ ap (λ (h : Header). h.link) same in
    is ∙ ap (λ (l : Link). frame_key l (captured_of next)) link
    ∙ ap (λ (bytes : List ℕ). frame_key header.link bytes) advanced.3
