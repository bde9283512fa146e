-- What has been read of a trace.
use Rattle.std.specs.Prelude.{◌≡◌, ℕ, List, [], ◌∷◌, ◌++◌, Option, ⊤, Result, Ok, Err}
use Rattle.flow_keys.specs.Frame.{frame_key}
use Rattle.pcap_reader.specs.declared.header.Header.{Header}
use Rattle.pcap_reader.specs.declared.packet.Packet.{Packet}
use Rattle.pcap_reader.specs.Trace.{Record, packet_of}
use Rattle.routed_trace.specs.Counts.{Added, AreCounts}
use Rattle.routed_trace.specs.Routed.{routed_of}
use Rattle.routed_trace.specs.declared.division.Division.{Division}
use Rattle.topology.specs.Topology.{Topo}
use Rattle.mon_call.specs.declared.status.Status.{Status}
use Rattle.mon_call.specs.declared.status.Status.TheVariants.{Trace, Memory}
use Rattle.mon_trace.specs.declared.reading.RoutedTrace.{RoutedTrace}

-- the list and the numbers are those of these records
pub record Lists (topology : Option Topo) (division : Division) (read : RoutedTrace) (header : Header)
    (members : List Record) : Type 0 where
  pub counts_are : AreCounts division topology read.counts header members
  pub list : read.routed.items ≡ routed_of division topology header members

-- how listing one more record ended: with it behind the others, or where it is late or heavy
abbrev pub Listed : Option Topo → Division → RoutedTrace → Header → List Record → Record → Result (Unit {0}) Status
    → Type 0
Listed topology division read header members member (Ok done) = Lists topology division read header
    (members ++ member ∷ [])
Listed topology division read header members member (Err (Trace fault)) =
    Added division topology read.counts header members member (Err fault)
Listed topology division read header members member (Err Memory) = ⊤
Listed topology division read header members member (Err _) = ⊥

-- the same of any records so far, and one that is this packet, with this key
abbrev pub Adds : Option Topo → Division → RoutedTrace → RoutedTrace → Packet → Option (List ℕ)
    → Result (Unit {0}) Status → Type 0
Adds topology division old new packet key result =
    (header : Header) (members : List Record) (member : Record) → Lists topology division old header members
    → packet ≡ packet_of header member → key ≡ frame_key header.link member.captured
    → Listed topology division new header members member result
