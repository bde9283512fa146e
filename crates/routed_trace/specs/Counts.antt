-- The numbers of the records so far, and what one record more adds.
use Rattle.std.specs.Prelude.{◌≡◌, ◌<◌, ◌≤◌, ◌^◌, ℕ, List, [], ◌∷◌, ◌++◌, length, Option, Result, Ok, Err}
use Rattle.std.specs.Option.{option_to_list}
use Rattle.flow_keys.specs.Frame.{frame_key}
use Rattle.flow_keys.specs.declared.routed.Routed.{Routed}
use Rattle.pcap_reader.specs.declared.header.Header.{Header}
use Rattle.pcap_reader.specs.declared.packet.Packet.{Packet}
use Rattle.pcap_reader.specs.Trace.{Record, packet_of}
use Rattle.topology.specs.Topology.{Topo}
use Rattle.routed_trace.specs.Routed.{IsDivided, epoch_of, first_of, keyed_in, limited_bytes, number_of_epochs, routed_of}
use Rattle.routed_trace.specs.declared.counts.TraceCounts.{TraceCounts}
use Rattle.routed_trace.specs.declared.division.Division.{Division}
use Rattle.routed_trace.specs.declared.fault.TraceFault.{TraceFault}
use Rattle.routed_trace.specs.declared.fault.TraceFault.TheVariants.{Pcap, Epochs, Weight}

-- the numbers are those of these records, none of which is late or heavy
pub record AreCounts (division : Division) (topology : Option Topo) (counts : TraceCounts) (header : Header)
    (members : List Record) : Type 0 where
  pub packets : counts.packets ≡ length members
  pub keyed : counts.keyed ≡ keyed_in header members
  pub routed : counts.routed ≡ length (routed_of division topology header members)
  pub epochs : counts.epochs ≡ number_of_epochs division.seconds header members
  pub first : counts.first ≡ first_of header members
  pub bytes : counts.bytes ≡ limited_bytes division header members
  pub divided : IsDivided division header members

-- the numbers are those of some records, of which there are fewer than 1,048,576
pub record HasCounted (division : Division) (topology : Option Topo) (counts : TraceCounts) : Type 0 where
  pub header : Header
  pub members : List Record
  pub few : length members < 1048576
  pub counts_are : AreCounts division topology counts header members

-- how counting one more record ended: with its routed packet, if it is one, behind the others, or where it is late or heavy
abbrev pub Added : Division → Option Topo → TraceCounts → Header → List Record → Record
    → Result (Option Routed) TraceFault → Type 0
Added division topology new header members member (Ok found) =
    AreCounts division topology new header (members ++ member ∷ [])
    × (routed_of division topology header (members ++ member ∷ []) ≡ routed_of division topology header members
    ++ option_to_list found)
Added division topology new header members member (Err (Pcap fault)) = ⊥
Added division topology new header members member (Err (Epochs number index)) =
    (number ≡ length members) × (index ≡ epoch_of division.seconds header (members ++ member ∷ []) member) × (7 < index)
Added division topology new header members member (Err (Weight number)) =
    (number ≡ length members) × (epoch_of division.seconds header (members ++ member ∷ []) member ≤ 7)
    × (2 ^ 44 < limited_bytes division header (members ++ member ∷ []))

-- the same of any records so far, and one that is this packet, with this key
abbrev pub Adds : Division → Option Topo → TraceCounts → TraceCounts → Packet → Option (List ℕ)
    → Result (Option Routed) TraceFault → Type 0
Adds division topology old new packet key result =
    (header : Header) (members : List Record) (member : Record) → AreCounts division topology old header members
    → packet ≡ packet_of header member → key ≡ frame_key header.link member.captured
    → Added division topology new header members member result
