-- Where reading a trace stops, as the status of the call.
use Rattle.std.proofs.Common.{◌≡◌, ◌≤◌, ◌⊎◌, ℕ, List, [], ◌∷◌, ◌++◌, Option, Some, None, Err, refl, ◌∙◌, sym, arith, inl, inr}
use Rattle.mon_io.specs.Faults.{Rose}
use Rattle.mon_io.specs.Inputs.{InputState}
use Rattle.pcap_reader.specs.Reader.{Advanced, Begun, SoFar}
use Rattle.pcap_reader.specs.Trace.{Record}
use Rattle.pcap_reader.specs.declared.fault.PcapStop.{PcapStop}
use Rattle.pcap_reader.specs.declared.fault.PcapStop.TheVariants as stops
use Rattle.pcap_reader.specs.declared.header.Header.{Header}
use Rattle.pcap_reader.specs.declared.reader.PcapReader.{PcapReader}
use Rattle.topology.specs.Topology.{Topo}
use Rattle.routed_trace.specs.Routed.{IsDivided}
use Rattle.routed_trace.specs.declared.division.Division.{Division}
use Rattle.routed_trace.proofs.Readings.{advanced_badly, begun_badly, stopped_at}
use Rattle.mon_call.specs.Trace.{ReadsTrace, status_at}
use Rattle.mon_call.specs.declared.status.Status.{Status}
use Rattle.mon_call.specs.declared.status.Status.TheVariants.{Trace, Memory}
use Rattle.mon_trace.specs.Listing.{Listed}
use Rattle.mon_trace.specs.Reading.{IsRead, IsRefused}
use Rattle.mon_trace.specs.declared.reading.RoutedTrace.{RoutedTrace}

-- how reading a trace ended
abbrev pub Reads : Option (List ℕ) → Option Topo → Division → InputState → InputState → Status → Type 0
Reads contents topology division before now status =
    ReadsTrace (IsRead contents topology division) (IsRefused contents division) contents before now (Err status)

-- at its beginning
pub begun_stop : (contents : Option (List ℕ)) (topology : Option Topo) (division : Division) (before now : InputState)
    (stop : PcapStop)
    → Begun contents before.rest now.rest (Err stop) → (stop ≡ stops.Read → Rose before.faults now.faults)
    → Reads contents topology division before now (status_at stop)
begun_stop contents topology division before now stops.Read begun cause = (cause refl, begun)
begun_stop contents topology division before now (stops.Bad fault) begun cause =
    begun_badly division contents before.rest now.rest fault begun
begun_stop contents topology division before now stops.Memory begun cause = tt

-- a rise behind a count that didn't fall, in a reader that goes on
rose_since : (reader : PcapReader) (before mid now : ℕ) → before ≤ mid → reader.stop ≡ None
    → (reader.stop ≡ Some stops.Read) ⊎ Rose mid now → Rose before now
rose_since reader before mid now later going (inl stopped) = absurd (cc (sym going ∙ stopped))
rose_since reader before mid now later going (inr rose) = omega (arith, later, rose)

-- behind some records
pub advanced_stop : (contents : Option (List ℕ)) (topology : Option Topo) (division : Division)
    (before mid now : InputState) (reader next : PcapReader) (members : List Record) (stop : PcapStop)
    → SoFar contents mid.rest reader members → IsDivided division reader.header members
    → Advanced contents now.rest next members (Err stop)
    → before.faults ≤ mid.faults → (stop ≡ stops.Read → (reader.stop ≡ Some stops.Read) ⊎ Rose mid.faults now.faults)
    → Reads contents topology division before now (status_at stop)
advanced_stop contents topology division before mid now reader next members stops.Read so_far divided advanced later
    cause =
    (rose_since reader before.faults mid.faults now.faults later so_far.going (cause refl), inr advanced)
advanced_stop contents topology division before mid now reader next members (stops.Bad fault) so_far divided advanced
    later cause =
    advanced_badly division contents mid.rest now.rest reader next members fault so_far divided advanced
advanced_stop contents topology division before mid now reader next members stops.Memory so_far divided advanced later
    cause = tt

-- at a record that is late or heavy
pub listed_stop : (contents : Option (List ℕ)) (topology : Option Topo) (division : Division) (read : RoutedTrace)
    (before now : InputState) (next : PcapReader) (header : Header) (members : List Record) (member : Record)
    (status : Status)
    → next.header ≡ header → SoFar contents now.rest next (members ++ member ∷ []) → IsDivided division header members
    → Listed topology division read header members member (Err status)
    → Reads contents topology division before now status
listed_stop contents topology division read before now next header members member (Trace fault) same so_far divided
    listed =
    stopped_at division topology read.counts contents now.rest next header members member fault same so_far divided
    listed
listed_stop contents topology division read before now next header members member Memory same so_far divided listed = tt
listed_stop contents topology division read before now next header members member _ same so_far divided listed = absurd
    listed
