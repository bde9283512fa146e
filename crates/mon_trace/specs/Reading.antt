-- What reading a trace gives.
use Rattle.std.specs.Prelude.{◌≡◌, ◌≤◌, ℕ, List, length, Option, IfSome}
use Rattle.pcap_reader.specs.declared.header.Header.{Header}
use Rattle.pcap_reader.specs.Trace.{Record, IsTrace}
use Rattle.routed_trace.specs.Counts.{AreCounts}
use Rattle.routed_trace.specs.Routed.{routed_of}
use Rattle.routed_trace.specs.Scan.{HasTraceFault}
use Rattle.routed_trace.specs.declared.division.Division.{Division}
use Rattle.routed_trace.specs.declared.fault.TraceFault.{TraceFault}
use Rattle.topology.specs.Topology.{Topo}
use Rattle.mon_trace.specs.declared.reading.RoutedTrace.{RoutedTrace}

-- the routed packets and the numbers of a trace of some records, none of which is late or heavy
pub record IsRead (contents : Option (List ℕ)) (topology : Option Topo) (division : Division) (read : RoutedTrace) : Type
    0 where
  pub header : Header
  pub members : List Record
  pub is_trace : IfSome contents (λ bytes. IsTrace bytes header members)
  pub few : length members ≤ 1048576
  pub counts_are : AreCounts division topology read.counts header members
  pub list : read.routed.items ≡ routed_of division topology header members

-- why a trace is refused
abbrev pub IsRefused : Option (List ℕ) → Division → TraceFault → Type 0
IsRefused contents division fault = IfSome contents (λ bytes. HasTraceFault division bytes fault)
