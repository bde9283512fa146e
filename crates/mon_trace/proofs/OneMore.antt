-- What has been read of a trace, one record on.
use Rattle.std.proofs.Common.{◌≡◌, List, [], ◌∷◌, ◌++◌, Option, None, Some, Ok, sym, ◌∙◌, ap, append-nil}
use Rattle.std.specs.Option.{option_to_list}
use Rattle.flow_keys.specs.declared.routed.Routed.{Routed}
use Rattle.pcap_reader.specs.declared.header.Header.{Header}
use Rattle.pcap_reader.specs.Trace.{Record}
use Rattle.topology.specs.Topology.{Topo}
use Rattle.routed_trace.specs.Counts.{Added, AreCounts}
use Rattle.routed_trace.specs.Routed.{routed_of}
use Rattle.routed_trace.specs.declared.division.Division.{Division}
use Rattle.mon_trace.specs.Listing.{Lists}
use Rattle.mon_trace.specs.declared.reading.RoutedTrace.{RoutedTrace}

-- nothing yet
pub lists_none : (topology : Option Topo) (division : Division) (header : Header) (read : RoutedTrace)
    → AreCounts division topology read.counts header [] → read.routed.items ≡ []
    → Lists topology division read header []
unfolding routed_of
lists_none topology division header read are empty = record { counts_are = are; list = empty }

-- one record more: its counts, and its packet behind the others
pub lists_more : {topology : Option Topo} {division : Division} {old new : RoutedTrace} {header : Header}
    {members : List Record} (found : Option Routed) (member : Record) → Lists topology division old header members
    → Added division topology new.counts header members member (Ok found)
    → new.routed.items ≡ old.routed.items ++ option_to_list found
    → Lists topology division new header (members ++ member ∷ [])
lists_more found member lists added is = record {
  counts_are = added.0;
  list = is ∙ ap (λ (routed : List Routed). routed ++ option_to_list found) lists.list ∙ sym added.1;
}

-- the list behind a record with no packet, and behind one with a packet
pub behind_none : (routed : List Routed) (found : Option Routed) → found ≡ None
    → routed ≡ routed ++ option_to_list found
behind_none routed found none =
    sym (ap (λ (f : Option Routed). routed ++ option_to_list f) none ∙ append-nil routed)

pub behind_one : (routed : List Routed) (found : Option Routed) (packet : Routed) → found ≡ Some packet
    → routed ++ packet ∷ [] ≡ routed ++ option_to_list found
behind_one routed found packet one = sym (ap (λ (f : Option Routed). routed ++ option_to_list f) one)
