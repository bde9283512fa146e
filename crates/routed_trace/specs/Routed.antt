-- The epochs of a trace, what its packets weigh, and its routed packets.
use Rattle.std.specs.Prelude.{◌≤◌, ◌^◌, ℕ, ◌+◌, ◌-◌, ◌/◌, ◌==◌, max, Bool, List, [], ◌∷◌, filter, filter_map, map, fold, sum_by, count_by, Option, Some, None, is_some, unwrap_or, if◌then◌else◌}
use Rattle.std.specs.Option.{option_map}
use Rattle.flow_keys.specs.Frame.{frame_key}
use Rattle.flow_keys.specs.declared.routed.Routed.{Routed}
use Rattle.count_sketch.specs.Counters.{Item}
use Rattle.pcap_reader.specs.declared.header.Header.{Header}
use Rattle.pcap_reader.specs.declared.packet.Packet.{Packet}
use Rattle.pcap_reader.specs.Trace.{Record, packet_of}
use Rattle.topology.specs.Topology.{Topo, route_of}
use Rattle.routed_trace.specs.declared.division.Division.{Division}

abbrev pub seconds_of : Header → Record → ℕ
seconds_of header member = (packet_of header member).seconds

-- the seconds of the first record
abbrev pub first_of : Header → List Record → Option ℕ
first_of header [] = None
first_of header (member ∷ members) = Some (seconds_of header member)

-- the epoch at so many seconds, where the first record has these: 0 for a record before it
abbrev pub epoch_at : Option ℕ → ℕ → ℕ → ℕ
epoch_at None first seconds = 0
epoch_at (Some length) first seconds = (seconds - first) / length

-- the epoch of a record of a trace, of so many seconds an epoch
abbrev pub epoch_of : Option ℕ → Header → List Record → Record → ℕ
epoch_of length header members member = epoch_at length (unwrap_or (first_of header members) 0)
    (seconds_of header member)

-- how many epochs a trace has: one more than the greatest epoch of a record, and one where there is none
unfoldable pub number_of_epochs : Option ℕ → Header → List Record → ℕ
number_of_epochs length header members = fold max 0 (map (epoch_of length header members) members) + 1

-- what a packet counts: its original length in bytes, or 1
abbrev pub weight_with : Bool → Packet → ℕ
weight_with bytes packet = if bytes then packet.original else 1

-- the original lengths of records together, in bytes
abbrev pub bytes_of : Header → List Record → ℕ
bytes_of header members = sum_by (λ member. (packet_of header member).original) members

-- those that count towards the limit: none where packets are counted
abbrev pub limited_bytes : Division → Header → List Record → ℕ
limited_bytes division header members = if division.bytes then bytes_of header members else 0

-- the records are in at most eight epochs, and their bytes are at most 2^44 where they are counted
pub record IsDivided (division : Division) (header : Header) (members : List Record) : Type 0 where
  pub few : number_of_epochs division.seconds header members ≤ 8
  pub light : limited_bytes division header members ≤ 2 ^ 44

-- how many records have a key
abbrev pub keyed_in : Header → List Record → ℕ
keyed_in header members = count_by (λ member. is_some (frame_key header.link member.captured)) members

-- the number of the path that takes a key; where there is no topology path 0 takes each
abbrev pub path_of : Option Topo → List ℕ → Option ℕ
path_of None key = Some 0
path_of (Some topology) key = route_of topology key

-- the packet of a key, where a path takes it
abbrev pub routed_with : Option Topo → ℕ → ℕ → List ℕ → Option Routed
routed_with topology epoch weight key =
    option_map (λ path. record { epoch = epoch; path = path; key = key; weight = weight }) (path_of topology key)

-- the packet of a record, if it has a key, and that a path
abbrev pub routed_one : Option Topo → ℕ → ℕ → Option (List ℕ) → Option Routed
routed_one topology epoch weight None = None
routed_one topology epoch weight (Some key) = routed_with topology epoch weight key

-- the routed packet of a record among the records of a trace
abbrev pub routed_at : Division → Option Topo → Header → List Record → Record → Option Routed
routed_at division topology header members member =
    routed_one topology (epoch_of division.seconds header members member)
    (weight_with division.bytes (packet_of header member)) (frame_key header.link member.captured)

-- the routed packets of a trace, in its order
unfoldable pub routed_of : Division → Option Topo → Header → List Record → List Routed
routed_of division topology header members = filter_map (routed_at division topology header members) members

-- what routed packets weigh together
abbrev pub weight_of_routed : List Routed → ℕ
weight_of_routed routed = sum_by (λ packet. packet.weight) routed

-- a routed packet as it is sketched
abbrev pub item_of : Routed → Item
item_of packet = record { key = packet.key; weight = packet.weight }

-- the items of an epoch
unfoldable pub items_in : ℕ → List Routed → List Item
items_in epoch routed = map item_of (filter (λ packet. packet.epoch == epoch) routed)
