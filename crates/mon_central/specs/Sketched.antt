-- What has been sketched of a trace.
use Rattle.std.specs.Prelude.{◌≡◌, ℕ, ◌+◌, ◌^◌, ◌<◌, ◌≤◌, ◌==◌, false, true, List, [], ◌∷◌, ◌++◌, length, map, slice_index_or, ℤ, Bool, Option, Some, None, IfSome, IsTrue, All, ⊤, Result, Ok, Err}
use Rattle.std.specs.List.{flat_map, list_any, range_with_len}
use Rattle.flow_keys.specs.Frame.{frame_key}
use Rattle.hash_family.specs.Setting as sketch
use Rattle.count_sketch.specs.Counters.{Item, AllUpTo}
use Rattle.sketch_levels.specs.Items.{live_items, weight_of}
use Rattle.sketch_levels.specs.Kept as levels
use Rattle.sketch_levels.specs.Levels.{View, Holds, level_at}
use Rattle.sketch_levels.specs.Noted.{Noted, HoldsNotes, notes_of}
use Rattle.sketch_levels.specs.Stands.{IsTally, StandFor, ones, packets_of, weights_of}
use Rattle.sketch_merge.specs.Merged as merged
use Rattle.sketch_merge.specs.Merged.{HaveUpTo}
use Rattle.pcap_reader.specs.declared.header.Header.{Header}
use Rattle.pcap_reader.specs.Trace.{Record, IsTrace, packet_of}
use Rattle.pcap_reader.specs.declared.packet.Packet.{Packet}
use Rattle.flow_keys.specs.declared.routed.Routed.{Routed}
use Rattle.routed_trace.specs.Counts.{Added, AreCounts}
use Rattle.routed_trace.specs.Routed.{items_in, number_of_epochs, routed_of, weight_of_routed}
use Rattle.topology.specs.Topology.{Topo}
use Rattle.mon_call.specs.declared.status.Status.{Status}
use Rattle.mon_call.specs.declared.status.Status.TheVariants.{Trace, Memory}
use Rattle.mon_call.specs.Setting.{is_setting}
use Rattle.mon_central.specs.Central.{central_view, levels_setting, kept_keys}
use Rattle.mon_central.specs.Live.{AreWeighed}
use Rattle.mon_central.specs.declared.epochs.Epochs.{Epochs}
use Rattle.mon_central.specs.declared.gathering.Gathered.{Gathered}
use Rattle.mon_central.specs.declared.gathering.Gathered.TheVariants.{Tallied, Fed}
use Rattle.mon_call.specs.declared.setting.Setting.{Setting}
use Rattle.mon_central.specs.declared.sketching.Sketched.{Sketched}

-- all live keys are noted exactly where the heap is 0
abbrev pub IsNoted : Setting → List Item → Option Noted → Type 0
IsNoted setting items None = (setting.heap == 0) ≡ false
IsNoted setting items (Some noted) =
    ((setting.heap == 0) ≡ true) × (noted.top ≡ setting.levels) × HoldsNotes noted (notes_of setting.seed items)

-- these items were fed, and counted by their packets
pub record IsFed (setting : Setting) (sketched : Sketched) (fed counted : List Item) : Type 0 where
  pub family : sketched.family ≡ setting.seed
  pub shape : sketched.levels.setting ≡ levels_setting setting
  pub holds : Holds sketched.levels fed
  pub noted : IsNoted setting fed sketched.all
  pub number : length sketched.live.items ≡ setting.levels + 1
  pub live : AreWeighed setting.seed counted sketched.live.items
  pub size : length sketched.weights.items ≡ setting.levels + 1
  pub weights : AreWeighed setting.seed fed sketched.weights.items
  pub number_is : sketched.number ≡ weight_of counted

-- what was sketched are these items: such as stand for them were fed, and the very items where heaps keep keys
pub record Sketches (setting : Setting) (sketched : Sketched) (items : List Item) : Type 0 where
  pub fed : List Item
  pub counted : List Item
  pub feeds : IsFed setting sketched fed counted
  pub weigh : StandFor fed items
  pub count : StandFor counted (ones items)
  pub same : (setting.heap == 0) ≡ false → fed ≡ items

-- so many more packets of this weight together can be fed
pub record HasRoom (sketched : Sketched) (packets weight : ℕ) : Type 0 where
  pub number : sketched.number + packets ≤ 1048576
  pub light : sketched.levels.weight + weight ≤ 2 ^ 44
  pub levels : length sketched.live.items ≤ 17
  pub same : length sketched.weights.items ≡ length sketched.live.items
  pub live : All (λ count. count + packets ≤ 1048576) sketched.live.items
  pub weights : All (λ sum. sum + weight ≤ 2 ^ 44) sketched.weights.items

-- what was gathered are these items: counted key by key where all live keys are kept, and fed where heaps keep some
abbrev pub Gathers : Setting → Gathered → List Item → Type 0
Gathers setting (Tallied tally) items = ((setting.heap == 0) ≡ true) × IsTally tally items
Gathers setting (Fed sketched) items = ((setting.heap == 0) ≡ false) × IsFed setting sketched items (ones items)

-- one more packet of this weight can be gathered
abbrev pub HasPlace : Gathered → ℕ → Type 0
HasPlace (Tallied tally) weight =
    (weight_of (packets_of tally) < 1048576) × (weight_of (weights_of tally) + weight ≤ 2 ^ 44)
HasPlace (Fed sketched) weight = HasRoom sketched 1 weight

-- what was gathered are at most 1,048,576 items, which weigh at most 2^44
pub record IsGathered (setting : Setting) (gathered : Gathered) : Type 0 where
  pub range : IsTrue (is_setting setting)
  pub items : List Item
  pub few : length items ≤ 1048576
  pub light : weight_of items ≤ 2 ^ 44
  pub gathers : Gathers setting gathered items

-- one of so many levels has a mark
abbrev pub any_mark : sketch.Setting → List Item → ℕ → Bool
any_mark setting items number = list_any (λ mark. mark)
    (map (λ level. levels.is_dropped setting (live_items setting.seed level items)) (range_with_len 0 number))

-- what was sketched are at most 1,048,576 items
pub record IsSketch (setting : Setting) (sketched : Sketched) : Type 0 where
  pub range : IsTrue (is_setting setting)
  pub items : List Item
  pub few : length items ≤ 1048576
  pub sketches : Sketches setting sketched items

-- the counters of so many levels, a level behind another
abbrev pub counters_up_to : View → ℕ → List ℤ
counters_up_to view number = flat_map (λ level. (level_at view level).sketch.counters) (range_with_len 0 number)

-- the keys that are kept at each of so many levels
abbrev pub keys_up_to : Setting → List Item → ℕ → List (List (List ℕ))
keys_up_to setting items number = map (λ level. kept_keys setting level (live_items setting.seed level items))
    (range_with_len 0 number)

-- of each epoch its items were gathered, and no other epoch has items
pub record Splits (setting : Setting) (sketches : List Gathered) (routed : List Routed) : Type 0 where
  pub each : (epoch : ℕ) (d : Gathered) → epoch < length sketches
      → Gathers setting (slice_index_or sketches epoch d) (items_in epoch routed)
  pub none : (epoch : ℕ) → length sketches ≤ epoch → items_in epoch routed ≡ []

-- the sketches are those of fewer than 1,048,576 packets, which weigh at most 2^44 together with one of this weight
pub record HasSpace (sketches : List Gathered) (weight : ℕ) : Type 0 where
  pub setting : Setting
  pub range : IsTrue (is_setting setting)
  pub routed : List Routed
  pub few : length routed < 1048576
  pub light : weight_of_routed routed + weight ≤ 2 ^ 44
  pub splits : Splits setting sketches routed

-- the sketches are those of at most 1,048,576 packets, of a weight of at most 2^44, in at most eight epochs
pub record AreSplit (setting : Setting) (sketches : List Gathered) : Type 0 where
  pub range : IsTrue (is_setting setting)
  pub number : length sketches ≤ 8
  pub routed : List Routed
  pub few : length routed ≤ 1048576
  pub light : weight_of_routed routed ≤ 2 ^ 44
  pub splits : Splits setting sketches routed

-- a merged sketch of this setting, of which a difference can be made
pub record IsMerged (setting : Setting) (view : merged.View) : Type 0 where
  pub shape : view.setting ≡ levels_setting setting
  pub light : All (AllUpTo (2 ^ 44)) view.counters
  pub few : HaveUpTo 1048576 view.keys

-- the merged sketch of the epoch before, of these items: behind the first epoch there is one
abbrev pub IsEarlier : Setting → ℕ → List Item → Option merged.View → Type 0
IsEarlier setting epoch earlier None = epoch ≡ 0
IsEarlier setting epoch earlier (Some view) = (0 < epoch) × (view ≡ central_view setting earlier)

-- what was sketched are these records
pub record Divides (setting : Setting) (topology : Option Topo) (epochs : Epochs) (header : Header)
    (members : List Record) : Type 0 where
  pub counts_are : AreCounts setting.division topology epochs.counts header members
  pub number_is : length epochs.sketches.items ≡ number_of_epochs setting.division.seconds header members
  pub splits : Splits setting epochs.sketches.items (routed_of setting.division topology header members)

-- what was sketched are some records, of which there are at most 1,048,576
pub record IsPart (setting : Setting) (topology : Option Topo) (epochs : Epochs) : Type 0 where
  pub header : Header
  pub members : List Record
  pub few : length members ≤ 1048576
  pub divides : Divides setting topology epochs header members

-- what was sketched are fewer records than 1,048,576, and this packet with this key is of one more
pub record IsNext (setting : Setting) (topology : Option Topo) (epochs : Epochs) (packet : Packet)
    (key : Option (List ℕ)) : Type 0 where
  pub header : Header
  pub members : List Record
  pub member : Record
  pub few : length members < 1048576
  pub divides : Divides setting topology epochs header members
  pub packet_is : packet ≡ packet_of header member
  pub key_is : key ≡ frame_key header.link member.captured

-- how counting one more record ended: with it behind the others, or where it is late or heavy
abbrev pub Counted : Setting → Option Topo → Epochs → Header → List Record → Record → Result (Unit {0}) Status → Type 0
Counted setting topology epochs header members member (Ok done) = Divides setting topology epochs header
    (members ++ member ∷ [])
Counted setting topology epochs header members member (Err (Trace fault)) =
    Added setting.division topology epochs.counts header members member (Err fault)
Counted setting topology epochs header members member (Err Memory) = ⊤
Counted setting topology epochs header members member (Err _) = ⊥

-- the same of any records so far, and one that is this packet, with this key
abbrev pub Counts : Setting → Option Topo → Epochs → Epochs → Packet → Option (List ℕ) → Result (Unit {0}) Status
    → Type 0
Counts setting topology old new packet key result =
    (header : Header) (members : List Record) (member : Record) → Divides setting topology old header members
    → packet ≡ packet_of header member → key ≡ frame_key header.link member.captured
    → Counted setting topology new header members member result

-- what was sketched are the records of a trace
pub record IsSketched (contents : Option (List ℕ)) (topology : Option Topo) (setting : Setting) (epochs : Epochs) : Type
    0 where
  pub header : Header
  pub members : List Record
  pub is_trace : IfSome contents (λ bytes. IsTrace bytes header members)
  pub few : length members ≤ 1048576
  pub divides : Divides setting topology epochs header members
