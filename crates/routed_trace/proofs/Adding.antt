-- What counting a record changed.
use Rattle.std.proofs.Common.{◌≡◌, ℕ, ◌+◌, ◌≤◌, ◌^◌, max, List, [], ◌∷◌, ◌++◌, length, cond, is_some, Option, Some, None, Ok, unwrap_or, sym, ◌∙◌, ap, arith, length-append}
use Rattle.std.specs.Option.{option_map, option_to_list}
use Rattle.std.specs.Prelude.{if◌then◌else◌}
use Rattle.flow_keys.specs.Frame.{frame_key}
use Rattle.flow_keys.specs.declared.routed.Routed.{Routed}
use Rattle.pcap_reader.specs.declared.header.Header.{Header}
use Rattle.pcap_reader.specs.declared.packet.Packet.{Packet}
use Rattle.pcap_reader.specs.Trace.{Record, packet_of}
use Rattle.topology.specs.Topology.{Topo}
use Rattle.routed_trace.specs.Counts.{Added, AreCounts}
use Rattle.routed_trace.specs.Routed.{epoch_at, epoch_of, limited_bytes, path_of, routed_at, routed_of, routed_one, weight_with}
use Rattle.routed_trace.specs.declared.counts.TraceCounts.{TraceCounts}
use Rattle.routed_trace.specs.declared.division.Division.{Division}
use Rattle.routed_trace.proofs.Records.{bytes_more, epoch_behind, first_of-push, keyed_push, number_of_epochs-push, routed_of-push}

-- the epoch of a packet that comes next
abbrev pub next_epoch : Division → TraceCounts → Packet → ℕ
next_epoch division old packet = epoch_at division.seconds (unwrap_or old.first packet.seconds) packet.seconds

-- the bytes that are counted with it
abbrev pub next_bytes : Division → TraceCounts → Packet → ℕ
next_bytes division old packet = if division.bytes then old.bytes + packet.original else 0

-- a packet that is neither late nor heavy was counted
pub record HasPassed (division : Division) (old new : TraceCounts) (packet : Packet) : Type 0 where
  pub first : new.first ≡ Some (unwrap_or old.first packet.seconds)
  pub packets : new.packets ≡ old.packets + 1
  pub bytes : new.bytes ≡ next_bytes division old packet
  pub light : new.bytes ≤ 2 ^ 44
  pub epochs : new.epochs ≡ max old.epochs (next_epoch division old packet + 1)
  pub early : next_epoch division old packet ≤ 7

pub passed : {division : Division} {old new : TraceCounts} {packet : Packet} (first epoch : ℕ)
    → first ≡ unwrap_or old.first packet.seconds
    → epoch ≡ epoch_at division.seconds first packet.seconds → epoch ≤ 7 → new.bytes ≡ next_bytes division old packet
    → new.bytes ≤ 2 ^ 44
    → new.first ≡ Some first → new.packets ≡ old.packets + 1 → new.epochs ≡ max old.epochs (epoch + 1)
    → HasPassed division old new packet
passed {division} {old} {new} {packet} first epoch first_is is early bytes light f p e =
    let full : epoch ≡ next_epoch division old packet = is
    ∙ ap (λ (s : ℕ). epoch_at division.seconds s packet.seconds) first_is in record {
      first = f ∙ ap Some first_is;
      packets = p;
      bytes = bytes;
      light = light;
      epochs = e ∙ ap (λ (n : ℕ). max old.epochs (n + 1)) full;
      early = omega (arith, early, full);
    }

-- with this key, and this routed packet
pub record HasAdded (division : Division) (topology : Option Topo) (old new : TraceCounts) (packet : Packet)
    (key : Option (List ℕ)) (found : Option Routed) : Type 0 where
  pub has_passed : HasPassed division old new packet
  pub keyed : new.keyed ≡ old.keyed + cond {A = ℕ} (is_some key) 1 0
  pub routed : new.routed ≡ old.routed + length (option_to_list found)
  pub found_is : found ≡ routed_one topology (next_epoch division old packet) (weight_with division.bytes packet) key

-- the epoch and the bytes of a record that comes next
pub epoch_is : {division : Division} {topology : Option Topo} {old : TraceCounts} {header : Header}
    {members : List Record} {packet : Packet} (member : Record)
    → AreCounts division topology old header members → packet ≡ packet_of header member
    → next_epoch division old packet ≡ epoch_of division.seconds header (members ++ member ∷ []) member
epoch_is {division} {old = old} {header} {members} {packet} member are is =
    epoch_behind division.seconds header members member old.first packet.seconds are.first
    (ap (λ (p : Packet). p.seconds) is)

pub bytes_is : {division : Division} {topology : Option Topo} {old : TraceCounts} {header : Header}
    {members : List Record} {packet : Packet} (member : Record)
    → AreCounts division topology old header members → packet ≡ packet_of header member
    → next_bytes division old packet ≡ limited_bytes division header (members ++ member ∷ [])
bytes_is {division} {old = old} {header} {members} {packet} member are is =
    ap (λ (p : Packet). next_bytes division old p) is
    ∙ bytes_more division.bytes header members member old.bytes are.bytes

pub added : {division : Division} {topology : Option Topo} {old new : TraceCounts} {packet : Packet}
    {key : Option (List ℕ)} {found : Option Routed}
    → HasAdded division topology old new packet key found → (header : Header) (members : List Record) (member : Record)
    → AreCounts division topology old header members → packet ≡ packet_of header member
    → key ≡ frame_key header.link member.captured
    → Added division topology new header members member (Ok found)
added {division} {topology} {old} {new} {packet} {key} {found} adds header members member are is key_is =
    let all = members ++ member ∷ [] in
    let epoch = epoch_is member are is in
    let bytes = adds.has_passed.bytes ∙ bytes_is member are is in
    let number = number_of_epochs-push division.seconds header members member in
    let found_at : found ≡ routed_at division topology header all member =
    adds.found_is ∙ (λ i. routed_one topology (epoch i) (weight_with division.bytes (is i)) (key_is i)) in
    let routed = routed_of-push division topology header members member
    ∙ ap (λ (f : Option Routed). routed_of division topology header members ++ option_to_list f) (sym found_at) in (
      record {
        packets = omega (arith, adds.has_passed.packets, are.packets, length-append members (member ∷ []));
        keyed = omega (
          arith,
          adds.keyed,
          are.keyed,
          keyed_push header members member (is_some key)
              (ap (λ (k : Option (List ℕ)). is_some k) (sym key_is)),
        );
        routed = omega (
          arith,
          adds.routed,
          are.routed,
          length-append (routed_of division topology header members)
              (option_to_list found),
          ap (λ (l : List Routed). length l) routed,
        );
        epochs = omega (arith, adds.has_passed.epochs, are.epochs, number, epoch);
        first = adds.has_passed.first ∙ (λ i. Some (unwrap_or (are.first i) (is i).seconds))
            ∙ sym (first_of-push header members member);
        bytes = bytes;
        divided = record {
          few = omega (arith, number, are.divided.few, adds.has_passed.early, epoch);
          light = omega (arith, adds.has_passed.light, bytes);
        };
      },
      routed,
    )

-- no routed packet without a key
pub no_key : (topology : Option Topo) (epoch weight : ℕ) (found : Option (List ℕ)) → found ≡ None
    → None ≡ routed_one topology epoch weight found
no_key topology epoch weight found none = sym (ap (λ (k : Option (List ℕ)). routed_one topology epoch weight k) none)

-- the routed packet of a key, by its path
pub no_path : (topology : Option Topo) (epoch weight : ℕ) (found : Option (List ℕ)) (key : List ℕ) → found ≡ Some key
    → path_of topology key ≡ None
    → None ≡ routed_one topology epoch weight found
no_path topology epoch weight found key is path = sym (
    ap (λ (k : Option (List ℕ)). routed_one topology epoch weight k) is
    ∙ ap (λ (p : Option ℕ). option_map (λ n. record { epoch = epoch; path = n; key = key; weight = weight }) p) path
    )

pub on_path : (topology : Option Topo) (epoch weight : ℕ) (found : Option (List ℕ)) (key : List ℕ) (path e w : ℕ)
    → found ≡ Some key
    → path_of topology key ≡ Some path → e ≡ epoch → w ≡ weight
    → ◌≡◌ {A = Option Routed} (Some (record { epoch = e; path = path; key = key; weight = w }))
    (routed_one topology epoch weight found)
on_path topology epoch weight found key path e w is taken epoch_is weight_is =
    (λ i. Some (record { epoch = epoch_is i; path = path; key = key; weight = weight_is i }))
    ∙ sym (
    ap (λ (k : Option (List ℕ)). routed_one topology epoch weight k) is
    ∙ ap (λ (p : Option ℕ). option_map (λ n. record { epoch = epoch; path = n; key = key; weight = weight }) p) taken
    )
