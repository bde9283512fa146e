-- What holds of each routed packet of a trace.
use Rattle.std.proofs.Common.{◌≡◌, ℕ, List, [], ◌∷◌, Option, None, Some, refl}
use Rattle.std.specs.Prelude.{IfSome}
use Rattle.std.specs.List.{All, AllByRecursion, cons_option, filter_map}
use Rattle.std.specs.Option.{option_map}
use Rattle.std.proofs.lemmas.List.Elements.{All-from_recursion}
use Rattle.flow_keys.specs.Frame.{frame_key}
use Rattle.flow_keys.specs.declared.routed.Routed.{Routed}
use Rattle.pcap_reader.specs.declared.header.Header.{Header}
use Rattle.pcap_reader.specs.Trace.{Record, packet_of}
use Rattle.topology.specs.Topology.{Topo}
use Rattle.routed_trace.specs.Routed.{epoch_of, path_of, routed_at, routed_of, routed_one, weight_with}
use Rattle.routed_trace.specs.declared.division.Division.{Division}

-- what holds of each value that is found of a member
all_found : {X Y : Type 0} (P : Y → Type 0) (Q : X → Type 0) (h : X → Option Y) (xs : List X) → AllByRecursion Q xs
    → ((x : X) → Q x → IfSome (h x) P) → AllByRecursion P (filter_map h xs)
all_found P Q h [] all each = tt
all_found {X} {Y} P Q h (x ∷ xs) all each = with_rest (h x) (each x all.0) (all_found P Q h xs all.1 each)
  where
    with_rest : (found : Option Y) → IfSome found P → AllByRecursion P (filter_map h xs)
        → AllByRecursion P (cons_option found (filter_map h xs))
    with_rest None one rest = rest
    with_rest (Some y) one rest = (one, rest)

-- what holds of the packet of a key, on whichever path takes it
found_with : (P : Routed → Type 0) (topology : Option Topo) (epoch weight : ℕ) (key : Option (List ℕ))
    → ((path : ℕ) (taken : List ℕ) → path_of topology taken ≡ Some path
    → P (record { epoch = epoch; path = path; key = taken; weight = weight }))
    → IfSome (routed_one topology epoch weight key) P
found_with P topology epoch weight None each = tt
found_with P topology epoch weight (Some key) each = by_path (path_of topology key) refl
  where
    by_path : (path : Option ℕ) → path_of topology key ≡ path
        → IfSome (option_map (λ n. record { epoch = epoch; path = n; key = key; weight = weight }) path) P
    by_path None is = tt
    by_path (Some path) is = each path key is

-- what holds of each packet, where its record has a property
pub each_routed : (P : Routed → Type 0) (Q : Record → Type 0) (division : Division) (topology : Option Topo)
    (header : Header) (members : List Record) → AllByRecursion Q members
    → ((member : Record) → Q member → (path weight : ℕ) (key : List ℕ) → path_of topology key ≡ Some path
    → P (record { epoch = epoch_of division.seconds header members member; path = path; key = key; weight = weight }))
    → All P (routed_of division topology header members)
unfolding routed_of
each_routed P Q division topology header members all each =
    All-from_recursion P (filter_map (routed_at division topology header members) members)
    (all_found P Q (routed_at division topology header members) members all
    (λ member is. found_with P topology (epoch_of division.seconds header members member)
    (weight_with division.bytes (packet_of header member)) (frame_key header.link member.captured)
    (λ path key taken. each member is path (weight_with division.bytes (packet_of header member)) key taken)))
