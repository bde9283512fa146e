-- What routed packets weigh together.
use Rattle.std.proofs.Common.{◌≡◌, ℕ, ◌+◌, ◌≤◌, ◌==◌, ◌^◌, not, Bool, true, false, List, [], ◌∷◌, length, map, filter, filter_map, sum_by, Option, Some, None, refl, arith}
use Rattle.std.specs.List.{cons_option}
use Rattle.std.specs.Option.{option_map}
use Rattle.std.specs.Prelude.{if◌then◌else◌}
use Rattle.std.proofs.lemmas.List.Filters.{sum_by-filter_both}
use Rattle.std.proofs.lemmas.List.Sums.{sum_by-cons, sum_by-le}
use Rattle.std.proofs.lemmas.List.Elements.{All-from_get_or}
use Rattle.flow_keys.specs.Frame.{frame_key}
use Rattle.flow_keys.specs.declared.routed.Routed.{Routed}
use Rattle.count_sketch.specs.Counters.{Item}
use Rattle.pcap_reader.specs.declared.header.Header.{Header}
use Rattle.pcap_reader.specs.Trace.{Record, packet_of}
use Rattle.topology.specs.Topology.{Topo}
use Rattle.routed_trace.specs.Routed.{IsDivided, bytes_of, epoch_of, item_of, items_in, path_of, routed_at, routed_of, routed_one, weight_with, weight_of_routed}
use Rattle.routed_trace.specs.declared.division.Division.{Division}

-- the sum over the members that pass a test is no more than that over all
pub sum_by-filter-le : {X : Type 0} (f : X → ℕ) (p : X → Bool) (xs : List X) → sum_by f (filter p xs) ≤ sum_by f xs
sum_by-filter-le f p xs = omega (arith, sum_by-filter_both p (λ x. not (p x)) (λ x. refl) f xs)

sum_by-map : {X Y : Type 0} (f : Y → ℕ) (g : X → Y) (xs : List X) → sum_by f (map g xs) ≡ sum_by (λ x. f (g x)) xs
sum_by-map f g [] = refl
sum_by-map f g (x ∷ xs) = omega (
  arith,
  sum_by-cons f (g x) (map g xs),
  sum_by-cons (λ y. f (g y)) x xs,
  sum_by-map f g
      xs,
)

-- the items of an epoch weigh no more than all routed packets
pub items_in_light : (epoch : ℕ) (routed : List Routed)
    → sum_by (λ (item : Item). item.weight) (items_in epoch routed) ≤ weight_of_routed routed
unfolding items_in
items_in_light epoch routed =
    let test = λ (packet : Routed). packet.epoch == epoch in
    let weight = λ (packet : Routed). packet.weight in
    omega (
      arith,
      sum_by-map (λ (item : Item). item.weight) item_of (filter test routed),
      sum_by-filter-le weight test
          routed,
    )

-- the weight of a packet, where there is one
abbrev weight_found : Option Routed → ℕ
weight_found None = 0
weight_found (Some packet) = packet.weight

found_light : (f : Record → Option Routed) (g : Record → ℕ) → ((m : Record) → weight_found (f m) ≤ g m)
    → (ms : List Record)
    → weight_of_routed (filter_map f ms) ≤ sum_by g ms
found_light f g light [] = omega arith
found_light f g light (m ∷ ms) =
    omega (arith, by_found (f m), light m, found_light f g light ms, sum_by-cons g m ms)
  where
    by_found : (found : Option Routed) → weight_of_routed (cons_option found
        (filter_map f ms)) ≤ weight_found found + weight_of_routed (filter_map f ms)
    by_found None = omega arith
    by_found (Some packet) = omega (arith, sum_by-cons (λ (p : Routed). p.weight) packet (filter_map f ms))

-- what is found of a record weighs no more than the record
one_light : (topology : Option Topo) (epoch weight : ℕ) (key : Option (List ℕ))
    → weight_found (routed_one topology epoch weight key) ≤ weight
one_light topology epoch weight None = omega arith
one_light topology epoch weight (Some key) = by_path (path_of topology key)
  where
    by_path : (path : Option ℕ) → weight_found (option_map
        (λ n. record { epoch = epoch; path = n; key = key; weight = weight }) path) ≤ weight
    by_path None = omega arith
    by_path (Some n) = omega arith

weighed : (b : Bool) (header : Header) (members : List Record) → (if b then bytes_of header members else 0) ≤ 2 ^ 44
    → length members ≤ 1048576
    → sum_by (λ (m : Record). weight_with b (packet_of header m)) members ≤ 2 ^ 44
weighed true header members light few = light
weighed false header members light few =
    omega (
      arith,
      few,
      sum_by-le (λ (m : Record). 1) 1 members
          (All-from_get_or (λ (m : Record). 1 ≤ 1) members (record { head = []; captured = [] })
          (λ i within. omega arith)),
    )

-- the routed packets of divided records weigh at most 2^44 together
pub routed_light : (division : Division) (topology : Option Topo) (header : Header) (members : List Record)
    → length members ≤ 1048576 → IsDivided division header members
    → weight_of_routed (routed_of division topology header members) ≤ 2 ^ 44
unfolding routed_of
routed_light division topology header members few divided =
    let weight = λ (m : Record). weight_with division.bytes (packet_of header m) in
    omega (
      arith,
      weighed division.bytes header members divided.light few,
      found_light (routed_at division topology header members) weight
          (λ m. one_light topology (epoch_of division.seconds header members m) (weight m)
          (frame_key header.link m.captured)) members,
    )
