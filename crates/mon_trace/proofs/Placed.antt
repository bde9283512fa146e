-- The switch that a placement gives to each routed packet.
use Rattle.std.proofs.Common.{◌≡◌, ℕ, ◌<◌, true, List, [], ◌∷◌, length, Option, Some, arith}
use Rattle.std.specs.Prelude.{◌==◌, slice_index}
use Rattle.std.specs.List.{All, AllByRecursion}
use Rattle.std.proofs.lemmas.Bool.{and_parts, eqb-true}
use Rattle.std.proofs.lemmas.List.Elements.{All-same}
use Rattle.std.proofs.lemmas.List.Quantifiers.{position-Some}
use Rattle.flow_keys.specs.declared.routed.Routed.{Routed}
use Rattle.bound_certificate.specs.Limits.{IsWithin}
use Rattle.bound_certificate.specs.Placement.{fits, is_chosen, is_placement, is_within_capacity}
use Rattle.bound_certificate.specs.Problem.{Problem, need_count, site_count}
use Rattle.bound_certificate.specs.Sums.{all_below}
use Rattle.bound_certificate.proofs.Fitting.{fitting}
use Rattle.pcap_reader.specs.declared.header.Header.{Header}
use Rattle.pcap_reader.specs.Trace.{Record}
use Rattle.topology.specs.Paths.{no_prefix}
use Rattle.topology.specs.Takes.{takes}
use Rattle.topology.specs.Topology.{HasEqualCounts, Topo, route_of}
use Rattle.routed_trace.specs.Routed.{routed_of}
use Rattle.routed_trace.specs.declared.division.Division.{Division}
use Rattle.mon_trace.specs.Reading.{IsRead}
use Rattle.mon_trace.specs.declared.reading.RoutedTrace.{RoutedTrace}
use Rattle.mon_trace.proofs.Found.{each_routed}

-- a route is one of the paths
route_below : (topo : Topo) (key : List ℕ) (path : ℕ) → HasEqualCounts topo → route_of topo key ≡ Some path
    → path < need_count topo.problem
unfolding route_of
route_below topo key path equal found =
    let below = position-Some (takes key) topo.ends path (record { from = no_prefix; to = no_prefix }) found in
    omega (arith, below.0, equal.ends, equal.needs)

-- a placement that fits has a site for each need
placed_needs : (problem : Problem) (placement : List ℕ) → fits problem placement ≡ true
    → length placement ≡ need_count problem
unfolding fits is_placement
placed_needs problem placement fit =
    let parts = and_parts (is_placement problem placement)
    (all_below (is_within_capacity problem placement) (site_count problem)) fit in
    let placed = and_parts (length placement == need_count problem)
    (all_below (is_chosen problem placement) (length placement)) parts.0 in
    eqb-true (length placement) (need_count problem) placed.0

-- what always holds of each record
every : (members : List Record) → AllByRecursion (λ (member : Record). Unit {0}) members
every [] = tt
every (member ∷ members) = (tt, every members)

-- the path of each routed packet is one of the placement's
pub on_paths : (division : Division) (topo : Topo) (header : Header) (members : List Record) (placement : List ℕ)
    → HasEqualCounts topo → fits topo.problem placement ≡ true
    → All (λ (packet : Routed). packet.path < length placement) (routed_of division (Some topo) header members)
on_paths division topo header members placement equal fit =
    each_routed (λ (packet : Routed). packet.path < length placement) (λ (member : Record). Unit {0}) division
    (Some topo) header members (every members) (λ member is path weight key taken.
    omega (arith, route_below topo key path equal taken, placed_needs topo.problem placement fit))

-- and its switch is one of the topology's
pub on_sites : (division : Division) (topo : Topo) (header : Header) (members : List Record) (placement : List ℕ)
    → HasEqualCounts topo → IsWithin topo.problem.sites topo.problem.needs → fits topo.problem placement ≡ true
    → All (λ (packet : Routed). slice_index placement packet.path < site_count topo.problem)
    (routed_of division (Some topo) header members)
on_sites division topo header members placement equal within fit =
    each_routed (λ (packet : Routed). slice_index placement packet.path < site_count topo.problem)
    (λ (member : Record). Unit {0}) division (Some topo) header members (every members)
    (λ member is path weight key taken.
    (fitting topo.problem placement within fit).known path (route_below topo key path equal taken))

-- the same of the packets of a trace that was read
pub read_on_paths : {contents : Option (List ℕ)} {topo : Topo} {division : Division} {read : RoutedTrace}
    (placement : List ℕ) → IsRead contents (Some topo) division read → HasEqualCounts topo
    → fits topo.problem placement ≡ true
    → All (λ (packet : Routed). packet.path < length placement) read.routed.items
read_on_paths {topo = topo} {division} {read} placement is equal fit =
    All-same (λ (packet : Routed). packet.path < length placement) read.routed.items
    (routed_of division (Some topo) is.header is.members) is.list
    (on_paths division topo is.header is.members placement equal fit)

pub read_on_sites : {contents : Option (List ℕ)} {topo : Topo} {division : Division} {read : RoutedTrace}
    (placement : List ℕ) → IsRead contents (Some topo) division read → HasEqualCounts topo
    → IsWithin topo.problem.sites topo.problem.needs → fits topo.problem placement ≡ true
    → All (λ (packet : Routed). slice_index placement packet.path < site_count topo.problem) read.routed.items
read_on_sites {topo = topo} {division} {read} placement is equal within fit =
    All-same (λ (packet : Routed). slice_index placement packet.path < site_count topo.problem) read.routed.items
    (routed_of division (Some topo) is.header is.members) is.list
    (on_sites division topo is.header is.members placement equal within fit)
