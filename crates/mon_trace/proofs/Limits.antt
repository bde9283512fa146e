-- How many epochs and packets a trace that was read has, and what its packets weigh.
use Rattle.std.proofs.Common.{ℕ, ◌+◌, ◌^◌, ◌<◌, ◌≤◌, max, List, [], ◌∷◌, length, map, fold, Option, sym, ap, subst, arith}
use Rattle.std.specs.List.{All, AllByRecursion}
use Rattle.std.proofs.lemmas.List.Elements.{All-same, All-weaker}
use Rattle.flow_keys.specs.declared.routed.Routed.{Routed}
use Rattle.pcap_reader.specs.declared.header.Header.{Header}
use Rattle.pcap_reader.specs.Trace.{Record}
use Rattle.topology.specs.Topology.{Topo}
use Rattle.routed_trace.specs.Routed.{epoch_of, number_of_epochs, routed_of, weight_of_routed}
use Rattle.routed_trace.specs.declared.division.Division.{Division}
use Rattle.routed_trace.proofs.Records.{length-routed_of-le}
use Rattle.routed_trace.proofs.Weights.{routed_light}
use Rattle.mon_trace.specs.Reading.{IsRead}
use Rattle.mon_trace.specs.declared.reading.RoutedTrace.{RoutedTrace}
use Rattle.mon_trace.proofs.Found.{each_routed}

-- the greatest is at least what it begins with
above_first : (e : Record → ℕ) (n : ℕ) (ys : List Record) → n ≤ fold max n (map e ys)
above_first e n [] = omega arith
above_first e n (y ∷ ys) = omega (arith, above_first e (max n (e y)) ys)

-- and at least each member
below_greatest : (e : Record → ℕ) (n : ℕ) (ys : List Record)
    → AllByRecursion (λ (y : Record). e y ≤ fold max n (map e ys)) ys
below_greatest e n [] = tt
below_greatest e n (y ∷ ys) =
    (omega (arith, above_first e (max n (e y)) ys), below_greatest e (max n (e y)) ys)

-- each routed packet is in one of the epochs of its trace
pub epochs_of_routed : (division : Division) (topology : Option Topo) (header : Header) (members : List Record)
    → All (λ (packet : Routed). packet.epoch < number_of_epochs division.seconds header members)
    (routed_of division topology header members)
unfolding number_of_epochs
epochs_of_routed division topology header members =
    let epoch = epoch_of division.seconds header members in
    let most = fold max 0 (map epoch members) in
    each_routed (λ (packet : Routed). packet.epoch < most + 1) (λ (member : Record). epoch member ≤ most) division
    topology header members (below_greatest epoch 0 members) (λ member low path weight key taken. omega (arith, low))

-- of what was read: there is an epoch, and there are at most eight
pub some_epochs : {contents : Option (List ℕ)} {topology : Option Topo} {division : Division} {read : RoutedTrace}
    → IsRead contents topology division read → 1 ≤ read.counts.epochs
unfolding number_of_epochs
some_epochs is = omega (arith, is.counts_are.epochs)

pub few_epochs : {contents : Option (List ℕ)} {topology : Option Topo} {division : Division} {read : RoutedTrace}
    → IsRead contents topology division read → read.counts.epochs ≤ 8
few_epochs is = omega (arith, is.counts_are.epochs, is.counts_are.divided.few)

-- each packet is in one of them
pub in_epochs : {contents : Option (List ℕ)} {topology : Option Topo} {division : Division} {read : RoutedTrace}
    → IsRead contents topology division read
    → All (λ (packet : Routed). packet.epoch < read.counts.epochs) read.routed.items
in_epochs {topology = topology} {division} {read} is =
    subst (λ (n : ℕ). All (λ (packet : Routed). packet.epoch < n) read.routed.items) (sym is.counts_are.epochs)
    (All-same (λ (packet : Routed). packet.epoch < number_of_epochs division.seconds is.header is.members)
    read.routed.items (routed_of division topology is.header is.members) is.list
    (epochs_of_routed division topology is.header is.members))

pub in_eight_epochs : {contents : Option (List ℕ)} {topology : Option Topo} {division : Division} {read : RoutedTrace}
    → IsRead contents topology division read → All (λ (packet : Routed). packet.epoch < 8) read.routed.items
in_eight_epochs {read = read} is =
    All-weaker (λ (packet : Routed). packet.epoch < read.counts.epochs) (λ (packet : Routed). packet.epoch < 8)
    (λ packet low. omega (arith, low, few_epochs is)) read.routed.items (in_epochs is)

-- there are few packets
pub few_routed : {contents : Option (List ℕ)} {topology : Option Topo} {division : Division} {read : RoutedTrace}
    → IsRead contents topology division read → length read.routed.items ≤ 1048576
few_routed {topology = topology} {division} is =
    omega (
      arith,
      ap (λ (routed : List Routed). length routed) is.list,
      length-routed_of-le division topology is.header is.members,
      is.few,
    )

-- and they are light together
pub light_routed : {contents : Option (List ℕ)} {topology : Option Topo} {division : Division} {read : RoutedTrace}
    → IsRead contents topology division read → weight_of_routed read.routed.items ≤ 2 ^ 44
light_routed {topology = topology} {division} is =
    omega (
      arith,
      ap weight_of_routed is.list,
      routed_light division topology is.header is.members is.few is.counts_are.divided,
    )
