-- The share of a switch, as a part of the packets of its epoch.
use Rattle.std.proofs.Common.{◌≡◌, ℕ, ◌<◌, ◌==◌, ◌&&◌, Bool, true, false, cond, List, [], ◌∷◌, map, refl, ◌∙◌, ap}
use Rattle.std.specs.List.{AllByRecursion, filter}
use Rattle.std.proofs.lemmas.List.Elements.{All-filter, recursion_from_All}
use Rattle.std.proofs.lemmas.Simd.{map-map}
use Rattle.child_worker.specs.Replies.{fed, fed_of}
use Rattle.flow_keys.specs.declared.routed.Routed.{Routed}
use Rattle.routed_trace.specs.Routed.{item_of}
use Rattle.path_shares.specs.Shares.{AreOn, job_item, share, switch_of}

-- the packets of an epoch
abbrev pub packets_in : ℕ → List Routed → List Routed
packets_in epoch routed = filter (λ packet. packet.epoch == epoch) routed

-- those of some packets whose path a placement gives to a switch
abbrev pub given_to : List ℕ → ℕ → List Routed → List Routed
given_to placement switch packets = filter (λ packet. switch_of placement packet == switch) packets

filter-both : {X : Type 0} (p q : X → Bool) (xs : List X) → filter (λ x. p x && q x) xs ≡ filter q (filter p xs)
filter-both p q [] = refl
filter-both {X} p q (x ∷ xs) = step (p x) (filter-both p q xs)
  where
    step : (a : Bool) → filter (λ y. p y && q y) xs ≡ filter q (filter p xs)
        → cond (a && q x) (x ∷ filter (λ y. p y && q y) xs) (filter (λ y. p y && q y) xs)
        ≡ filter q (cond a (x ∷ filter p xs) (filter p xs))
    step true rest = λ i. cond (q x) (x ∷ rest i) (rest i)
    step false rest = rest

pub share-part : (placement : List ℕ) (epoch switch : ℕ) (routed : List Routed)
    → share placement epoch switch routed ≡ map job_item (given_to placement switch (packets_in epoch routed))
unfolding share
share-part placement epoch switch routed =
    ap (map job_item)
    (filter-both (λ packet. packet.epoch == epoch) (λ packet. switch_of placement packet == switch) routed)

-- the same as sketches are fed with it
pub fed-share : (placement : List ℕ) (epoch switch : ℕ) (routed : List Routed)
    → fed (share placement epoch switch routed) ≡ map item_of (given_to placement switch (packets_in epoch routed))
unfolding fed
fed-share placement epoch switch routed =
    ap (map fed_of) (share-part placement epoch switch routed)
    ∙ map-map fed_of job_item (given_to placement switch (packets_in epoch routed))

-- each packet of an epoch is given to one of the switches
pub each_given : (switches : ℕ) (placement : List ℕ) (epoch : ℕ) (routed : List Routed)
    → AreOn switches placement routed
    → AllByRecursion (λ packet. switch_of placement packet < switches) (packets_in epoch routed)
each_given switches placement epoch routed on =
    recursion_from_All (λ packet. switch_of placement packet < switches) (packets_in epoch routed)
    (All-filter (λ (packet : Routed). packet.epoch == epoch) (λ packet. switch_of placement packet < switches) routed
    on)
