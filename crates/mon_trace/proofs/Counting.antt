-- How many packets of each epoch are in the front of a list, one packet on.
use Rattle.std.proofs.Common.{◌≡◌, ℕ, ◌+◌, ◌<◌, ◌≤◌, ◌==◌, true, false, Bool, cond, List, length, take, not, set, get_or, replicate, refl, sym, ◌∙◌, ap, arith, inl, inr}
use Rattle.std.specs.List.{filter}
use Rattle.std.proofs.lemmas.Bool.{cases_eq, eq-eqb, ne_eqb}
use Rattle.std.proofs.lemmas.List.{get_or-replicate, get_or-set_other, get_or-set_same, length-map, length-set, length-take-le}
use Rattle.std.proofs.lemmas.List.Filters.{length-filter_both, length-filter_more}
use Rattle.flow_keys.specs.declared.routed.Routed.{Routed}
use Rattle.routed_trace.specs.Routed.{item_of, items_in}

-- as many items as packets of the epoch
length-items_in : (epoch : ℕ) (packets : List Routed)
    → length (items_in epoch packets) ≡ length (filter (λ (packet : Routed). packet.epoch == epoch) packets)
unfolding items_in
length-items_in epoch packets = length-map (filter (λ (packet : Routed). packet.epoch == epoch) packets) item_of

-- no more than all packets
few_items : (epoch : ℕ) (packets : List Routed) → length (items_in epoch packets) ≤ length packets
few_items epoch packets =
    let test = λ (packet : Routed). packet.epoch == epoch in
    omega (
      arith,
      length-items_in epoch packets,
      length-filter_both test (λ packet. not (test packet)) (λ packet. refl) packets,
    )

-- one more in the epoch of the packet, and no more in another
items_more : (packets : List Routed) (i : ℕ) (d : Routed) (epoch : ℕ) (b : Bool) → i < length packets
    → ((get_or packets i d).epoch == epoch) ≡ b
    → length (items_in epoch (take (i + 1) packets)) ≡ length (items_in epoch (take i packets)) + cond {A = ℕ} b 1 0
items_more packets i d epoch b within is =
    omega (
      arith,
      length-items_in epoch (take (i + 1) packets),
      length-items_in epoch (take i packets),
      length-filter_more (λ (packet : Routed). packet.epoch == epoch) packets i d within,
      ap (λ (c : Bool). cond {A = ℕ} c 1 0) is,
    )

-- the numbers of the epochs in the front of a list
pub record AreCounted (packets : List Routed) (i : ℕ) (numbers : List ℕ) : Type 0 where
  pub size : length numbers ≡ 8
  pub each : (epoch : ℕ) → epoch < 8 → get_or numbers epoch 0 ≡ length (items_in epoch (take i packets))

-- none in an empty front
pub counted_none : (packets : List Routed) → AreCounted packets 0 (replicate 8 0)
unfolding items_in
counted_none packets = record { size = refl; each = λ epoch below. get_or-replicate 8 epoch 0 0 below }

-- each number is at most that of the packets
pub counted_few : (packets : List Routed) (i : ℕ) (numbers : List ℕ) (place : ℕ) → AreCounted packets i numbers
    → i ≤ length packets → place < 8 → get_or numbers place 0 ≤ length packets
counted_few packets i numbers place counted within low =
    omega (
      arith,
      counted.each place low,
      few_items place (take i packets),
      length-take-le i packets within,
    )

-- the packet at a place of the list counts in its epoch
pub counted_more : (packets : List Routed) (i : ℕ) (d : Routed) (numbers : List ℕ) (place number : ℕ)
    → i < length packets → place ≡ (get_or packets i d).epoch → place < 8 → AreCounted packets i numbers
    → number ≡ get_or numbers place 0 + 1 → AreCounted packets (i + 1) (set numbers place number)
counted_more packets i d numbers place number within at low counted is = record {
  size = length-set numbers place number ∙ counted.size;
  each = each;
}
  where
    each : (epoch : ℕ) → epoch < 8
        → get_or (set numbers place number) epoch 0 ≡ length (items_in epoch (take (i + 1) packets))
    each epoch below = elim (cases_eq epoch place) [
      | inl same ↦
          let here : get_or (set numbers place number) epoch 0 ≡ number =
          ap (λ (k : ℕ). get_or (set numbers place number) k 0) same
          ∙ get_or-set_same numbers place number 0 (omega (arith, counted.size, low)) in
          omega (
            arith,
            here,
            is,
            ap (λ (k : ℕ). get_or numbers k 0) same,
            counted.each epoch below,
            items_more packets i d epoch true within (eq-eqb _ epoch (sym at ∙ sym same)),
          )
      | inr other ↦
          omega (
            arith,
            get_or-set_other numbers place epoch number 0 other,
            counted.each epoch below,
            items_more packets i d epoch false within (ne_eqb _ epoch (λ equal. other (sym (at ∙ equal)))),
          )
    ]
