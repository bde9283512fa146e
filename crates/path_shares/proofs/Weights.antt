-- The weights of the shares.
use Rattle.std.proofs.Common.{◌≡◌, ℕ, List, map, sym, ◌∙◌, ap}
use Rattle.std.specs.List.{range_with_len, sum, sum_by}
use Rattle.std.proofs.lemmas.List.Sums.{sum-map}
use Rattle.std.proofs.lemmas.Simd.{map-map}
use Rattle.flow_keys.specs.declared.routed.Routed.{Routed}
use Rattle.job_format.specs.Job as jobs
use Rattle.routed_trace.specs.Routed.{item_of, items_in, weight_of_routed}
use Rattle.sketch_levels.specs.Items.{weight_of}
use Rattle.path_shares.specs.Shares.{AreOn, job_item, share, switch_of}
use Rattle.path_shares.proofs.Parts.{each_given, given_to, packets_in, share-part}
use Rattle.path_shares.proofs.Sums.{sum_by-parts}

sum_by-map : {X Y : Type 0} (f : Y → ℕ) (g : X → Y) (xs : List X) → sum_by f (map g xs) ≡ sum_by (λ x. f (g x)) xs
sum_by-map f g xs = sym (sum-map f (map g xs)) ∙ ap sum (map-map f g xs) ∙ sum-map (λ x. f (g x)) xs

share_weighs : (placement : List ℕ) (epoch switch : ℕ) (routed : List Routed)
    → jobs.weight_of (share placement epoch switch routed)
    ≡ weight_of_routed (given_to placement switch (packets_in epoch routed))
share_weighs placement epoch switch routed =
    ap jobs.weight_of (share-part placement epoch switch routed)
    ∙ sum_by-map (λ item. item.weight) job_item (given_to placement switch (packets_in epoch routed))

-- the weights of the shares are together that of the epoch
pub shares_weigh : (switches : ℕ) (placement : List ℕ) (routed : List Routed) (epoch : ℕ)
    → AreOn switches placement routed
    → sum_by (λ switch. jobs.weight_of (share placement epoch switch routed)) (range_with_len 0 switches)
    ≡ weight_of (items_in epoch routed)
unfolding items_in
shares_weigh switches placement routed epoch on =
    (λ i. sum_by (λ switch. share_weighs placement epoch switch routed i) (range_with_len 0 switches))
    ∙ sum_by-parts (λ packet. packet.weight) (switch_of placement) switches (packets_in epoch routed)
    (each_given switches placement epoch routed on)
    ∙ sym (sum_by-map (λ item. item.weight) item_of (packets_in epoch routed))
