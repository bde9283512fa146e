-- What the merged replies of an epoch weigh.
use Rattle.std.proofs.Common.{◌≡◌, ℕ, ◌<◌, List, map, refl, sym, ◌∙◌, ap}
use Rattle.std.specs.Prelude.{sum}
use Rattle.std.specs.List.{range_with_len}
use Rattle.std.proofs.lemmas.List.Sums.{sum-map}
use Rattle.std.proofs.lemmas.Simd.{map-map}
use Rattle.crew.specs.Log.{Entry}
use Rattle.hash_family.specs.Setting.{Setting}
use Rattle.job_format.specs.Job as jobs
use Rattle.path_shares.proofs.Ranges.{map_below}
use Rattle.path_shares.proofs.Weights.{shares_weigh}
use Rattle.path_shares.specs.Shares.{AreOn, share}
use Rattle.replay_phase.specs.Phase.{Gathers, Replaying, epoch_replies}
use Rattle.replay_places.specs.Epochs.{view_at, weights}
use Rattle.reply_format.specs.Reply.{ReplayReply}
use Rattle.routed_trace.specs.Routed.{items_in}
use Rattle.sketch_levels.specs.Items.{weight_of}
use Rattle.sketch_merge.specs.Merged.{View}
use Rattle.sketch_merge.specs.Merging.{merged_view}

weight_is : (setting : Setting) (weight : ℕ) (replies : List ReplayReply)
    → (merged_view setting weight replies).weight ≡ weight
unfolding merged_view
weight_is setting weight replies = refl

module _ (r : Replaying) (first : ℕ) (replay : List Entry) (merged : List View)
    (on : AreOn r.switches r.placement r.routed) (g : Gathers r first replay merged) (epoch : ℕ) (within : epoch < r.epochs)
  where
    -- a reply weighs what its share does
    reply_weighs : (switch : ℕ) → switch < r.switches
        → (g.replies epoch switch).head.weight ≡ jobs.weight_of (share r.placement epoch switch r.routed)
    reply_weighs switch under = ap (λ head. head.weight) (g.each epoch switch within under).2

    -- an epoch's value weighs what its packets do
    pub weighs : (view_at merged epoch).weight ≡ weight_of (items_in epoch r.routed)
    weighs =
        let weight = λ (reply : ReplayReply). reply.head.weight in
        let switches = range_with_len 0 r.switches in
        let of_share = λ (switch : ℕ). jobs.weight_of (share r.placement epoch switch r.routed) in
        ap (λ (v : View). v.weight) (g.views epoch within)
        ∙ weight_is r.setting (weights (epoch_replies r g.replies epoch)) (epoch_replies r g.replies epoch)
        ∙ sym (sum-map weight (map (g.replies epoch) switches))
        ∙ ap sum (map-map weight (g.replies epoch) switches)
        ∙ ap sum (map_below (λ switch. (g.replies epoch switch).head.weight) of_share r.switches reply_weighs)
        ∙ sum-map of_share switches
        ∙ shares_weigh r.switches r.placement r.routed epoch on
