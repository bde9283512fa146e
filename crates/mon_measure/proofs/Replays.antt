-- How replays that were given up are told, and what the merged sketches of replays that ended are.
use Rattle.std.proofs.Common.{◌≡◌, ◌≤◌, ◌<◌, ℕ, List, length, slice_index_or, Err, inl, inr, refl, ◌∙◌, ap, subst, arith, All}
use Rattle.std.proofs.lemmas.List.{get_or_default}
use Rattle.std.proofs.lemmas.List.Elements.{All-weaker}
use Rattle.std.specs.Prelude.{ℤ, unsigned_abs}
use Rattle.count_sketch.specs.Counters.{AllUpTo}
use Rattle.crew.specs.Crew.{CrewState}
use Rattle.crew.specs.Log.{Entry}
use Rattle.hash_family.specs.Setting.{Setting}
use Rattle.mon_call.specs.declared.status.Phase.TheVariants.{Replay}
use Rattle.mon_call.specs.Call.{Finishes}
use Rattle.mon_call.specs.declared.status.Status.{Status}
use Rattle.mon_call.specs.declared.status.Status.TheVariants as statuses
use Rattle.mon_io.specs.Sink.{Grew, GrewByPart, SinkState}
use Rattle.mon_place.specs.Place.{stop_status}
use Rattle.replay_phase.specs.Phase.{Gathers, HasReplayed, Replaying, Replays, epoch_replies}
use Rattle.replay_places.specs.Epochs.{no_view, weights}
use Rattle.reply_format.specs.Reply.{ReplayReply}
use Rattle.replay_supervisor.specs.declared.stop.Stop.{Stop}
use Rattle.replay_supervisor.specs.declared.stop.Stop.TheVariants as stops
use Rattle.sketch_merge.specs.Merged.{HaveUpTo, View}
use Rattle.sketch_merge.specs.Merging.{merged_view}
use Rattle.measure_answers.specs.Reported.{ReportsShares, Shares}

-- replays that were given up, by why
pub given_up : (shares : Shares) (before after : CrewState) (sink : SinkState) (stop : Stop)
    → Replays shares.replays before after (Err stop)
    → ReportsShares shares before after sink sink (stop_status Replay stop)
given_up shares before after sink (stops.RestartsSpent job bad) ends = (ends, refl)
given_up shares before after sink stops.StaleLimit ends = (ends, refl)
given_up shares before after sink stops.Memory (inl same) = (inl same, refl)
given_up shares before after sink stops.Memory (inr ends) = (inr (inl ends), refl)

setting_is : (setting : Setting) (weight : ℕ) (replies : List ReplayReply)
    → (merged_view setting weight replies).setting ≡ setting
unfolding merged_view
setting_is setting weight replies = refl

-- the merged sketches are of the numbers of the replays
pub settings_are : (r : Replaying) (first : ℕ) (replay : List Entry) (merged : List View) → Gathers r first replay merged
    → All (λ (view : View). view.setting ≡ r.setting) merged
settings_are r first replay merged g k d within =
    ap (λ (view : View). view.setting) (get_or_default merged k d no_view within)
    ∙ (ap (λ (view : View). view.setting) (g.views k (subst (λ (n : ℕ). k < n) g.number within))
    ∙ setting_is r.setting (weights (epoch_replies r g.replies k)) (epoch_replies r g.replies k))

-- a limit for a smaller one
pub counters_within : (n m : ℕ) → n ≤ m → (counters : List (List ℤ)) → All (AllUpTo n) counters → All (AllUpTo m) counters
counters_within n m least counters small =
    All-weaker (AllUpTo n) (AllUpTo m) (λ row up. record {
      each = All-weaker (λ value. unsigned_abs value ≤ n) (λ value. unsigned_abs value ≤ m)
          (λ value low. omega (arith, low, least)) row up.each;
    }) counters small

pub small_enough : (merged : List View) (m : ℕ) → All (λ (view : View). All (AllUpTo view.weight) view.counters) merged
    → All (λ (view : View). view.weight ≤ m) merged → All (λ (view : View). All (AllUpTo m) view.counters) merged
small_enough merged m small light k d within =
    counters_within (slice_index_or merged k d).weight m (light k d within) (slice_index_or merged k d).counters
    (small k d within)

pub few_enough : (n m : ℕ) → n ≤ m → (merged : List View) → All (λ (view : View). HaveUpTo n view.keys) merged
    → All (λ (view : View). HaveUpTo m view.keys) merged
few_enough n m least merged few =
    All-weaker (λ (view : View). HaveUpTo n view.keys) (λ (view : View). HaveUpTo m view.keys) (λ view up. record {
      each = All-weaker (λ level. length level ≤ n) (λ level. length level ≤ m)
          (λ level low. omega (arith, low, least)) view.keys up.each;
    }) merged few

-- the text of what replays that ended were merged to was written, or a prefix of it
pub finished : (shares : Shares) (before after : CrewState) (sink later : SinkState) (merged : List View)
    (text : List ℕ) (status : Status)
    → HasReplayed shares.replays before after merged → text ≡ shares.text merged → Finishes sink later text status
    → ReportsShares shares before after sink later status
finished shares before after sink later merged text statuses.Done has is wrote =
    (merged, has, subst (λ (t : List ℕ). Grew sink.written later.written t) is wrote)
finished shares before after sink later merged text statuses.SinkFault has is (rose, part) =
    (rose, (merged, has, subst (λ (t : List ℕ). GrewByPart sink.written later.written t) is part))
finished shares before after sink later merged text _ has is wrote = absurd wrote
