-- The replies of honest children to the jobs of all shares.
use Rattle.std.proofs.Common.{◌≡◌, ℕ, ◌+◌, ◌*◌, ◌<◌, List, Result, Ok, Err, map, refl, sym, ◌∙◌, ap, subst}
use Rattle.std.specs.Prelude.{sum}
use Rattle.std.specs.List.{range_with_len}
use Rattle.std.proofs.lemmas.List.Sums.{sum-map}
use Rattle.std.proofs.lemmas.Simd.{map-map}
use Rattle.child_worker.specs.Replies.{replay_reply}
use Rattle.crew.specs.Log.{Entry}
use Rattle.hash_family.specs.Setting.{Setting}
use Rattle.honest_logs.specs.Honest.{AnswersHonestly, IsHonest}
use Rattle.honest_logs.proofs.Answered.{accepted_answers}
use Rattle.job_format.specs.Job as jobs
use Rattle.job_format.specs.Job.{ReplayJob}
use Rattle.path_shares.proofs.Ranges.{map_below}
use Rattle.path_shares.proofs.United.{united}
use Rattle.path_shares.proofs.Weights.{shares_weigh}
use Rattle.path_shares.proofs.Whole.{whole_epochs}
use Rattle.path_shares.specs.Honest.{IsUnited, IsWhole, honest_replies}
use Rattle.path_shares.specs.Shares.{AreOn, share, share_job}
use Rattle.replay_phase.specs.Phase.{Gathers, Replaying, epoch_replies}
use Rattle.replay_places.specs.Epochs.{view_at, weights}
use Rattle.reply_format.proofs.OneRead.{one_read}
use Rattle.reply_format.specs.Reply.{ExpectReplay, ReplayReply, Reply, Replay, Solve, SpellsReply}
use Rattle.reply_format.specs.declared.fault.ReplyFault.{ReplyFault}
use Rattle.routed_trace.specs.Routed.{items_in}
use Rattle.share_jobs.specs.Heads.{head_to}
use Rattle.sketch_levels.specs.Items.{weight_of}
use Rattle.sketch_merge.specs.Merged.{View}
use Rattle.sketch_merge.specs.Merging.{merged_view}

or_else : ReplayReply → Result Reply ReplyFault → ReplayReply
or_else other (Ok (Replay reply)) = reply
or_else other (Ok (Solve reply)) = other
or_else other (Err fault) = other

-- bytes spell one reply to a job
one_reply : (job : ReplayJob) (reply other : ReplayReply) (bytes : List ℕ) → reply.head ≡ head_to job
    → SpellsReply (Replay reply) bytes → other.head ≡ head_to job → SpellsReply (Replay other) bytes → reply ≡ other
unfolding or_else
one_reply job reply other bytes head spelled same also =
    ap (or_else reply)
    (one_read (ExpectReplay (head_to job)) bytes (Ok (Replay reply)) (Ok (Replay other)) (head, spelled) (same, also))

setting_is : (setting : Setting) (weight : ℕ) (replies : List ReplayReply) → (merged_view setting weight replies).setting ≡ setting
unfolding merged_view
setting_is setting weight replies = refl

module _ (r : Replaying) (first : ℕ) (replay : List Entry) (merged : List View)
    (on : AreOn r.switches r.placement r.routed) (g : Gathers r first replay merged) (honest : IsHonest g.plan replay)
  where
    abbrev job_in : ℕ → ℕ → ReplayJob
    job_in epoch switch = share_job r.setting r.switches r.placement r.routed epoch switch

    -- the accepted reply of a share's job is that of an honest child
    honest_at : (epoch switch : ℕ) → epoch < r.epochs → switch < r.switches
        → g.replies epoch switch ≡ replay_reply (job_in epoch switch)
    honest_at epoch switch within under =
        let found = g.each epoch switch within under in
        let answers = accepted_answers g.plan AnswersHonestly replay g.is_log.steps honest (epoch * r.switches + switch) found.0 found.1
        (job_in epoch switch) (g.replays.work.spelled epoch switch within under) in
        one_reply (job_in epoch switch) (g.replies epoch switch) (replay_reply (job_in epoch switch)) found.0
        found.2 found.3 refl answers

    replies_are : (epoch : ℕ) → epoch < r.epochs
        → epoch_replies r g.replies epoch ≡ honest_replies r.setting r.switches r.placement r.routed epoch
    replies_are epoch within =
        map_below (g.replies epoch) (λ switch. replay_reply (job_in epoch switch)) r.switches
        (λ switch under. honest_at epoch switch within under)

    weights_are : (epoch : ℕ) → weights (honest_replies r.setting r.switches r.placement r.routed epoch)
        ≡ weight_of (items_in epoch r.routed)
    weights_are epoch =
        let weight = λ (reply : ReplayReply). reply.head.weight in
        let reply = λ (switch : ℕ). replay_reply (job_in epoch switch) in
        let switches = range_with_len 0 r.switches in
        sym (sum-map weight (map reply switches)) ∙ ap sum (map-map weight reply switches)
        ∙ sum-map (λ switch. jobs.weight_of (share r.placement epoch switch r.routed)) switches
        ∙ shares_weigh r.switches r.placement r.routed epoch on

    view_is : (epoch : ℕ) → epoch < r.epochs → view_at merged epoch
        ≡ merged_view r.setting (weight_of (items_in epoch r.routed))
        (honest_replies r.setting r.switches r.placement r.routed epoch)
    view_is epoch within =
        g.views epoch within
        ∙ ap (λ (replies : List ReplayReply). merged_view r.setting (weights replies) replies) (replies_are epoch within)
        ∙ ap (λ (n : ℕ). merged_view r.setting n (honest_replies r.setting r.switches r.placement r.routed epoch))
        (weights_are epoch)

    pub united_replays : (epoch : ℕ) → epoch < r.epochs
        → IsUnited r.setting r.switches r.placement r.routed epoch (view_at merged epoch)
    united_replays epoch within =
        subst (IsUnited r.setting r.switches r.placement r.routed epoch) (sym (view_is epoch within))
        (united r.setting r.switches r.placement r.routed epoch on)

    pub whole_replays : IsWhole r.setting r.routed r.epochs (view_at merged)
    whole_replays = whole_epochs r.setting r.switches r.placement r.routed r.epochs (view_at merged) on
        (λ epoch within. ap (λ (v : View). v.setting) (view_is epoch within)
        ∙ setting_is r.setting (weight_of (items_in epoch r.routed))
        (honest_replies r.setting r.switches r.placement r.routed epoch))
        united_replays
