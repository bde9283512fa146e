-- What replays by children did, from what supervising them did.
use Rattle.std.proofs.Common.{◌≡◌, ℕ, ◌+◌, ◌*◌, ◌<◌, ◌≤◌, zero, suc, Bool, true, false, List, [], ◌∷◌, ◌++◌, Option, None, Some, Ok, Err, length, get_or, map, refl, sym, ◌∙◌, ap, subst, arith, inr}
use Rattle.std.specs.Prelude.{⊤, is_some, slice_index_or}
use Rattle.std.specs.List.{range_with_len}
use Rattle.std.specs.Option.{option_to_list}
use Rattle.std.proofs.Math.Nat.{mul-le-mul_right}
use Rattle.std.proofs.lemmas.Bool.{true≢false}
use Rattle.crew.specs.Crew.{CrewState}
use Rattle.crew.specs.Log.{Entry}
use Rattle.path_shares.specs.Shares.{share_job}
use Rattle.replay_jobs.specs.Replays.{AreGathered, IsReplayWork, IsReplyAt}
use Rattle.replay_places.proofs.Segments.{segment_at, segment_length}
use Rattle.replay_places.specs.Epochs.{no_setting, segment, view_at, view_of, weights}
use Rattle.replay_supervisor.specs.Jobs.{JobsState, Places, Standing, Work}
use Rattle.replay_supervisor.specs.Outcome.{IsSpent, IsStale, Supervised}
use Rattle.replay_supervisor.specs.Steps.{Plan, plan}
use Rattle.replay_supervisor.specs.declared.stop.Stop.{Stop}
use Rattle.replay_supervisor.specs.declared.stop.Stop.TheVariants as stops
use Rattle.reply_format.specs.Reply.{ReplayReply, Replay, SpellsReply, head_of}
use Rattle.share_jobs.specs.Heads.{head_to}
use Rattle.sketch_merge.specs.Merged.{View}
use Rattle.sketch_merge.specs.Merging.{merged_view, present}
use Rattle.replay_phase.specs.Phase.{EndsReplays, HasReplayed, IsReplay, Replaying, Replays, epoch_replies}

no_reply : ReplayReply
no_reply = record { head = head_of 0 no_setting 0 0; counters = []; heaps = [] }

abbrev reply_in : Option ReplayReply → ReplayReply
reply_in None = no_reply
reply_in (Some reply) = reply

-- places that each have a reply
all_present : (f : ℕ → ReplayReply) (replies : List (Option ReplayReply)) (a : ℕ)
    → ((k : ℕ) → k < length replies → get_or replies k None ≡ Some (f (a + k)))
    → present replies ≡ map f (range_with_len a (length replies))
all_present f [] a each = refl
all_present f (place ∷ replies) a each =
    let here : place ≡ Some (f a) = each 0 (omega arith) ∙ ap (λ (n : ℕ). Some (f n)) (omega arith) in
    let rest = all_present f replies (a + 1)
    (λ k under. each (suc k) (omega arith) ∙ ap (λ (n : ℕ). Some (f n)) (omega arith)) in
    ap (λ (p : Option ReplayReply). option_to_list p ++ present replies) here
    ∙ ap (λ (more : List ReplayReply). f a ∷ more) rest

-- the plan by which jobs are supervised that are those of the shares
pub is_replay : (r : Replaying) (first window restarts : ℕ) (jobs : JobsState) → r.window ≡ window
    → r.restarts ≡ restarts → IsReplayWork r.setting r.epochs r.switches r.placement r.routed jobs.work
    → IsReplay r first (plan jobs.work first window restarts)
is_replay r first window restarts jobs window_is restarts_are work = record {
  work = work;
  first_is = refl;
  window_is = sym window_is;
  restarts_are = sym restarts_are;
}

module _ (r : Replaying) (old new : CrewState) (jobs : JobsState) (standing : Standing) (p : Plan)
    (replays : IsReplay r old.issued p)
  where
    abbrev IsAt : ℕ → ℕ → Option ReplayReply → Option (List ℕ) → Type 0
    IsAt epoch switch reply place = IsReplyAt r.setting r.epochs r.switches r.placement r.routed epoch switch reply place

    -- a place that isn't empty has this reply
    filled : (epoch switch : ℕ) (reply : Option ReplayReply) (place : Option (List ℕ)) → IsAt epoch switch reply place
        → is_some place ≡ true → (bytes : List ℕ) × (place ≡ Some bytes)
        × ((reply_in reply).head ≡ head_to (share_job r.setting r.switches r.placement r.routed epoch switch))
        × SpellsReply (Replay (reply_in reply)) bytes
    filled epoch switch None None is some = absurd (true≢false (sym some))
    filled epoch switch None (Some bytes) is some = absurd is
    filled epoch switch (Some reply) None is some = absurd is
    filled epoch switch (Some reply) (Some bytes) is some = (bytes, refl, is.0, is.1)

    there : (epoch switch : ℕ) (reply : Option ReplayReply) (place : Option (List ℕ)) → IsAt epoch switch reply place
        → is_some place ≡ true → reply ≡ Some (reply_in reply)
    there epoch switch None None is some = absurd (true≢false (sym some))
    there epoch switch None (Some bytes) is some = absurd is
    there epoch switch (Some reply) place is some = refl

    pub has_replayed : (s : Supervised p old new jobs standing (Ok tt)) (merged : List View)
        → AreGathered r.setting r.epochs r.switches r.placement r.routed s.taken merged → HasReplayed r old new merged
    has_replayed s merged gathered = record {
      replay = s.part;
      grows = record { log = s.log; issued = s.issued; faults = s.faults; none_out = s.none_out };
      gathers = record {
        plan = p;
        replays = replays;
        is_log = s.answers.is_log;
        finished = s.answers.finished;
        replies = replies;
        each = λ epoch switch within under.
            let found = filled epoch switch (get_or gathered.replies (epoch * r.switches + switch) None)
            (get_or s.taken (epoch * r.switches + switch) None) (gathered.each epoch switch within under)
            (some_at epoch switch within under) in (
              found.0,
              ap (λ (places : Places). slice_index_or places (epoch * r.switches + switch) None)
                  (sym s.answers.all) ∙ found.1,
              found.2,
              found.3,
            );
        number = gathered.number;
        views = λ epoch within.
            gathered.views epoch within
            ∙ ap (λ (some : List ReplayReply). merged_view r.setting (weights some) some) (all_of epoch within);
      };
    }
      where
        replies : ℕ → ℕ → ReplayReply
        replies epoch switch = reply_in (get_or gathered.replies (epoch * r.switches + switch) None)

        some_at : (epoch switch : ℕ) → epoch < r.epochs → switch < r.switches
            → is_some (get_or s.taken (epoch * r.switches + switch) None) ≡ true
        some_at epoch switch within under =
            let below : (epoch + 1) * r.switches ≤ r.epochs * r.switches = mul-le-mul_right r.switches (omega arith) in
            let known : epoch * r.switches + switch < p.work.count =
            omega (arith, below, replays.work.count) in
            ap (λ (places : Places). is_some (slice_index_or places (epoch * r.switches + switch) None)) s.answers.all
            ∙ s.answers.finished.accepted (epoch * r.switches + switch) known

        all_of : (epoch : ℕ) → epoch < r.epochs
            → present (segment r.switches epoch gathered.replies) ≡ map (replies epoch) (range_with_len 0 r.switches)
        all_of epoch within =
            let part = segment r.switches epoch gathered.replies in
            let many = segment_length r.switches epoch r.epochs gathered.replies gathered.replies_number within in
            all_present (replies epoch) part 0 (λ k under.
            segment_at r.switches epoch k gathered.replies None (omega (arith, many))
            ∙ there epoch k (get_or gathered.replies (epoch * r.switches + k) None)
            (get_or s.taken (epoch * r.switches + k) None) (gathered.each epoch k within (omega (arith, many)))
            (some_at epoch k within (omega (arith, many)))
            ∙ ap (λ (n : ℕ). Some (replies epoch n)) (omega arith))
            ∙ ap (λ (n : ℕ). map (replies epoch) (range_with_len 0 n)) many

    -- replays that stopped were given up, for a reason
    ends_replays : (stop : Stop) (P : Plan → List Entry → Type 0) (s : Supervised p old new jobs standing (Err stop))
        → P p s.answers.log → EndsReplays r old new P
    ends_replays stop P s why = record {
      replay = s.part;
      grows = record { log = s.log; issued = s.issued; faults = s.faults; none_out = s.none_out };
      gives_up = record {
        plan = p;
        replays = replays;
        log = s.answers.log;
        whole = s.answers.whole;
        is_log = s.answers.is_log;
        why = why;
      };
    }

    pub has_stopped : (stop : Stop) → Supervised p old new jobs standing (Err stop) → Replays r old new (Err stop)
    has_stopped (stops.RestartsSpent job bad) s =
        ends_replays (stops.RestartsSpent job bad) (λ plan log. IsSpent plan old new log job bad) s s.answers.why.1
    has_stopped stops.StaleLimit s = ends_replays stops.StaleLimit IsStale s s.answers.why.1
    has_stopped stops.Memory s = inr (ends_replays stops.Memory (λ plan log. ⊤) s tt)
