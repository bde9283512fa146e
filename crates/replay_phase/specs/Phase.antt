-- What replays by children left in the log, the newest entry first.
use Rattle.std.specs.Prelude.{◌≡◌, ◌⊎◌, ℕ, ◌+◌, ◌*◌, ◌<◌, List, [], ⊤, length, map, Some, Result, Ok, Err}
use Rattle.std.specs.List.{range_with_len}
use Rattle.crew.specs.Crew.{CrewState}
use Rattle.crew.specs.Log.{Entry}
use Rattle.flow_keys.specs.declared.routed.Routed.{Routed}
use Rattle.hash_family.specs.Setting.{Setting}
use Rattle.path_shares.specs.Shares.{share_job}
use Rattle.replay_jobs.specs.Replays.{IsReplayWork}
use Rattle.replay_places.specs.Epochs.{view_at, weights}
use Rattle.replay_supervisor.specs.Outcome.{IsFinished, IsSpent, IsStale}
use Rattle.replay_supervisor.specs.Reading.{accepted, read}
use Rattle.replay_supervisor.specs.Steps.{IsLog, Plan, with_stops}
use Rattle.replay_supervisor.specs.declared.stop.Stop.{Stop}
use Rattle.replay_supervisor.specs.declared.stop.Stop.TheVariants as stops
use Rattle.reply_format.specs.Reply.{ReplayReply, Replay, SpellsReply}
use Rattle.share_jobs.specs.Heads.{head_to}
use Rattle.sketch_merge.specs.Merged.{View}
use Rattle.sketch_merge.specs.Merging.{merged_view}
use Rattle.solve_phase.specs.Phase.{Grows}

-- whose shares are replayed: the numbers of the sketch, so many epochs and switches, a placement, the routed packets; and
-- how many children may be out together, and how many attempts at a job may be bad
pub record Replaying : Type 0 where
  pub setting : Setting
  pub epochs : ℕ
  pub switches : ℕ
  pub placement : List ℕ
  pub routed : List Routed
  pub window : ℕ
  pub restarts : ℕ

module _ (r : Replaying) where
  -- The plan of the replays: a job for each epoch and switch, whose pieces spell the job of its share, and of whose replies
  -- those to it are good.
  pub record IsReplay (first_ticket : ℕ) (p : Plan) : Type 0 where
    pub work : IsReplayWork r.setting r.epochs r.switches r.placement r.routed p.work
    pub first_is : p.first ≡ first_ticket
    pub window_is : p.window ≡ r.window
    pub restarts_are : p.restarts ≡ r.restarts

  -- the replies of an epoch, in the order of the switches
  abbrev pub epoch_replies : (ℕ → ℕ → ReplayReply) → ℕ → List ReplayReply
  epoch_replies replies epoch = map (replies epoch) (range_with_len 0 r.switches)

  -- The replays ended: the log is one of supervising them, in which the accepted reply of each job spells this one, which
  -- is to that job; what was merged for each epoch is what its replies say together, each once.
  pub record Gathers (first_ticket : ℕ) (replay : List Entry) (merged : List View) : Type 0 where
    pub plan : Plan
    pub replays : IsReplay first_ticket plan
    pub is_log : IsLog plan replay
    pub finished : IsFinished plan replay
    pub replies : ℕ → ℕ → ReplayReply
    pub each : (epoch switch : ℕ) → epoch < r.epochs → switch < r.switches → (bytes : List ℕ)
        × (accepted (read plan.work replay) (epoch * r.switches + switch) ≡ Some bytes)
        × ((replies epoch switch).head ≡ head_to (share_job r.setting r.switches r.placement r.routed epoch switch))
        × SpellsReply (Replay (replies epoch switch)) bytes
    pub number : length merged ≡ r.epochs
    pub views : (epoch : ℕ) → epoch < r.epochs → view_at merged epoch
        ≡ merged_view r.setting (weights (epoch_replies replies epoch)) (epoch_replies replies epoch)

  -- The replays were given up: a log of which P holds, behind which each ticket that is out is stopped.
  pub record GivesUp (first_ticket : ℕ) (P : Plan → List Entry → Type 0) (replay : List Entry) : Type 0 where
    pub plan : Plan
    pub replays : IsReplay first_ticket plan
    pub log : List Entry
    pub whole : replay ≡ with_stops (read plan.work log).outs log
    pub is_log : IsLog plan log
    pub why : P plan log

  -- a crew that was given up on, for a reason
  pub record EndsReplays (before after : CrewState) (P : Plan → List Entry → Type 0) : Type 0 where
    pub replay : List Entry
    pub grows : Grows before after replay
    pub gives_up : GivesUp before.issued P replay

  -- a crew whose children have replayed all shares
  pub record HasReplayed (before after : CrewState) (merged : List View) : Type 0 where
    pub replay : List Entry
    pub grows : Grows before after replay
    pub gathers : Gathers before.issued replay merged

  -- what replays by children did
  abbrev pub Replays : CrewState → CrewState → Result (List View) Stop → Type 0
  Replays before after (Ok merged) = HasReplayed before after merged
  Replays before after (Err (stops.RestartsSpent job bad)) =
      EndsReplays before after (λ plan log. IsSpent plan before after log job bad)
  Replays before after (Err stops.StaleLimit) = EndsReplays before after IsStale
  Replays before after (Err stops.Memory) = (after ≡ before) ⊎ EndsReplays before after (λ plan log. ⊤)
