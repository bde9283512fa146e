-- What a measure answers where a placement was found, by how its shares were replayed and reported.
use Rattle.std.proofs.Common.{◌≡◌, ℕ, List, ℤ, Some, inl, inr, refl, sym, subst}
use Rattle.std.specs.Prelude.{⊤}
use Rattle.bound_certificate.specs.declared.outcome.Outcome.TheVariants.{Placed}
use Rattle.bound_certificate.specs.declared.placement.Placement.{Placement}
use Rattle.bound_certificate.specs.declared.tree.Tree.{Tree}
use Rattle.change_report.specs.Form.{Form}
use Rattle.crew.specs.Crew.{CrewState}
use Rattle.crew.specs.Log.{Entry}
use Rattle.honest_replays.proofs.Honest.{united_replays, whole_replays}
use Rattle.mon_call.specs.CrewCall.{CrewCall}
use Rattle.mon_call.specs.Topology.{SpellTopology}
use Rattle.mon_call.specs.declared.setting.Setting.{Setting}
use Rattle.mon_call.specs.declared.status.Phase.TheVariants as phases
use Rattle.mon_call.specs.declared.status.Status.{Status}
use Rattle.mon_call.specs.declared.status.Status.TheVariants as statuses
use Rattle.mon_place.specs.Place.{HasOutcome}
use Rattle.path_shares.specs.Shares.{AreOn}
use Rattle.replay_phase.specs.Phase.{EndsReplays, Gathers, GivesUp, HasReplayed, Replaying}
use Rattle.replay_supervisor.specs.Outcome.{IsSpent, IsStale}
use Rattle.replay_supervisor.specs.Steps.{Plan}
use Rattle.sketch_merge.specs.Merged.{View}
use Rattle.solve_phase.specs.Phase.{HasFound, verdict_on}
use Rattle.solve_phase.specs.declared.solving.Solving.{Solving}
use Rattle.topology.specs.Topology.{Topo}
use Rattle.measure_answers.specs.Measure.{MeasureAnswers}
use Rattle.measure_answers.specs.Replayed.{Contents, GivesUpReplays, HasPlacement, HasReplies, IsTraced, first_behind}
use Rattle.measure_answers.specs.Reported.{ReportsShares, shares_of}
use Rattle.measure_answers.specs.Text.{replaying_of}
use Rattle.measure_answers.proofs.TwoPhases.{grows_twice, spent_since}
use Rattle.measure_answers.proofs.Weighed.{weighs}

-- a reason for another one
pub gives_up_for : (r : Replaying) (first : ℕ) (P Q : Plan → List Entry → Type 0) (replay : List Entry)
    → ((plan : Plan) (log : List Entry) → P plan log → Q plan log) → GivesUp r first P replay → GivesUp r first Q replay
gives_up_for r first P Q replay weaker given = record {
  plan = given.plan;
  replays = given.replays;
  log = given.log;
  whole = given.whole;
  is_log = given.is_log;
  why = weaker given.plan given.log given.why;
}

module _ (form : Form) (contents : Contents) (setting : Setting) (solving : Solving) (c : CrewCall) (mid : CrewState)
    (topo : Topo) (spells : SpellTopology contents.topology topo) (traced : IsTraced contents.trace setting.division)
    (placement : Placement) (tree : Tree) (bound : ℤ)
    (found : HasFound topo.problem solving c.crew mid (Placed placement tree))
    (bound_is : (verdict_on topo.problem (Placed placement tree)).bound ≡ Some bound)
  where
    abbrev pub placed : HasPlacement contents setting solving c
    placed = record {
      topo = topo;
      spells = spells;
      traced = traced;
      placement = placement;
      tree = tree;
      solve = found.solve;
      finds = found.finds;
    }

    abbrev replays : Replaying
    replays = replaying_of setting solving topo traced.header traced.members placement.sites

    -- the replays behind the search
    abbrev replies : (merged : List View) → AreOn replays.switches replays.placement replays.routed
        → HasReplayed replays mid c.crew_after merged
        → HasReplies contents setting solving c
    replies merged on has =
        let gathers = subst (λ (first : ℕ). Gathers replays first has.replay merged) found.grows.issued has.gathers in
        record {
          placed = placed;
          replay = has.replay;
          grows = grows_twice c.crew mid c.crew_after found.solve has.replay found.grows has.grows;
          merged = merged;
          gathers = gathers;
          weighed = λ epoch within. weighs replays (first_behind contents setting solving c placed) has.replay merged on
              gathers epoch within;
          united = λ honest epoch within. united_replays replays (first_behind contents setting solving c placed)
              has.replay merged on gathers honest epoch within;
          whole = λ honest. whole_replays replays (first_behind contents setting solving c placed) has.replay merged on
              gathers honest;
        }

    -- replays that were given up behind the search
    given_up : (P Q : Plan → List Entry → Type 0) → ((plan : Plan) (log : List Entry) → P plan log → Q plan log)
        → EndsReplays replays mid c.crew_after P
        → GivesUpReplays contents setting solving c Q
    given_up P Q weaker ends = record {
      placed = placed;
      replay = ends.replay;
      grows = grows_twice c.crew mid c.crew_after found.solve ends.replay found.grows ends.grows;
      gives_up = gives_up_for replays (first_behind contents setting solving c placed) P Q ends.replay weaker
          (subst (λ (first : ℕ). GivesUp replays first P ends.replay) found.grows.issued ends.gives_up);
    }

    -- want of memory before the replays
    wanting : c.crew_after ≡ mid → HasOutcome contents.topology solving c (Placed placement tree)
    wanting same = record {
      topo = topo;
      spells = spells;
      found = subst (λ (after : CrewState). HasFound topo.problem solving c.crew after (Placed placement tree))
          (sym same) found;
    }

    pub reported : (status : Status) → AreOn replays.switches replays.placement replays.routed
        → ReportsShares
        (shares_of form setting solving topo traced.header traced.members placement.sites bound) mid c.crew_after
        c.call.sink c.call.sink_after status
        → MeasureAnswers form contents setting solving c status
    reported statuses.Done on (merged, has, grew) =
        let all = replies merged on has in record {
          text = (shares_of form setting solving topo traced.header traced.members placement.sites bound).text merged;
          is_due = record { has = all; bound = bound; bound_is = bound_is; lines = refl };
          grew = grew;
        }
    reported statuses.SinkFault on (rose, (merged, has, part)) =
        let all = replies merged on has in (
          rose,
          inl (record {
            text = (shares_of form setting solving topo traced.header traced.members placement.sites bound).text merged;
            is_due = record { has = all; bound = bound; bound_is = bound_is; lines = refl };
            part = part;
          }),
        )
    reported (statuses.RestartsSpent phases.Replay job bad) on (ends, silent) = (
      given_up (λ plan log. IsSpent plan mid c.crew_after log job bad)
          (λ plan log. IsSpent plan c.crew c.crew_after log job bad)
          (λ plan log spent. spent_since plan c.crew mid c.crew_after log job bad found.grows.faults spent) ends,
      silent,
    )
    reported (statuses.StaleLimit phases.Replay) on (ends, silent) =
        (given_up IsStale IsStale (λ plan log stale. stale) ends, silent)
    reported statuses.Memory on (inl same, silent) =
        inl (inr (inr (Placed placement tree, wanting same)), silent)
    reported statuses.Memory on (inr (inl ends), silent) =
        inr (inl (given_up (λ plan log. ⊤) (λ plan log. ⊤) (λ plan log any. any) ends), silent)
    reported statuses.Memory on (inr (inr (merged, has)), silent) = inr (inr (replies merged on has), silent)
    reported _ on reports = absurd reports
