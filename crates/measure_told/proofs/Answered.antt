-- What a measure answers of a told log.
use Rattle.std.proofs.Common.{◌≡◌, ℕ, ◌+◌, false, List, [], ◌∷◌, ◌++◌, refl, subst}
use Rattle.std.specs.Prelude.{⊤}
use Rattle.bound_certificate.specs.declared.outcome.Outcome.{Outcome}
use Rattle.bound_certificate.specs.declared.outcome.Outcome.TheVariants as outcomes
use Rattle.bound_certificate.specs.declared.placement.Placement.{Placement}
use Rattle.bound_certificate.specs.declared.tree.Tree.{Tree}
use Rattle.change_report.specs.Form.{Form}
use Rattle.crew.specs.Log.{Entry}
use Rattle.measure_answers.specs.Measure.{MeasureAnswers}
use Rattle.measure_answers.specs.Replayed.{Contents, GivesUpReplays, HasPlacement, HasReplies, first_behind, replays_of}
use Rattle.measure_answers.specs.Text.{replaying_of}
use Rattle.mon_call.specs.CrewCall.{CrewCall}
use Rattle.mon_call.specs.declared.setting.Setting.{Setting}
use Rattle.mon_call.specs.declared.status.Input.TheVariants as inputs
use Rattle.mon_call.specs.declared.status.Phase.TheVariants as phases
use Rattle.mon_call.specs.declared.status.Status.{Status}
use Rattle.mon_call.specs.declared.status.Status.TheVariants as statuses
use Rattle.mon_place.proofs.Told.{told_given_up, told_outcome}
use Rattle.mon_place.specs.Place.{HasOutcome}
use Rattle.pcap_reader.specs.Trace.{Record}
use Rattle.pcap_reader.specs.declared.header.Header.{Header}
use Rattle.replay_phase.specs.Phase as replaying
use Rattle.replay_phase.specs.Phase.{Gathers, Replaying}
use Rattle.replay_supervisor.specs.Outcome.{IsSpent, IsStale}
use Rattle.replay_supervisor.specs.Reading.{drawn_in}
use Rattle.replay_supervisor.specs.Steps.{Plan}
use Rattle.sketch_merge.specs.Merged.{View}
use Rattle.solve_phase.proofs.Counts.{one_part}
use Rattle.solve_phase.specs.Phase as searching
use Rattle.solve_phase.specs.Phase.{Finds, Grows}
use Rattle.solve_phase.specs.declared.solving.Solving.{Solving}
use Rattle.topology.specs.Topology.{Topo}
use Rattle.measure_told.proofs.Read.{not_refused, not_unfit, same_topology, same_trace}
use Rattle.measure_told.proofs.Searched.{HasEnded}
use Rattle.measure_told.proofs.Stops.{given_up_goes, no_entry, oldest_goes}
use Rattle.measure_told.specs.Told.{IsToldMeasure, is_stop}

module _ (contents : Contents) (setting : Setting) (solving : Solving) (c : CrewCall) (topo : Topo) (header : Header)
    (members : List Record) (part : List Entry)
  where
    -- a search of the part ended without a placement, by this outcome
    abbrev pub EndsUnplaced : (Tree → Outcome) → Type 0
    EndsUnplaced outcome = (tree : Tree) × HasEnded topo.problem solving c.crew.issued part part [] (outcome tree)

    -- in the part a placement was found, and the replays of its shares came behind it
    pub record HasPlaced : Type 0 where
      pub placement : Placement
      pub tree : Tree
      pub solve : List Entry
      pub replay : List Entry
      pub ended : HasEnded topo.problem solving c.crew.issued part solve replay (outcomes.Placed placement tree)
      pub first : ℕ
      pub first_is : first ≡ c.crew.issued + drawn_in solve

    abbrev pub replays_behind : HasPlaced → Replaying
    replays_behind placed = replaying_of setting solving topo header members placed.placement.sites

    -- these ended
    pub record HasGathered : Type 0 where
      pub placed : HasPlaced
      pub merged : List View
      pub gathers : Gathers (replays_behind placed) placed.first placed.replay merged

    -- or were given up
    pub record HasGivenUp (P : Plan → List Entry → Type 0) : Type 0 where
      pub placed : HasPlaced
      pub gives_up : replaying.GivesUp (replays_behind placed) placed.first P placed.replay

    -- each status with what the part of the log says
    abbrev pub ToldAnswers : Status → Type 0
    ToldAnswers statuses.Done = HasGathered
    ToldAnswers statuses.Infeasible = EndsUnplaced outcomes.Infeasible
    ToldAnswers (statuses.SearchBudget nodes) = (nodes ≡ solving.nodes) × EndsUnplaced outcomes.Spent
    ToldAnswers (statuses.RestartsSpent phases.Solve job bad) =
        searching.GivesUp topo.problem solving c.crew.issued
        (λ plan log. IsSpent plan c.crew c.crew_after log job bad) part
    ToldAnswers (statuses.RestartsSpent phases.Replay job bad) =
        HasGivenUp (λ plan log. IsSpent plan c.crew c.crew_after log job bad)
    ToldAnswers (statuses.StaleLimit phases.Solve) =
        searching.GivesUp topo.problem solving c.crew.issued IsStale part
    ToldAnswers (statuses.StaleLimit phases.Replay) = HasGivenUp IsStale
    ToldAnswers statuses.Memory = ⊤
    ToldAnswers _ = ⊥

    module _ (told : IsToldMeasure contents setting solving c topo header members part) where
      pub unplaced : (outcome : Outcome) → HasOutcome contents.topology solving c outcome
          → HasEnded topo.problem solving c.crew.issued part part [] outcome
      unplaced outcome has = record {
        finds = told_outcome contents.topology solving c outcome topo part told.work.topology told.log has;
        whole = refl;
        begins = no_entry;
      }

      same_replays : (placed : HasPlacement contents setting solving c)
          → replays_of contents setting solving c placed
          ≡ replaying_of setting solving topo header members placed.placement.sites
      same_replays placed =
          let topology = same_topology contents setting.division topo header members told.work placed.topo
          placed.spells in
          let trace = same_trace contents setting.division topo header members told.work placed.traced in
          λ i. replaying_of setting solving (topology i) (trace.0 i) (trace.1 i) placed.placement.sites

      -- the search that found a placement, where the rest of the part begins with no stopped ticket
      found : (placed : HasPlacement contents setting solving c) (replay : List Entry)
          → Grows c.crew c.crew_after (replay ++ placed.solve)
          → ((later : List Entry) (entry : Entry) → replay ≡ later ++ entry ∷ [] → is_stop entry ≡ false)
          → HasPlaced
      found placed replay grows begins = record {
        placement = placed.placement;
        tree = placed.tree;
        solve = placed.solve;
        replay = replay;
        ended = record {
          finds = subst
              (λ (t : Topo). Finds t.problem solving c.crew.issued placed.solve
              (outcomes.Placed placed.placement placed.tree))
              (same_topology contents setting.division topo header members told.work placed.topo placed.spells)
              placed.finds;
          whole = one_part c.crew c.crew_after told.log.log part (replay ++ placed.solve) told.log.before
              told.log.after grows.log;
          begins = begins;
        };
        first = first_behind contents setting solving c placed;
        first_is = refl;
      }

      pub gathered : HasReplies contents setting solving c → HasGathered
      unfolding found
      gathered has = record {
        placed = found has.placed has.replay has.grows
            (λ later entry is. oldest_goes has.gathers.plan has.replay later entry has.gathers.is_log.steps is);
        merged = has.merged;
        gathers = subst
            (λ (r : Replaying). Gathers r (first_behind contents setting solving c has.placed) has.replay has.merged)
            (same_replays has.placed) has.gathers;
      }

      pub given_up : (P : Plan → List Entry → Type 0) → GivesUpReplays contents setting solving c P → HasGivenUp P
      unfolding found
      given_up P has = record {
        placed = found has.placed has.replay has.grows
            (given_up_goes has.gives_up.plan has.replay has.gives_up.log has.gives_up.whole
            has.gives_up.is_log.steps);
        gives_up = subst
            (λ (r : Replaying). replaying.GivesUp r (first_behind contents setting solving c has.placed) P has.replay)
            (same_replays has.placed) has.gives_up;
      }

      pub told_answers : (form : Form) (status : Status) → MeasureAnswers form contents setting solving c status
          → ToldAnswers status
      told_answers form statuses.Done answers = gathered answers.is_due.has
      told_answers form statuses.Infeasible answers =
          (answers.0.is_due.0, unplaced (outcomes.Infeasible answers.0.is_due.0) answers.0.is_due.1.has)
      told_answers form (statuses.SearchBudget nodes) answers =
          (answers.0.0, (answers.0.1.is_due.0, unplaced (outcomes.Spent answers.0.1.is_due.0) answers.0.1.is_due.1.has))
      told_answers form statuses.SinkFault answers = absurd (told.smooth.sink answers.0)
      told_answers form (statuses.ReadFault inputs.Topology) answers = absurd (told.smooth.inputs answers.0)
      told_answers form (statuses.ReadFault inputs.Trace) answers = absurd (told.smooth.inputs answers.0)
      told_answers form (statuses.Topology fault) answers =
          absurd (not_unfit contents setting.division topo header members told.work fault answers.0)
      told_answers form (statuses.Trace fault) answers =
          absurd (not_refused contents setting.division topo header members told.work fault answers.1)
      told_answers form (statuses.RestartsSpent phases.Solve job bad) answers =
          told_given_up contents.topology solving c (λ plan log. IsSpent plan c.crew c.crew_after log job bad) topo part
          told.work.topology told.log answers.0.0
      told_answers form (statuses.RestartsSpent phases.Replay job bad) answers =
          given_up (λ plan log. IsSpent plan c.crew c.crew_after log job bad) answers.0
      told_answers form (statuses.StaleLimit phases.Solve) answers =
          told_given_up contents.topology solving c IsStale topo part told.work.topology told.log answers.0.0
      told_answers form (statuses.StaleLimit phases.Replay) answers = given_up IsStale answers.0
      told_answers form statuses.Memory answers = tt
      told_answers form _ answers = absurd answers
