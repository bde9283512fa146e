-- The phases of a told measure are calm where its children are answered in this process.
use Rattle.std.proofs.Common.{◌≡◌, ◌⊎◌, ℕ, ◌≤◌, true, false, List, [], ◌∷◌, ◌++◌, length, refl, sym, ◌∙◌, ap, subst, arith, inl, inr, append_assoc}
use Rattle.std.specs.Prelude.{⊤, is_some}
use Rattle.std.proofs.lemmas.List.{append_cancel_right}
use Rattle.std.proofs.lemmas.Option.{same_Some}
use Rattle.bound_certificate.specs.declared.outcome.Outcome.{Outcome}
use Rattle.bound_certificate.specs.declared.outcome.Outcome.TheVariants as outcomes
use Rattle.calm_logs.proofs.Parts.{calm_earlier, none_calm}
use Rattle.calm_logs.proofs.Searches.{any_reason, calm_found}
use Rattle.calm_logs.proofs.Searches as searches
use Rattle.calm_logs.specs.Calm.{IsCalm}
use Rattle.change_report.specs.Form.{Form}
use Rattle.child_worker.specs.Replies.{AnswersBytes, IsRefused}
use Rattle.crew.specs.Crew.{CrewState}
use Rattle.crew.specs.Log.{AreAnswered, Entry}
use Rattle.crew.specs.Log.Entry.{Stopped}
use Rattle.inline_crew.specs.InOrder.{InOrder}
use Rattle.measure_answers.specs.Measure.{MeasureAnswers}
use Rattle.measure_answers.specs.Replayed.{Contents}
use Rattle.measure_told.proofs.Alike.{search-accepts}
use Rattle.measure_told.proofs.Answered.{HasGathered, HasGivenUp, HasPlaced, gathered, given_up, replays_behind, told_answers, unplaced}
use Rattle.measure_told.proofs.Cut.{goes_before, oldest}
use Rattle.measure_told.proofs.Phases.{reads_there, search_is, told_search}
use Rattle.measure_told.proofs.Searched.{HasEnded, ended_search}
use Rattle.measure_told.specs.Told.{Divides, InPhase, InReplaying, InSolving, IsToldMeasure, is_stop}
use Rattle.mon_call.specs.CrewCall.{CrewCall, IsIdle}
use Rattle.mon_call.specs.declared.setting.Setting.{Setting}
use Rattle.mon_call.specs.declared.status.Input.TheVariants as inputs
use Rattle.mon_call.specs.declared.status.Phase.{Phase}
use Rattle.mon_call.specs.declared.status.Phase.TheVariants as phases
use Rattle.mon_call.specs.declared.status.Status.{Status}
use Rattle.mon_call.specs.declared.status.Status.TheVariants as statuses
use Rattle.mon_place.proofs.Told.{told_given_up}
use Rattle.mon_place.specs.Told.{HasLog}
use Rattle.pcap_reader.specs.Trace.{Record}
use Rattle.pcap_reader.specs.declared.header.Header.{Header}
use Rattle.replay_core.specs.declared.attempt.Attempt.{Attempt}
use Rattle.replay_phase.specs.Phase as replaying
use Rattle.replay_phase.specs.Phase.{Gathers, Replaying}
use Rattle.replay_supervisor.specs.Jobs.{Work}
use Rattle.replay_supervisor.specs.Outcome.{IsSpent, IsStale}
use Rattle.replay_supervisor.specs.Reading.{accepted, read}
use Rattle.replay_supervisor.specs.Steps.{Plan, with_stops}
use Rattle.solve_phase.specs.Phase as searching
use Rattle.solve_phase.specs.Solving.{IsSolving}
use Rattle.solve_phase.specs.Told.{ReadsSearch}
use Rattle.solve_phase.specs.declared.solving.Solving.{Solving}
use Rattle.topology.specs.Topology.{Topo}
use Rattle.calm_replays.proofs.Behind.{answered_earlier, order_earlier}
use Rattle.calm_replays.proofs.Replays.{calm_gathered, calm_given_up}
use Rattle.calm_replays.specs.Inline.{IsBehind}

-- a list that is none has no front
none_front : {X : Type 0} (xs ys : List X) → [] ≡ xs ++ ys → xs ≡ []
none_front [] ys is = refl
none_front (x ∷ xs) ys is = let n = ap length is in absurd (omega (arith, n))

-- an entry that is no stopped ticket stands behind the stops
under_stops : (outs : List Attempt) (log front back : List Entry) (entry : Entry) → is_stop entry ≡ false
    → with_stops outs log ≡ front ++ entry ∷ back → (later : List Entry) × (log ≡ later ++ entry ∷ back)
under_stops [] log front back entry goes is = (front, is)
under_stops (a ∷ outs) log front back entry goes is =
    behind (under_stops outs (Stopped a.ticket ∷ log) front back entry goes is)
  where
    behind : (later : List Entry) × (Stopped a.ticket ∷ log ≡ later ++ entry ∷ back)
        → (later : List Entry) × (log ≡ later ++ entry ∷ back)
    behind ([], same) =
        let one : Stopped a.ticket ≡ entry = cc in
        let e : true ≡ false = ap is_stop one ∙ goes in
        absurd (cc)
    behind (x ∷ later, same) = let rest : log ≡ later ++ entry ∷ back = cc in (later, rest)

-- replays that were given up, for whatever reason
any_reason_replays : (r : Replaying) (first : ℕ) (P : Plan → List Entry → Type 0) (replay : List Entry)
    → replaying.GivesUp r first P replay → replaying.GivesUp r first (λ plan log. ⊤) replay
any_reason_replays r first P replay given = record {
  plan = given.plan;
  replays = given.replays;
  log = given.log;
  whole = given.whole;
  is_log = given.is_log;
  why = tt;
}

module _ (contents : Contents) (setting : Setting) (solving : Solving) (c : CrewCall) (topo : Topo) (header : Header)
    (members : List Record) (part : List Entry)
  where
    -- the search of a part was given up, for whatever reason
    abbrev HasNoSearch : Type 0
    HasNoSearch = searching.GivesUp topo.problem solving c.crew.issued (λ plan log. ⊤) part

    -- or was the whole part
    abbrev HasSearch : Type 0
    HasSearch = (outcome : Outcome) × HasEnded topo.problem solving c.crew.issued part part [] outcome

    -- its replays ended
    abbrev HasReplayed : Type 0
    HasReplayed = HasGathered contents setting solving c topo header members part

    -- or were given up, for whatever reason
    abbrev HasNoReplays : Type 0
    HasNoReplays = HasGivenUp contents setting solving c topo header members part (λ plan log. ⊤)

    -- a part has nothing, a search, or replays
    abbrev HasPhases : Type 0
    HasPhases = (part ≡ []) ⊎ (HasNoSearch ⊎ (HasSearch ⊎ (HasReplayed ⊎ HasNoReplays)))

    -- a crew that is as it was has no new entry
    pub idle_part : HasLog c part → IsIdle c → part ≡ []
    idle_part log idle =
        let same : part ++ log.log ≡ [] ++ log.log = same_Some (part ++ log.log) log.log
        (sym log.after ∙ ap (λ (s : CrewState). s.log) idle ∙ log.before) in
        append_cancel_right part [] log.log same

    no_search : (P : Plan → List Entry → Type 0) → searching.GivesUp topo.problem solving c.crew.issued P part → HasPhases
    no_search P given = inr (inl (any_reason topo.problem solving c.crew.issued P part given))

    no_replays : (P : Plan → List Entry → Type 0) → HasGivenUp contents setting solving c topo header members part P
        → HasPhases
    no_replays P has = inr (inr (inr (inr (record {
      placed = has.placed;
      gives_up = any_reason_replays
          (replays_behind contents setting solving c topo header members part has.placed) has.placed.first P
          has.placed.replay has.gives_up;
    }))))

    module _ (told : IsToldMeasure contents setting solving c topo header members part) (form : Form) where
      -- whatever the status
      pub phases_of : (status : Status) → MeasureAnswers form contents setting solving c status → HasPhases
      phases_of statuses.Memory (inl (inl idle, silent)) = inl (idle_part told.log idle)
      phases_of statuses.Memory (inl (inr (inl given), silent)) =
          inr (inl (told_given_up contents.topology solving c (λ plan log. ⊤) topo part told.work.topology told.log given))
      phases_of statuses.Memory (inl (inr (inr (outcome, has)), silent)) =
          inr (inr (inl (outcome, unplaced contents setting solving c topo header members part told outcome has)))
      phases_of statuses.Memory (inr (inl given, silent)) =
          no_replays (λ plan log. ⊤)
          (given_up contents setting solving c topo header members part told (λ plan log. ⊤) given)
      phases_of statuses.Memory (inr (inr has, silent)) =
          inr (inr (inr (inl (gathered contents setting solving c topo header members part told has))))
      phases_of statuses.Done answers =
          inr (inr (inr (inl (told_answers contents setting solving c topo header members part told form statuses.Done
          answers))))
      phases_of statuses.Infeasible answers =
          let ends = told_answers contents setting solving c topo header members part told form statuses.Infeasible
          answers in
          inr (inr (inl (outcomes.Infeasible ends.0, ends.1)))
      phases_of (statuses.SearchBudget nodes) answers =
          let ends = told_answers contents setting solving c topo header members part told form
          (statuses.SearchBudget nodes) answers in
          inr (inr (inl (outcomes.Spent ends.1.0, ends.1.1)))
      phases_of (statuses.RestartsSpent phases.Solve job bad) answers =
          no_search (λ plan log. IsSpent plan c.crew c.crew_after log job bad)
          (told_answers contents setting solving c topo header members part told form
          (statuses.RestartsSpent phases.Solve job bad) answers)
      phases_of (statuses.RestartsSpent phases.Replay job bad) answers =
          no_replays (λ plan log. IsSpent plan c.crew c.crew_after log job bad)
          (told_answers contents setting solving c topo header members part told form
          (statuses.RestartsSpent phases.Replay job bad) answers)
      phases_of (statuses.StaleLimit phases.Solve) answers =
          no_search IsStale
          (told_answers contents setting solving c topo header members part told form (statuses.StaleLimit phases.Solve)
          answers)
      phases_of (statuses.StaleLimit phases.Replay) answers =
          no_replays IsStale
          (told_answers contents setting solving c topo header members part told form (statuses.StaleLimit phases.Replay)
          answers)
      phases_of statuses.SinkFault answers =
          absurd (told_answers contents setting solving c topo header members part told form statuses.SinkFault answers)
      phases_of (statuses.ReadFault inputs.Topology) answers =
          absurd (told_answers contents setting solving c topo header members part told form
          (statuses.ReadFault inputs.Topology) answers)
      phases_of (statuses.ReadFault inputs.Trace) answers =
          absurd (told_answers contents setting solving c topo header members part told form
          (statuses.ReadFault inputs.Trace) answers)
      phases_of (statuses.Topology fault) answers =
          absurd (told_answers contents setting solving c topo header members part told form (statuses.Topology fault)
          answers)
      phases_of (statuses.Trace fault) answers =
          absurd (told_answers contents setting solving c topo header members part told form (statuses.Trace fault)
          answers)
      phases_of _ answers = absurd answers

    -- Of the search.
    module _ (work : Work) (entries : List Entry) (inside : InSolving topo.problem solving part work entries) where
      -- where the part is calm, so is its search
      calm_inside : IsCalm work part → IsCalm work entries
      calm_inside calm = elim inside.phases [
        | inl whole ↦ subst (λ (log : List Entry). IsCalm work log) (sym whole.0) calm
        | inr divides ↦ calm_earlier work divides.0 entries
            (subst (λ (log : List Entry). IsCalm work log) divides.1.whole calm)
      ]

      module _ (limits : IsSolving solving) (order : InOrder part) (answered : AreAnswered AnswersBytes IsRefused part)
        where
          -- a search that ended is calm
          calm_ended : (solve replay : List Entry) (outcome : Outcome)
              → HasEnded topo.problem solving c.crew.issued part solve replay outcome → IsCalm work entries
          calm_ended solve replay outcome ended =
              subst (λ (log : List Entry). IsCalm work log)
              (sym (ended_search topo.problem solving c.crew.issued part solve replay outcome ended work entries inside))
              (calm_found topo.problem solving c.crew.issued solve outcome work limits ended.finds
              (order_earlier replay solve (subst (λ (log : List Entry). InOrder log) ended.whole order))
              (answered_earlier AnswersBytes IsRefused replay solve
              (subst (λ (log : List Entry). AreAnswered AnswersBytes IsRefused log) ended.whole answered)) inside.reads)

          calm_placed : HasPlaced contents setting solving c topo header members part → IsCalm work entries
          calm_placed placed =
              calm_ended placed.solve placed.replay (outcomes.Placed placed.placement placed.tree) placed.ended

          pub calm_solving : HasPhases → IsCalm work entries
          calm_solving (inl none) =
              calm_inside (subst (λ (log : List Entry). IsCalm work log) (sym none) (none_calm work))
          calm_solving (inr (inl given)) =
              calm_inside (searches.calm_given_up topo.problem solving c.crew.issued (λ plan log. ⊤) part work limits given
              order answered inside.reads)
          calm_solving (inr (inr (inl (outcome, ended)))) = calm_ended part [] outcome ended
          calm_solving (inr (inr (inr (inl has)))) = calm_placed has.placed
          calm_solving (inr (inr (inr (inr has)))) = calm_placed has.placed

    -- a search that was given up has nothing behind it
    module _ (search : Work) (solve entries : List Entry) (searches : ReadsSearch topo.problem solving.nodes search)
        (divides : Divides search part solve entries) (given : HasNoSearch)
      where
        own_reading : ReadsSearch topo.problem solving.nodes given.plan.work
        own_reading = record { one = given.search.one; judges = given.search.judges }

        own_accepts : is_some (accepted (read given.plan.work solve) 0) ≡ true
        own_accepts =
            ap is_some (search-accepts topo.problem solving.nodes given.plan.work search own_reading searches solve)
            ∙ divides.done

        none_behind : entries ≡ []
        none_behind = elim (oldest entries) [
          | inl none ↦ none
          | inr last ↦
              let goes : is_stop last.1 ≡ false = divides.next last.0 last.1 last.2 in
              let there : with_stops (read given.plan.work given.log).outs given.log ≡ last.0 ++ last.1 ∷ solve =
              sym given.whole ∙ divides.whole ∙ ap (λ (log : List Entry). log ++ solve) last.2
              ∙ append_assoc last.0 (last.1 ∷ []) solve in
              let under = under_stops (read given.plan.work given.log).outs given.log last.0 solve last.1 goes there in
              absurd (goes_before given.plan given.log under.0 solve last.1 given.search.one given.is_log.steps under.1
              goes own_accepts)
        ]

    -- Of the replays.
    module _ (work : Work) (entries : List Entry)
        (inside : InReplaying setting solving topo header members part work entries)
      where
        calm_none : entries ≡ [] → IsCalm work entries
        calm_none none = subst (λ (log : List Entry). IsCalm work log) (sym none) (none_calm work)

        module _ (limits : IsSolving solving) (order : InOrder part)
            (answered : AreAnswered AnswersBytes IsRefused part)
          where
            few : solving.window ≤ 64
            few = omega (arith, limits.window_to)

            module _ (placed : HasPlaced contents setting solving c topo header members part) where
              is_behind : IsBehind topo.problem solving c.crew.issued (outcomes.Placed placed.placement placed.tree)
                  placed.solve placed.replay
              is_behind = record {
                finds = placed.ended.finds;
                order = subst (λ (log : List Entry). InOrder log) placed.ended.whole order;
                answered = subst (λ (log : List Entry). AreAnswered AnswersBytes IsRefused log) placed.ended.whole
                    answered;
              }

              calm_there : IsCalm work placed.replay → IsCalm work entries
              calm_there calm =
                  subst (λ (log : List Entry). IsCalm work log)
                  (sym (search_is contents setting solving c topo header members part work entries inside placed).0) calm

            pub calm_replaying : HasPhases → IsCalm work entries
            calm_replaying (inl none) =
                calm_none (none_front entries inside.solve (sym none ∙ inside.divides.whole))
            calm_replaying (inr (inl given)) =
                calm_none (none_behind inside.search inside.solve entries inside.searches inside.divides given)
            calm_replaying (inr (inr (inl (outcome, ended)))) =
                calm_none (told_search contents setting solving c topo header members part work entries inside part []
                outcome ended).0
            calm_replaying (inr (inr (inr (inl has)))) =
                let placed = has.placed in
                let r = replays_behind contents setting solving c topo header members part placed in
                calm_there placed (calm_gathered topo.problem solving c.crew.issued
                (outcomes.Placed placed.placement placed.tree) placed.solve placed.replay (is_behind placed) r has.merged
                (subst (λ (n : ℕ). Gathers r n placed.replay has.merged) placed.first_is has.gathers) work few
                (reads_there contents setting solving c topo header members part work entries inside placed))
            calm_replaying (inr (inr (inr (inr has)))) =
                let placed = has.placed in
                let r = replays_behind contents setting solving c topo header members part placed in
                calm_there placed (calm_given_up topo.problem solving c.crew.issued
                (outcomes.Placed placed.placement placed.tree) placed.solve placed.replay (is_behind placed) r
                (λ plan log. ⊤)
                (subst (λ (n : ℕ). replaying.GivesUp r n (λ plan log. ⊤) placed.replay) placed.first_is has.gives_up) work
                few (reads_there contents setting solving c topo header members part work entries inside placed))

    -- Whatever the phase.
    pub calm_phase : IsSolving solving → InOrder part → AreAnswered AnswersBytes IsRefused part → HasPhases
        → (phase : Phase) (work : Work) (entries : List Entry)
        → InPhase setting solving topo header members part phase work entries → IsCalm work entries
    calm_phase limits order answered has phases.Solve work entries inside =
        calm_solving work entries inside limits order answered has
    calm_phase limits order answered has phases.Replay work entries inside =
        calm_replaying work entries inside limits order answered has

    -- also where nothing was appended
    pub calm_idle : part ≡ [] → (phase : Phase) (work : Work) (entries : List Entry)
        → InPhase setting solving topo header members part phase work entries → IsCalm work entries
    calm_idle none phases.Solve work entries inside =
        calm_inside work entries inside (subst (λ (log : List Entry). IsCalm work log) (sym none) (none_calm work))
    calm_idle none phases.Replay work entries inside =
        calm_none work entries inside (none_front entries inside.solve (sym none ∙ inside.divides.whole))
