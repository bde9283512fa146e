-- What a measure answers where what is read is told without a fault, and so is the crew's log.
use Rattle.std.proofs.Common.{◌≡◌, ◌⊎◌, ℕ, ◌<◌, List, [], Some, refl, sym, ◌∙◌, ap, subst, arith, inl, inr}
use Rattle.std.proofs.lemmas.Bool.{cases_eq}
use Rattle.bound_certificate.proofs.FirstFit.{first_fit_fits}
use Rattle.bound_certificate.specs.Placement.{first_fit}
use Rattle.bound_certificate.specs.Problem.{Problem}
use Rattle.bound_certificate.specs.Whole.{whole}
use Rattle.bound_certificate.specs.declared.outcome.Outcome.TheVariants as outcomes
use Rattle.change_report.specs.Form.{Form}
use Rattle.crew.specs.Log.{Entry}
use Rattle.measure_answers.specs.Measure.{MeasureAnswers}
use Rattle.measure_answers.specs.Replayed.{Contents}
use Rattle.mon_call.specs.Call.{UnlessMemory}
use Rattle.mon_call.specs.CrewCall.{CrewCall}
use Rattle.mon_call.specs.declared.setting.Setting.{Setting}
use Rattle.mon_call.specs.declared.status.Phase.{Phase}
use Rattle.mon_call.specs.declared.status.Phase.TheVariants as phases
use Rattle.mon_call.specs.declared.status.Status.{Status}
use Rattle.mon_call.specs.declared.status.Status.TheVariants as statuses
use Rattle.mon_place.specs.Told.{IsEnding}
use Rattle.pcap_reader.specs.Trace.{Record}
use Rattle.pcap_reader.specs.declared.header.Header.{Header}
use Rattle.replay_core.specs.Book.{total}
use Rattle.replay_core.specs.declared.bad.Bad.{Bad}
use Rattle.replay_supervisor.specs.Jobs.{Work}
use Rattle.replay_supervisor.specs.Outcome.{IsSpent, IsStale}
use Rattle.replay_supervisor.specs.Reading.{bad_in, stale_in}
use Rattle.replay_supervisor.specs.Steps.{Plan}
use Rattle.solve_phase.proofs.Counts.{full_is_not_within, one_overspent, over_is_not_few, over_is_not_within, spent_is_over, stale_is_full}
use Rattle.solve_phase.specs.Phase as searching
use Rattle.solve_phase.specs.Told.{IsOverspent, IsWithinLimits}
use Rattle.solve_phase.specs.declared.solving.Solving.{Solving}
use Rattle.topology.specs.Topology.{Topo}
use Rattle.measure_told.proofs.Answered.{EndsUnplaced, HasGivenUp, HasPlaced, ToldAnswers, told_answers}
use Rattle.measure_told.proofs.Phases.{gathered_entries, given_up_replays, not_infeasible, not_spent, spent_entries, stale_entries}
use Rattle.measure_told.proofs.Searched.{ended_within, given_up_search, none_divided, whole_search}
use Rattle.measure_told.specs.Told.{InPhase, InReplaying, InSolving, IsToldMeasure}

-- another count of bad attempts is told under another status
spent_as : (phase : Phase) (job other : ℕ) (bad more : Bad) → other ≡ job → more ≡ bad
    → statuses.RestartsSpent phase other more ≡ statuses.RestartsSpent phase job bad
spent_as phase job other bad more same counts = λ i. statuses.RestartsSpent phase (same i) (counts i)

module _ (contents : Contents) (setting : Setting) (solving : Solving) (c : CrewCall) (topo : Topo) (header : Header)
    (members : List Record) (part : List Entry) (work : Work) (entries : List Entry)
  where
    abbrev Tells : Status → Type 0
    Tells status = ToldAnswers contents setting solving c topo header members part status

    -- Of the search.
    module _ (inside : InSolving topo.problem solving part work entries) where
      within_placed : HasPlaced contents setting solving c topo header members part
          → IsWithinLimits solving.restarts work entries
      within_placed placed =
          ended_within topo.problem solving c.crew.issued part placed.solve placed.replay
          (outcomes.Placed placed.placement placed.tree) placed.ended work entries inside

      -- a search with an outcome kept the limits
      within_infeasible : EndsUnplaced contents setting solving c topo header members part outcomes.Infeasible
          → IsWithinLimits solving.restarts work entries
      within_infeasible ends =
          ended_within topo.problem solving c.crew.issued part part [] (outcomes.Infeasible ends.0) ends.1 work entries
          inside

      within_spent : EndsUnplaced contents setting solving c topo header members part outcomes.Spent
          → IsWithinLimits solving.restarts work entries
      within_spent ends =
          ended_within topo.problem solving c.crew.issued part part [] (outcomes.Spent ends.0) ends.1 work entries inside

      solve_spent : (job : ℕ) (bad : Bad) (status : Status) → IsOverspent solving.restarts work entries job bad
          → Tells status → UnlessMemory (statuses.RestartsSpent phases.Solve job bad) status
      solve_spent job bad statuses.Done over tells =
          absurd (over_is_not_within solving.restarts work entries job bad over (within_placed tells.placed))
      solve_spent job bad statuses.Infeasible over tells =
          absurd (over_is_not_within solving.restarts work entries job bad over (within_infeasible tells))
      solve_spent job bad (statuses.SearchBudget nodes) over tells =
          absurd (over_is_not_within solving.restarts work entries job bad over (within_spent tells.1))
      solve_spent job bad (statuses.RestartsSpent phases.Solve other more) over tells =
          let P : Plan → List Entry → Type 0 = λ plan log. IsSpent plan c.crew c.crew_after log other more in
          let is = whole_search topo.problem solving c.crew.issued P part tells tells.why.some_open work entries
          inside in
          let found = spent_is_over topo.problem solving c.crew.issued c.crew c.crew_after other more part work tells
          inside.reads in
          let told = subst (λ (log : List Entry). IsOverspent solving.restarts work log job bad) is over in
          let one = one_overspent topo.problem solving.nodes solving.restarts work part other job more bad inside.reads
          found.0 told in
          inl (spent_as phases.Solve job other bad more one.0 one.1)
      solve_spent job bad (statuses.RestartsSpent phases.Replay other more) over tells =
          absurd (over_is_not_within solving.restarts work entries job bad over (within_placed tells.placed))
      solve_spent job bad (statuses.StaleLimit phases.Solve) over tells =
          let is = whole_search topo.problem solving c.crew.issued IsStale part tells tells.why.some_open work entries
          inside in
          let told = subst (λ (log : List Entry). IsOverspent solving.restarts work log job bad) is over in
          absurd (over_is_not_few solving.restarts work part job bad told
          (stale_is_full topo.problem solving c.crew.issued part work tells inside.reads).1)
      solve_spent job bad (statuses.StaleLimit phases.Replay) over tells =
          absurd (over_is_not_within solving.restarts work entries job bad over (within_placed tells.placed))
      solve_spent job bad statuses.Memory over tells = inr refl
      solve_spent job bad _ over tells = absurd tells

      solve_stale : (status : Status) → stale_in work entries ≡ 4096 → Tells status
          → UnlessMemory (statuses.StaleLimit phases.Solve) status
      solve_stale statuses.Done full tells =
          absurd (full_is_not_within solving.restarts work entries full (within_placed tells.placed))
      solve_stale statuses.Infeasible full tells =
          absurd (full_is_not_within solving.restarts work entries full (within_infeasible tells))
      solve_stale (statuses.SearchBudget nodes) full tells =
          absurd (full_is_not_within solving.restarts work entries full (within_spent tells.1))
      solve_stale (statuses.RestartsSpent phases.Solve job bad) full tells =
          let P : Plan → List Entry → Type 0 = λ plan log. IsSpent plan c.crew c.crew_after log job bad in
          let is = whole_search topo.problem solving c.crew.issued P part tells tells.why.some_open work entries
          inside in
          let found = spent_is_over topo.problem solving c.crew.issued c.crew c.crew_after job bad part work tells
          inside.reads in
          absurd (omega (arith, full, ap (stale_in work) is, found.1))
      solve_stale (statuses.RestartsSpent phases.Replay job bad) full tells =
          absurd (full_is_not_within solving.restarts work entries full (within_placed tells.placed))
      solve_stale (statuses.StaleLimit phases.Solve) full tells = inl refl
      solve_stale (statuses.StaleLimit phases.Replay) full tells =
          absurd (full_is_not_within solving.restarts work entries full (within_placed tells.placed))
      solve_stale statuses.Memory full tells = inr refl
      solve_stale _ full tells = absurd tells

    -- Of the replays.
    module _ (inside : InReplaying setting solving topo header members part work entries) where
      replay_spent : (job : ℕ) (bad : Bad) (status : Status) → IsOverspent solving.restarts work entries job bad
          → Tells status → UnlessMemory (statuses.RestartsSpent phases.Replay job bad) status
      replay_spent job bad statuses.Done over tells =
          absurd (over_is_not_within solving.restarts work entries job bad over
          (gathered_entries contents setting solving c topo header members part work entries inside tells))
      replay_spent job bad statuses.Infeasible over tells =
          absurd (not_infeasible contents setting solving c topo header members part work entries inside tells)
      replay_spent job bad (statuses.SearchBudget nodes) over tells =
          absurd (not_spent contents setting solving c topo header members part work entries inside tells.1)
      replay_spent job bad (statuses.RestartsSpent phases.Solve other more) over tells =
          absurd (none_divided topo.problem solving c.crew.issued
          (λ plan log. IsSpent plan c.crew c.crew_after log other more) part tells tells.why.some_open inside.search
          inside.solve entries inside.searches inside.divides)
      replay_spent job bad (statuses.RestartsSpent phases.Replay other more) over tells =
          let found = spent_entries contents setting solving c topo header members part work entries inside other more
          tells in
          elim (cases_eq job other) [
            | inl same ↦ inl (spent_as phases.Replay job other bad more (sym same)
                (sym found.0.counts ∙ ap (bad_in work entries) (sym same) ∙ over.counts))
            | inr apart ↦ absurd (omega (arith, ap total over.counts, over.spent, found.1 job over.known apart))
          ]
      replay_spent job bad (statuses.StaleLimit phases.Solve) over tells =
          absurd (none_divided topo.problem solving c.crew.issued IsStale part tells tells.why.some_open inside.search
          inside.solve entries inside.searches inside.divides)
      replay_spent job bad (statuses.StaleLimit phases.Replay) over tells =
          absurd (over_is_not_few solving.restarts work entries job bad over
          (stale_entries contents setting solving c topo header members part work entries inside tells).1)
      replay_spent job bad statuses.Memory over tells = inr refl
      replay_spent job bad _ over tells = absurd tells

      replay_stale : (status : Status) → stale_in work entries ≡ 4096 → Tells status
          → UnlessMemory (statuses.StaleLimit phases.Replay) status
      replay_stale statuses.Done full tells =
          absurd (full_is_not_within solving.restarts work entries full
          (gathered_entries contents setting solving c topo header members part work entries inside tells))
      replay_stale statuses.Infeasible full tells =
          absurd (not_infeasible contents setting solving c topo header members part work entries inside tells)
      replay_stale (statuses.SearchBudget nodes) full tells =
          absurd (not_spent contents setting solving c topo header members part work entries inside tells.1)
      replay_stale (statuses.RestartsSpent phases.Solve job bad) full tells =
          absurd (none_divided topo.problem solving c.crew.issued
          (λ plan log. IsSpent plan c.crew c.crew_after log job bad) part tells tells.why.some_open inside.search
          inside.solve entries inside.searches inside.divides)
      replay_stale (statuses.RestartsSpent phases.Replay job bad) full tells =
          let found = spent_entries contents setting solving c topo header members part work entries inside job bad
          tells in
          absurd (omega (arith, full, found.2))
      replay_stale (statuses.StaleLimit phases.Solve) full tells =
          absurd (none_divided topo.problem solving c.crew.issued IsStale part tells tells.why.some_open inside.search
          inside.solve entries inside.searches inside.divides)
      replay_stale (statuses.StaleLimit phases.Replay) full tells = inl refl
      replay_stale statuses.Memory full tells = inr refl
      replay_stale _ full tells = absurd tells

-- an ending under its status
ended : (problem : Problem) (nodes : ℕ) (status : Status)
    → (status ≡ statuses.Done) ⊎ ((status ≡ statuses.Infeasible)
    ⊎ ((status ≡ statuses.SearchBudget nodes) ⊎ (status ≡ statuses.Memory)))
    → ((placement : List ℕ) → first_fit problem ≡ Some placement → UnlessMemory statuses.Done status)
    → (whole problem < nodes → status ≡ statuses.SearchBudget nodes → ⊥) → IsEnding problem nodes status
ended problem nodes status ending fitting ample = record { ending = ending; fitting = fitting; ample = ample }

module _ (contents : Contents) (setting : Setting) (solving : Solving) (c : CrewCall) (topo : Topo) (header : Header)
    (members : List Record) (part : List Entry)
    (within : (phase : Phase) (work : Work) (entries : List Entry)
    → InPhase setting solving topo header members part phase work entries
    → IsWithinLimits solving.restarts work entries)
  where
    -- where the limits were kept in both phases, no child was given up
    not_solve_spent : (job : ℕ) (bad : Bad)
        → searching.GivesUp topo.problem solving c.crew.issued
        (λ plan log. IsSpent plan c.crew c.crew_after log job bad) part → ⊥
    not_solve_spent job bad given =
        let P : Plan → List Entry → Type 0 = λ plan log. IsSpent plan c.crew c.crew_after log job bad in
        let inside = given_up_search topo.problem solving c.crew.issued P part given given.why.some_open in
        let over = spent_is_over topo.problem solving c.crew.issued c.crew c.crew_after job bad part given.plan.work
        given inside.reads in
        over_is_not_within solving.restarts given.plan.work part job bad over.0
        (within phases.Solve given.plan.work part inside)

    not_solve_stale : searching.GivesUp topo.problem solving c.crew.issued IsStale part → ⊥
    not_solve_stale given =
        let inside = given_up_search topo.problem solving c.crew.issued IsStale part given given.why.some_open in
        let full = stale_is_full topo.problem solving c.crew.issued part given.plan.work given inside.reads in
        full_is_not_within solving.restarts given.plan.work part full.0 (within phases.Solve given.plan.work part inside)

    not_replay_spent : (job : ℕ) (bad : Bad)
        → HasGivenUp contents setting solving c topo header members part
        (λ plan log. IsSpent plan c.crew c.crew_after log job bad) → ⊥
    not_replay_spent job bad has =
        let P : Plan → List Entry → Type 0 = λ plan log. IsSpent plan c.crew c.crew_after log job bad in
        let inside = given_up_replays contents setting solving c topo header members part P has in
        let work = has.gives_up.plan.work in
        let over = spent_entries contents setting solving c topo header members part work has.placed.replay inside job
        bad has in
        over_is_not_within solving.restarts work has.placed.replay job bad over.0
        (within phases.Replay work has.placed.replay inside)

    not_replay_stale : HasGivenUp contents setting solving c topo header members part IsStale → ⊥
    not_replay_stale has =
        let inside = given_up_replays contents setting solving c topo header members part IsStale has in
        let work = has.gives_up.plan.work in
        let full = stale_entries contents setting solving c topo header members part work has.placed.replay inside has in
        full_is_not_within solving.restarts work has.placed.replay full.0
        (within phases.Replay work has.placed.replay inside)

    told_ends : (status : Status) → ToldAnswers contents setting solving c topo header members part status
        → IsEnding topo.problem solving.nodes status
    told_ends statuses.Done tells =
        ended topo.problem solving.nodes statuses.Done (inl refl) (λ placement first. inl refl)
        (λ more same. absurd (cc))
    told_ends statuses.Infeasible tells =
        ended topo.problem solving.nodes statuses.Infeasible (inr (inl refl))
        (λ placement first. absurd (tells.1.finds.shows placement (first_fit_fits topo.problem placement first)))
        (λ more same. absurd (cc))
    told_ends (statuses.SearchBudget nodes) tells =
        let few = tells.1.1.finds.shows.few in
        let none = tells.1.1.finds.shows.no_first_fit in
        ended topo.problem solving.nodes (statuses.SearchBudget nodes)
        (inr (inr (inl (ap (λ (n : ℕ). statuses.SearchBudget n) tells.0))))
        (λ placement first. absurd (cc)) (λ more same. absurd (omega (arith, more, few)))
    told_ends (statuses.RestartsSpent phases.Solve job bad) tells = absurd (not_solve_spent job bad tells)
    told_ends (statuses.RestartsSpent phases.Replay job bad) tells = absurd (not_replay_spent job bad tells)
    told_ends (statuses.StaleLimit phases.Solve) tells = absurd (not_solve_stale tells)
    told_ends (statuses.StaleLimit phases.Replay) tells = absurd (not_replay_stale tells)
    told_ends statuses.Memory tells =
        ended topo.problem solving.nodes statuses.Memory (inr (inr (inr refl))) (λ placement first. inr refl)
        (λ more same. absurd (cc))
    told_ends _ tells = absurd tells

module _ (form : Form) (contents : Contents) (setting : Setting) (solving : Solving) (c : CrewCall) (topo : Topo)
    (header : Header) (members : List Record) (part : List Entry)
    (told : IsToldMeasure contents setting solving c topo header members part)
  where
    -- within the limits the work ends with an outcome
    pub measure_ends : (status : Status)
        → ((phase : Phase) (work : Work) (entries : List Entry)
        → InPhase setting solving topo header members part phase work entries
        → IsWithinLimits solving.restarts work entries)
        → MeasureAnswers form contents setting solving c status → IsEnding topo.problem solving.nodes status
    measure_ends status within answers =
        told_ends contents setting solving c topo header members part within status
        (told_answers contents setting solving c topo header members part told form status answers)

    -- a job of either phase with too many bad attempts is told
    pub measure_spent : (phase : Phase) (work : Work) (entries : List Entry) (job : ℕ) (bad : Bad) (status : Status)
        → InPhase setting solving topo header members part phase work entries
        → IsOverspent solving.restarts work entries job bad
        → MeasureAnswers form contents setting solving c status
        → UnlessMemory (statuses.RestartsSpent phase job bad) status
    measure_spent phases.Solve work entries job bad status inside over answers =
        solve_spent contents setting solving c topo header members part work entries inside job bad status over
        (told_answers contents setting solving c topo header members part told form status answers)
    measure_spent phases.Replay work entries job bad status inside over answers =
        replay_spent contents setting solving c topo header members part work entries inside job bad status over
        (told_answers contents setting solving c topo header members part told form status answers)

    -- and so is the 4,096th stale event of either
    pub measure_stale : (phase : Phase) (work : Work) (entries : List Entry) (status : Status)
        → InPhase setting solving topo header members part phase work entries → stale_in work entries ≡ 4096
        → MeasureAnswers form contents setting solving c status
        → UnlessMemory (statuses.StaleLimit phase) status
    measure_stale phases.Solve work entries status inside full answers =
        solve_stale contents setting solving c topo header members part work entries inside status full
        (told_answers contents setting solving c topo header members part told form status answers)
    measure_stale phases.Replay work entries status inside full answers =
        replay_stale contents setting solving c topo header members part work entries inside status full
        (told_answers contents setting solving c topo header members part told form status answers)
