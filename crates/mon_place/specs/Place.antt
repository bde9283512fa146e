-- What `place` answers, each status with its cause.
use Rattle.std.specs.Prelude.{◌≡◌, ◌⊎◌, ⊤, ℕ, List, [], ◌∷◌, Option}
use Rattle.bound_certificate.specs.declared.outcome.Outcome.{Outcome}
use Rattle.bound_certificate.specs.declared.outcome.Outcome.TheVariants as outcomes
use Rattle.bound_certificate.specs.declared.placement.Placement.{Placement}
use Rattle.bound_certificate.specs.declared.tree.Tree.{Tree}
use Rattle.crew.specs.Log.{Entry}
use Rattle.mon_io.specs.Faults.{Rose}
use Rattle.mon_io.specs.Inputs.{IsLeft}
use Rattle.mon_io.specs.Sink.{Grew, GrewByPart, SinkState}
use Rattle.mon_words.specs.Values.{Values}
use Rattle.mon_call.specs.Call.{IsSilent, Reading, Wrote, WrotePart, reading}
use Rattle.mon_call.specs.CrewCall.{CrewCall, IsIdle}
use Rattle.mon_call.specs.Topology.{IsUnfit, SpellTopology}
use Rattle.mon_call.specs.declared.status.Input.TheVariants as inputs
use Rattle.mon_call.specs.declared.status.Phase.{Phase}
use Rattle.mon_call.specs.declared.status.Phase.TheVariants as phases
use Rattle.mon_call.specs.declared.status.Status.{Status}
use Rattle.mon_call.specs.declared.status.Status.TheVariants as statuses
use Rattle.outcome_report.specs.Outcome.{outcome_text}
use Rattle.replay_supervisor.specs.Outcome.{IsSpent, IsStale}
use Rattle.replay_supervisor.specs.Steps.{Plan}
use Rattle.replay_supervisor.specs.declared.stop.Stop.{Stop}
use Rattle.replay_supervisor.specs.declared.stop.Stop.TheVariants as stops
use Rattle.solve_phase.specs.Phase.{EndsSearch, HasFound, verdict_on}
use Rattle.solve_phase.specs.declared.solving.Solving.{Solving}
use Rattle.topology.specs.Topology.{Topo}

-- the numbers of a search, as words give them
abbrev pub solving_in : Values → Solving
solving_in values = record { nodes = values.nodes; window = values.window; restarts = values.restarts }

-- what is read: the topology
abbrev pub place_reads : List ℕ → List Reading
place_reads topology = reading inputs.Topology topology ∷ []

-- told contents spell a topology, and a child has found this outcome for its problem, which is right
pub record HasOutcome (contents : Option (List ℕ)) (solving : Solving) (c : CrewCall) (outcome : Outcome) : Type 0 where
  pub topo : Topo
  pub spells : SpellTopology contents topo
  pub found : HasFound topo.problem solving c.crew c.crew_after outcome

-- this is the text of that outcome
pub record IsOutcome (contents : Option (List ℕ)) (solving : Solving) (c : CrewCall) (outcome : Outcome)
    (text : List ℕ) : Type 0 where
  pub has : HasOutcome contents solving c outcome
  pub lines : text ≡ outcome_text has.topo solving.nodes outcome (verdict_on has.topo.problem outcome)

-- the text of a placement, of a proof that none fits, of a search that spent its nodes, and of any of the three
abbrev pub IsPlaced : Option (List ℕ) → Solving → CrewCall → List ℕ → Type 0
IsPlaced contents solving c text =
    (placement : Placement) × (tree : Tree) × IsOutcome contents solving c (outcomes.Placed placement tree) text

abbrev pub IsInfeasible : Option (List ℕ) → Solving → CrewCall → List ℕ → Type 0
IsInfeasible contents solving c text = (tree : Tree) × IsOutcome contents solving c (outcomes.Infeasible tree) text

abbrev pub IsSpentSearch : Option (List ℕ) → Solving → CrewCall → List ℕ → Type 0
IsSpentSearch contents solving c text = (tree : Tree) × IsOutcome contents solving c (outcomes.Spent tree) text

abbrev pub IsAnyOutcome : Option (List ℕ) → Solving → CrewCall → List ℕ → Type 0
IsAnyOutcome contents solving c text = (outcome : Outcome) × IsOutcome contents solving c outcome text

-- told contents spell a topology, and the children that searched were given up, for a reason
pub record IsGivenUp (contents : Option (List ℕ)) (solving : Solving) (c : CrewCall) (P : Plan → List Entry → Type 0)
    : Type 0 where
  pub topo : Topo
  pub spells : SpellTopology contents topo
  pub ends : EndsSearch topo.problem solving c.crew c.crew_after P

-- Each status with its cause. Want of memory is free; the crew was not asked then, or the search was given up, or ended.
abbrev pub PlaceAnswers : Option (List ℕ) → Solving → CrewCall → Status → Type 0
PlaceAnswers contents solving c statuses.Done = Wrote (IsPlaced contents solving c) c.call
PlaceAnswers contents solving c statuses.Infeasible = Wrote (IsInfeasible contents solving c) c.call
PlaceAnswers contents solving c (statuses.SearchBudget nodes) =
    (nodes ≡ solving.nodes) × Wrote (IsSpentSearch contents solving c) c.call
PlaceAnswers contents solving c statuses.SinkFault =
    Rose c.call.sink.faults c.call.sink_after.faults × WrotePart (IsAnyOutcome contents solving c) c.call
PlaceAnswers contents solving c (statuses.ReadFault inputs.Topology) =
    Rose c.call.inputs.faults c.call.inputs_after.faults
    × IsLeft contents c.call.inputs.rest c.call.inputs_after.rest × IsIdle c × IsSilent c.call
PlaceAnswers contents solving c (statuses.Topology fault) = IsUnfit contents fault × IsIdle c × IsSilent c.call
PlaceAnswers contents solving c (statuses.RestartsSpent phases.Solve job bad) =
    IsGivenUp contents solving c (λ plan log. IsSpent plan c.crew c.crew_after log job bad) × IsSilent c.call
PlaceAnswers contents solving c (statuses.StaleLimit phases.Solve) =
    IsGivenUp contents solving c IsStale × IsSilent c.call
PlaceAnswers contents solving c statuses.Memory =
    (IsIdle c ⊎ IsGivenUp contents solving c (λ plan log. ⊤)
    ⊎ ((outcome : Outcome) × HasOutcome contents solving c outcome)) × IsSilent c.call
PlaceAnswers contents solving c _ = ⊥

-- the status of a search that found this outcome, whose text was written
abbrev pub status_of : ℕ → Outcome → Status
status_of nodes (outcomes.Placed placement tree) = statuses.Done
status_of nodes (outcomes.Infeasible tree) = statuses.Infeasible
status_of nodes (outcomes.Spent tree) = statuses.SearchBudget nodes

-- the status of a phase in which children were given up
abbrev pub stop_status : Phase → Stop → Status
stop_status phase (stops.RestartsSpent job bad) = statuses.RestartsSpent phase job bad
stop_status phase stops.StaleLimit = statuses.StaleLimit phase
stop_status phase stops.Memory = statuses.Memory

-- How a text is reported: it was written under this status, or a prefix of it where the sink failed, or nothing where
-- memory ran out.
abbrev pub Reports : List ℕ → Status → SinkState → SinkState → Status → Type 0
Reports text wanted before after status =
    ((status ≡ wanted) × Grew before.written after.written text)
    ⊎ (((status ≡ statuses.SinkFault) × (Rose before.faults after.faults
    × GrewByPart before.written after.written text))
    ⊎ ((status ≡ statuses.Memory) × (after.written ≡ before.written)))
