-- What `measure` answers, each status with its cause.
use Rattle.std.specs.Prelude.{◌≡◌, ◌⊎◌, ⊤, ℕ, List, [], ◌∷◌, Option, IfSome, Ok, Err}
use Rattle.change_report.specs.Form.{Form}
use Rattle.mon_io.specs.Faults.{Rose}
use Rattle.mon_call.specs.Call.{IsSilent, IsSuffix, Reading, Wrote, WrotePart, reading}
use Rattle.mon_call.specs.CrewCall.{CrewCall, IsIdle}
use Rattle.mon_call.specs.Told.{HasBytes}
use Rattle.mon_call.specs.Topology.{SpellTopology}
use Rattle.mon_call.specs.declared.setting.Setting.{Setting}
use Rattle.mon_call.specs.declared.status.Input.TheVariants as inputs
use Rattle.mon_call.specs.declared.status.Phase.TheVariants as phases
use Rattle.mon_call.specs.declared.status.Status.{Status}
use Rattle.mon_call.specs.declared.status.Status.TheVariants as statuses
use Rattle.mon_place.specs.Place.{IsInfeasible, IsSpentSearch, PlaceAnswers}
use Rattle.replay_supervisor.specs.Outcome.{IsSpent, IsStale}
use Rattle.routed_trace.specs.Scan.{HasTraceFault}
use Rattle.routed_trace.specs.declared.division.Division.{Division}
use Rattle.routed_trace.specs.declared.fault.TraceFault.{TraceFault}
use Rattle.solve_phase.specs.declared.solving.Solving.{Solving}
use Rattle.topology.specs.Topology.{Topo, topology_of}
use Rattle.measure_answers.specs.Replayed.{Contents, GivesUpReplays, HasReplies, IsMeasured, IsTraced}

-- what is read: the topology, and then the trace
abbrev pub measure_reads : List ℕ → List ℕ → List Reading
measure_reads topology trace = reading inputs.Topology topology ∷ reading inputs.Trace trace ∷ []

-- told contents spell some topology
abbrev pub HasTopology : Contents → Type 0
HasTopology contents = (topo : Topo) × SpellTopology contents.topology topo

-- told contents come to this fault first, in the order of the file
abbrev pub IsRefused : Option (List ℕ) → Division → TraceFault → Type 0
IsRefused contents division fault = IfSome contents (λ bytes. HasTraceFault division bytes fault)

module _ (form : Form) (contents : Contents) (setting : Setting) (solving : Solving) (c : CrewCall) where
  -- Where no placement was found, it answers as `place` does, of a trace that is told.
  abbrev pub AsPlace : Status → Type 0
  AsPlace status = PlaceAnswers contents.topology solving c status × IsTraced contents.trace setting.division

  -- the text of a search without a placement
  abbrev pub IsUnplaced : List ℕ → Type 0
  IsUnplaced text =
      (IsInfeasible contents.topology solving c text ⊎ IsSpentSearch contents.topology solving c text)
      × IsTraced contents.trace setting.division

  -- Each status with its cause: the topology as `place` says, the trace, the search as `place` says, the replays, and
  -- the last write. Want of memory is free.
  abbrev pub MeasureAnswers : Status → Type 0
  MeasureAnswers statuses.Done = Wrote (IsMeasured contents setting solving c form) c.call
  MeasureAnswers statuses.Infeasible = AsPlace statuses.Infeasible
  MeasureAnswers (statuses.SearchBudget nodes) = AsPlace (statuses.SearchBudget nodes)
  MeasureAnswers statuses.SinkFault =
      Rose c.call.sink.faults c.call.sink_after.faults
      × (WrotePart (IsMeasured contents setting solving c form) c.call ⊎ WrotePart IsUnplaced c.call)
  MeasureAnswers (statuses.ReadFault inputs.Topology) =
      PlaceAnswers contents.topology solving c (statuses.ReadFault inputs.Topology)
  MeasureAnswers (statuses.ReadFault inputs.Trace) =
      Rose c.call.inputs.faults c.call.inputs_after.faults × HasTopology contents
      × IsSuffix contents.trace c.call.inputs_after.rest × IsIdle c × IsSilent c.call
  MeasureAnswers (statuses.Topology fault) = PlaceAnswers contents.topology solving c (statuses.Topology fault)
  MeasureAnswers (statuses.Trace fault) =
      HasTopology contents × IsRefused contents.trace setting.division fault × IsIdle c × IsSilent c.call
  MeasureAnswers (statuses.RestartsSpent phases.Solve job bad) = AsPlace (statuses.RestartsSpent phases.Solve job bad)
  MeasureAnswers (statuses.RestartsSpent phases.Replay job bad) =
      GivesUpReplays contents setting solving c (λ plan log. IsSpent plan c.crew c.crew_after log job bad)
      × IsSilent c.call
  MeasureAnswers (statuses.StaleLimit phases.Solve) = AsPlace (statuses.StaleLimit phases.Solve)
  MeasureAnswers (statuses.StaleLimit phases.Replay) =
      GivesUpReplays contents setting solving c IsStale × IsSilent c.call
  MeasureAnswers statuses.Memory =
      PlaceAnswers contents.topology solving c statuses.Memory
      ⊎ ((GivesUpReplays contents setting solving c (λ plan log. ⊤) ⊎ HasReplies contents setting solving c)
      × IsSilent c.call)
  MeasureAnswers _ = ⊥

-- what is read is told, and so is this status: that the topology has this first fault, or the trace behind one without
abbrev pub TellsMeasure : Contents → Division → Status → Type 0
TellsMeasure contents division (statuses.Topology fault) =
    HasBytes contents.topology (λ bytes. topology_of bytes ≡ Err fault)
TellsMeasure contents division (statuses.Trace fault) =
    HasBytes contents.topology (λ bytes. (topo : Topo) × (topology_of bytes ≡ Ok topo))
    × HasBytes contents.trace (λ bytes. HasTraceFault division bytes fault)
TellsMeasure contents division _ = ⊥
