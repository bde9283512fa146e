-- Which status comes where what is read is told, and so is the crew's log.
use Rattle.std.specs.Prelude.{◌≡◌, ◌⊎◌, ◌<◌, ℕ, List, ◌++◌, Option, Some, Ok, Err}
use Rattle.bound_certificate.specs.Placement.{first_fit}
use Rattle.bound_certificate.specs.Problem.{Problem}
use Rattle.bound_certificate.specs.Whole.{whole}
use Rattle.crew.specs.Log.{Entry}
use Rattle.mon_call.specs.Call.{UnlessMemory}
use Rattle.mon_call.specs.CrewCall.{CrewCall}
use Rattle.mon_call.specs.Told.{HasBytes, IsSmooth}
use Rattle.mon_call.specs.declared.status.Status.{Status}
use Rattle.mon_call.specs.declared.status.Status.TheVariants as statuses
use Rattle.replay_supervisor.specs.Jobs.{Work}
use Rattle.solve_phase.specs.Told.{ReadsSearch}
use Rattle.topology.specs.Topology.{Topo, topology_of}

-- the topology is told, and so is its fault
abbrev pub TellsPlace : Option (List ℕ) → Status → Type 0
TellsPlace contents (statuses.Topology fault) = HasBytes contents (λ bytes. topology_of bytes ≡ Err fault)
TellsPlace contents _ = ⊥

-- the log is told, and these entries were appended to it
pub record HasLog (c : CrewCall) (part : List Entry) : Type 0 where
  pub log : List Entry
  pub before : c.crew.log ≡ Some log
  pub after : c.crew_after.log ≡ Some (part ++ log)

-- No count of inputs or sink rose, the topology is told without a fault, and so is the part of the log, with work by
-- which it is read.
pub record IsToldPlace (contents : Option (List ℕ)) (nodes : ℕ) (c : CrewCall) (topo : Topo) (work : Work)
    (part : List Entry) : Type 0 where
  pub smooth : IsSmooth c.call
  pub topology : HasBytes contents (λ bytes. topology_of bytes ≡ Ok topo)
  pub log : HasLog c part
  pub reads : ReadsSearch topo.problem nodes work

-- The work ended with an outcome, unless memory ran out: with a placement where first fit places every path; and the
-- search is not spent where it had more nodes than a tree can have.
pub record IsEnding (problem : Problem) (nodes : ℕ) (status : Status) : Type 0 where
  pub ending : (status ≡ statuses.Done) ⊎ ((status ≡ statuses.Infeasible)
      ⊎ ((status ≡ statuses.SearchBudget nodes) ⊎ (status ≡ statuses.Memory)))
  pub fitting : (placement : List ℕ) → first_fit problem ≡ Some placement → UnlessMemory statuses.Done status
  pub ample : whole problem < nodes → status ≡ statuses.SearchBudget nodes → ⊥
