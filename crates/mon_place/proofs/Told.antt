-- What `place` answers where the topology and the log are told.
use Rattle.std.proofs.Common.{◌≡◌, ◌<◌, ◌≤◌, ◌⊎◌, ℕ, List, Option, Some, Ok, refl, sym, ap, subst, arith, inl, inr}
use Rattle.bound_certificate.proofs.FirstFit.{first_fit_fits}
use Rattle.bound_certificate.specs.Placement.{first_fit}
use Rattle.bound_certificate.specs.Problem.{Problem}
use Rattle.bound_certificate.specs.Whole.{whole}
use Rattle.bound_certificate.specs.declared.outcome.Outcome.{Outcome}
use Rattle.bound_certificate.specs.declared.outcome.Outcome.TheVariants as outcomes
use Rattle.crew.specs.Log.{Entry}
use Rattle.mon_call.proofs.Topologies.{at_bytes, bad_or_good, good_or_bad, one_topology_fault}
use Rattle.mon_call.specs.Call.{UnlessMemory}
use Rattle.mon_call.specs.CrewCall.{CrewCall}
use Rattle.mon_call.specs.Told.{HasBytes, IsSmooth}
use Rattle.mon_call.specs.Topology.{IsUnfit, SpellTopology}
use Rattle.mon_call.specs.declared.status.Input.TheVariants as inputs
use Rattle.mon_call.specs.declared.status.Phase.TheVariants as phases
use Rattle.mon_call.specs.declared.status.Status.{Status}
use Rattle.mon_call.specs.declared.status.Status.TheVariants as statuses
use Rattle.replay_core.specs.Book.{total}
use Rattle.replay_core.specs.declared.bad.Bad.{Bad}
use Rattle.replay_supervisor.specs.Jobs.{Work}
use Rattle.replay_supervisor.specs.Outcome.{IsSpent, IsStale}
use Rattle.replay_supervisor.specs.Reading.{bad_in, stale_in}
use Rattle.replay_supervisor.specs.Steps.{Plan}
use Rattle.solve_phase.proofs.Counts.{full_is_not_within, one_overspent, one_part, over_is_not_few, over_is_not_within, spent_is_over, stale_is_full, within_limits}
use Rattle.solve_phase.specs.Phase.{Finds, GivesUp}
use Rattle.solve_phase.specs.Told.{IsOverspent, IsWithinLimits}
use Rattle.solve_phase.specs.declared.solving.Solving.{Solving}
use Rattle.topology.specs.Topology.{Topo, topology_of}
use Rattle.topology.specs.declared.fault.TopologyFault.{TopologyFault}
use Rattle.mon_place.specs.Place.{HasOutcome, IsGivenUp, PlaceAnswers}
use Rattle.mon_place.specs.Told.{HasLog, IsEnding, IsToldPlace, TellsPlace}

-- told contents spell one topology
one_topology : {contents : Option (List ℕ)} (topo other : Topo)
    → HasBytes contents (λ bytes. topology_of bytes ≡ Ok topo) → SpellTopology contents other → other ≡ topo
one_topology topo other told spells =
    let own = at_bytes (λ bytes. topology_of bytes ≡ Ok other) told.1 spells in
    let is = told.2 in cc

-- an outcome is one of the told topology, and of the told part of the log
pub told_outcome : (contents : Option (List ℕ)) (solving : Solving) (c : CrewCall) (outcome : Outcome) (topo : Topo)
    (part : List Entry)
    → HasBytes contents (λ bytes. topology_of bytes ≡ Ok topo) → HasLog c part
    → HasOutcome contents solving c outcome → Finds topo.problem solving c.crew.issued part outcome
told_outcome contents solving c outcome topo part told log has =
    let same = one_topology topo has.topo told has.spells in
    let parts = one_part c.crew c.crew_after log.log part has.found.solve log.before log.after has.found.grows.log in
    subst (λ (t : Topo). Finds t.problem solving c.crew.issued part outcome) same
    (subst (λ (p : List Entry). Finds has.topo.problem solving c.crew.issued p outcome) (sym parts) has.found.finds)

-- and so is a search that was given up
pub told_given_up : (contents : Option (List ℕ)) (solving : Solving) (c : CrewCall) (P : Plan → List Entry → Type 0)
    (topo : Topo) (part : List Entry)
    → HasBytes contents (λ bytes. topology_of bytes ≡ Ok topo) → HasLog c part → IsGivenUp contents solving c P
    → GivesUp topo.problem solving c.crew.issued P part
told_given_up contents solving c P topo part told log given =
    let same = one_topology topo given.topo told given.spells in
    let parts = one_part c.crew c.crew_after log.log part given.ends.solve log.before log.after given.ends.grows.log in
    subst (λ (t : Topo). GivesUp t.problem solving c.crew.issued P part) same
    (subst (λ (p : List Entry). GivesUp given.topo.problem solving c.crew.issued P p) (sym parts) given.ends.gives_up)

-- by any work that reads its log, a search whose restarts were spent is overspent
told_spent : (contents : Option (List ℕ)) (solving : Solving) (c : CrewCall) (topo : Topo) (work : Work)
    (part : List Entry) (job : ℕ) (bad : Bad)
    → IsToldPlace contents solving.nodes c topo work part
    → IsGivenUp contents solving c (λ plan log. IsSpent plan c.crew c.crew_after log job bad)
    → IsOverspent solving.restarts work part job bad × (stale_in work part < 4096)
told_spent contents solving c topo work part job bad is given =
    spent_is_over topo.problem solving c.crew.issued c.crew c.crew_after job bad part work
    (told_given_up contents solving c (λ plan log. IsSpent plan c.crew c.crew_after log job bad) topo part is.topology
    is.log given) is.reads

-- and one that was given up after stale events is full of them
told_stale : (contents : Option (List ℕ)) (solving : Solving) (c : CrewCall) (topo : Topo) (work : Work)
    (part : List Entry)
    → IsToldPlace contents solving.nodes c topo work part → IsGivenUp contents solving c IsStale
    → (stale_in work part ≡ 4096) × ((job : ℕ) → job < work.count → total (bad_in work part job) ≤ solving.restarts)
told_stale contents solving c topo work part is given =
    stale_is_full topo.problem solving c.crew.issued part work
    (told_given_up contents solving c IsStale topo part is.topology is.log given) is.reads

-- a told topology has no fault
no_fault : (contents : Option (List ℕ)) (solving : Solving) (c : CrewCall) (topo : Topo) (work : Work)
    (part : List Entry) (fault : TopologyFault)
    → IsToldPlace contents solving.nodes c topo work part → IsUnfit contents fault → ⊥
no_fault contents solving c topo work part fault is unfit =
    good_or_bad contents fault (is.topology.0, is.topology.1, (topo, is.topology.2)) unfit

-- what the ending of a search says of the statuses beside it
ended : (problem : Problem) (nodes : ℕ) (status : Status)
    → (status ≡ statuses.Done) ⊎ ((status ≡ statuses.Infeasible)
    ⊎ ((status ≡ statuses.SearchBudget nodes) ⊎ (status ≡ statuses.Memory)))
    → ((placement : List ℕ) → first_fit problem ≡ Some placement → UnlessMemory statuses.Done status)
    → (whole problem < nodes → status ≡ statuses.SearchBudget nodes → ⊥) → IsEnding problem nodes status
ended problem nodes status ending fitting ample = record { ending = ending; fitting = fitting; ample = ample }

-- where each job has few bad attempts and few events are stale, the search ends with an outcome
pub place_ends : (contents : Option (List ℕ)) (solving : Solving) (c : CrewCall) (topo : Topo) (work : Work)
    (part : List Entry) (status : Status)
    → IsToldPlace contents solving.nodes c topo work part → IsWithinLimits solving.restarts work part
    → PlaceAnswers contents solving c status → IsEnding topo.problem solving.nodes status
place_ends contents solving c topo work part statuses.Done is within answers =
    ended topo.problem solving.nodes statuses.Done (inl refl) (λ placement first. inl refl) (λ more same. absurd (cc))
place_ends contents solving c topo work part statuses.Infeasible is within answers =
    let finds = told_outcome contents solving c (outcomes.Infeasible answers.is_due.0) topo part is.topology
    is.log answers.is_due.1.has in
    ended topo.problem solving.nodes statuses.Infeasible (inr (inl refl))
    (λ placement first. absurd (finds.shows placement (first_fit_fits topo.problem placement first)))
    (λ more same. absurd (cc))
place_ends contents solving c topo work part (statuses.SearchBudget nodes) is within answers =
    let finds = told_outcome contents solving c (outcomes.Spent answers.1.is_due.0) topo part is.topology
    is.log answers.1.is_due.1.has in
    let few = finds.shows.few in
    let none = finds.shows.no_first_fit in
    ended topo.problem solving.nodes (statuses.SearchBudget nodes)
    (inr (inr (inl (ap (λ (n : ℕ). statuses.SearchBudget n) answers.0))))
    (λ placement first. absurd (cc)) (λ more same. absurd (omega (arith, more, few)))
place_ends contents solving c topo work part statuses.SinkFault is within answers = absurd (is.smooth.sink answers.0)
place_ends contents solving c topo work part (statuses.ReadFault inputs.Topology) is within answers =
    absurd (is.smooth.inputs answers.0)
place_ends contents solving c topo work part (statuses.Topology fault) is within answers =
    absurd (no_fault contents solving c topo work part fault is answers.0)
place_ends contents solving c topo work part (statuses.RestartsSpent phases.Solve job bad) is within answers =
    let over = told_spent contents solving c topo work part job bad is answers.0 in
    absurd (over_is_not_within solving.restarts work part job bad over.0 within)
place_ends contents solving c topo work part (statuses.StaleLimit phases.Solve) is within answers =
    let full = told_stale contents solving c topo work part is answers.0 in
    absurd (full_is_not_within solving.restarts work part full.0 within)
place_ends contents solving c topo work part statuses.Memory is within answers =
    ended topo.problem solving.nodes statuses.Memory (inr (inr (inr refl))) (λ placement first. inr refl)
    (λ more same. absurd (cc))
place_ends contents solving c topo work part _ is within answers = absurd answers

-- an outcome comes only within the limits
outcome_within : (contents : Option (List ℕ)) (solving : Solving) (c : CrewCall) (outcome : Outcome) (topo : Topo)
    (work : Work) (part : List Entry)
    → IsToldPlace contents solving.nodes c topo work part → HasOutcome contents solving c outcome
    → IsWithinLimits solving.restarts work part
outcome_within contents solving c outcome topo work part is has =
    within_limits topo.problem solving c.crew.issued part outcome work
    (told_outcome contents solving c outcome topo part is.topology is.log has) is.reads

-- a job with too many bad attempts is told
pub place_spent : (contents : Option (List ℕ)) (solving : Solving) (c : CrewCall) (topo : Topo) (work : Work)
    (part : List Entry) (job : ℕ) (bad : Bad) (status : Status)
    → IsToldPlace contents solving.nodes c topo work part → IsOverspent solving.restarts work part job bad
    → PlaceAnswers contents solving c status → UnlessMemory (statuses.RestartsSpent phases.Solve job bad) status
place_spent contents solving c topo work part job bad statuses.Done is over answers =
    absurd (over_is_not_within solving.restarts work part job bad over (outcome_within contents solving c
    (outcomes.Placed answers.is_due.0 answers.is_due.1) topo work part is answers.is_due.2.has))
place_spent contents solving c topo work part job bad statuses.Infeasible is over answers =
    absurd (over_is_not_within solving.restarts work part job bad over (outcome_within contents solving c
    (outcomes.Infeasible answers.is_due.0) topo work part is answers.is_due.1.has))
place_spent contents solving c topo work part job bad (statuses.SearchBudget nodes) is over answers =
    absurd (over_is_not_within solving.restarts work part job bad over (outcome_within contents solving c
    (outcomes.Spent answers.1.is_due.0) topo work part is answers.1.is_due.1.has))
place_spent contents solving c topo work part job bad statuses.SinkFault is over answers =
    absurd (is.smooth.sink answers.0)
place_spent contents solving c topo work part job bad (statuses.ReadFault inputs.Topology) is over answers =
    absurd (is.smooth.inputs answers.0)
place_spent contents solving c topo work part job bad (statuses.Topology fault) is over answers =
    absurd (no_fault contents solving c topo work part fault is answers.0)
place_spent contents solving c topo work part job bad (statuses.RestartsSpent phases.Solve other more) is over answers =
    let found = told_spent contents solving c topo work part other more is answers.0 in
    let one = one_overspent topo.problem solving.nodes solving.restarts work part other job more bad is.reads found.0
    over in
    inl (cc (one.0, one.1))
place_spent contents solving c topo work part job bad (statuses.StaleLimit phases.Solve) is over answers =
    absurd (over_is_not_few solving.restarts work part job bad over
    (told_stale contents solving c topo work part is answers.0).1)
place_spent contents solving c topo work part job bad statuses.Memory is over answers = inr refl
place_spent contents solving c topo work part job bad _ is over answers = absurd answers

-- the 4,096th stale event is told
pub place_stale : (contents : Option (List ℕ)) (solving : Solving) (c : CrewCall) (topo : Topo) (work : Work)
    (part : List Entry) (status : Status)
    → IsToldPlace contents solving.nodes c topo work part → stale_in work part ≡ 4096
    → PlaceAnswers contents solving c status → UnlessMemory (statuses.StaleLimit phases.Solve) status
place_stale contents solving c topo work part statuses.Done is full answers =
    absurd (full_is_not_within solving.restarts work part full (outcome_within contents solving c
    (outcomes.Placed answers.is_due.0 answers.is_due.1) topo work part is answers.is_due.2.has))
place_stale contents solving c topo work part statuses.Infeasible is full answers =
    absurd (full_is_not_within solving.restarts work part full (outcome_within contents solving c
    (outcomes.Infeasible answers.is_due.0) topo work part is answers.is_due.1.has))
place_stale contents solving c topo work part (statuses.SearchBudget nodes) is full answers =
    absurd (full_is_not_within solving.restarts work part full (outcome_within contents solving c
    (outcomes.Spent answers.1.is_due.0) topo work part is answers.1.is_due.1.has))
place_stale contents solving c topo work part statuses.SinkFault is full answers = absurd (is.smooth.sink answers.0)
place_stale contents solving c topo work part (statuses.ReadFault inputs.Topology) is full answers =
    absurd (is.smooth.inputs answers.0)
place_stale contents solving c topo work part (statuses.Topology fault) is full answers =
    absurd (no_fault contents solving c topo work part fault is answers.0)
place_stale contents solving c topo work part (statuses.RestartsSpent phases.Solve job bad) is full answers =
    let found = told_spent contents solving c topo work part job bad is answers.0 in
    absurd (omega (arith, full, found.1))
place_stale contents solving c topo work part (statuses.StaleLimit phases.Solve) is full answers = inl refl
place_stale contents solving c topo work part statuses.Memory is full answers = inr refl
place_stale contents solving c topo work part _ is full answers = absurd answers

-- a fault of the topology is told
pub place_unfit : (contents : Option (List ℕ)) (solving : Solving) (c : CrewCall) (fault : TopologyFault)
    (status : Status)
    → IsSmooth c.call → TellsPlace contents (statuses.Topology fault) → PlaceAnswers contents solving c status
    → UnlessMemory (statuses.Topology fault) status
place_unfit contents solving c fault statuses.Done smooth told answers =
    let has = answers.is_due.2.has in absurd (bad_or_good contents fault has.topo told has.spells)
place_unfit contents solving c fault statuses.Infeasible smooth told answers =
    let has = answers.is_due.1.has in absurd (bad_or_good contents fault has.topo told has.spells)
place_unfit contents solving c fault (statuses.SearchBudget nodes) smooth told answers =
    let has = answers.1.is_due.1.has in absurd (bad_or_good contents fault has.topo told has.spells)
place_unfit contents solving c fault statuses.SinkFault smooth told answers = absurd (smooth.sink answers.0)
place_unfit contents solving c fault (statuses.ReadFault inputs.Topology) smooth told answers =
    absurd (smooth.inputs answers.0)
place_unfit contents solving c fault (statuses.Topology other) smooth told answers =
    inl (ap statuses.Topology (one_topology_fault contents fault other told answers.0))
place_unfit contents solving c fault (statuses.RestartsSpent phases.Solve job bad) smooth told answers =
    absurd (bad_or_good contents fault answers.0.topo told answers.0.spells)
place_unfit contents solving c fault (statuses.StaleLimit phases.Solve) smooth told answers =
    absurd (bad_or_good contents fault answers.0.topo told answers.0.spells)
place_unfit contents solving c fault statuses.Memory smooth told answers = inr refl
place_unfit contents solving c fault _ smooth told answers = absurd answers
