-- A search over children in this process is calm.
use Rattle.std.proofs.Common.{◌≡◌, ◌⊎◌, ℕ, List, [], ◌++◌, Option, Some, Ok, sym, ◌∙◌, ap, subst, inl, inr}
use Rattle.std.specs.Prelude.{⊤}
use Rattle.std.proofs.lemmas.List.{append_cancel_right}
use Rattle.std.proofs.lemmas.Option.{same_Some}
use Rattle.bound_certificate.specs.declared.outcome.Outcome.{Outcome}
use Rattle.bound_certificate.specs.declared.outcome.Outcome.TheVariants as outcomes
use Rattle.calm_logs.proofs.Parts.{none_calm}
use Rattle.calm_logs.proofs.Searches.{calm_found, calm_given_up}
use Rattle.calm_logs.proofs.Told.{calm_told}
use Rattle.calm_logs.specs.Calm.{IsCalm}
use Rattle.child_worker.specs.Replies.{AnswersBytes, IsRefused}
use Rattle.crew.specs.Crew.{CrewState}
use Rattle.crew.specs.Log.{AreAnswered, Entry}
use Rattle.inline_crew.specs.InOrder.{InOrder}
use Rattle.mon_call.specs.CrewCall.{CrewCall, IsIdle}
use Rattle.mon_call.specs.Told.{HasBytes}
use Rattle.mon_call.specs.declared.status.Input.TheVariants as inputs
use Rattle.mon_call.specs.declared.status.Phase.TheVariants as phases
use Rattle.mon_call.specs.declared.status.Status.{Status}
use Rattle.mon_call.specs.declared.status.Status.TheVariants as statuses
use Rattle.mon_place.proofs.Told.{told_given_up, told_outcome}
use Rattle.mon_place.specs.Place.{HasOutcome, IsGivenUp, PlaceAnswers}
use Rattle.mon_place.specs.Told.{HasLog}
use Rattle.replay_supervisor.specs.Jobs.{Work}
use Rattle.replay_supervisor.specs.Outcome.{IsSpent, IsStale}
use Rattle.replay_supervisor.specs.Steps.{Plan}
use Rattle.solve_phase.specs.Solving.{IsSolving}
use Rattle.solve_phase.specs.Told.{ReadsSearch}
use Rattle.solve_phase.specs.declared.solving.Solving.{Solving}
use Rattle.topology.specs.Topology.{Topo, topology_of}

-- what is told of a call: its topology, the part of its log, that it is in order and answered, and how it is read
pub record IsInlineSearch (contents : Option (List ℕ)) (solving : Solving) (c : CrewCall) (topo : Topo) (work : Work)
    (part : List Entry) : Type 0 where
  pub limits : IsSolving solving
  pub topology : HasBytes contents (λ bytes. topology_of bytes ≡ Ok topo)
  pub log : HasLog c part
  pub order : InOrder part
  pub answered : AreAnswered AnswersBytes IsRefused part
  pub reads : ReadsSearch topo.problem solving.nodes work

-- a crew that is as it was has no new entry
idle_calm : (c : CrewCall) (work : Work) (part : List Entry) → HasLog c part → IsIdle c → IsCalm work part
idle_calm c work part log idle =
    let same : part ++ log.log ≡ [] ++ log.log = same_Some (part ++ log.log) log.log
    (sym log.after ∙ ap (λ (s : CrewState). s.log) idle ∙ log.before) in
    subst (λ (p : List Entry). IsCalm work p) (sym (append_cancel_right part [] log.log same)) (none_calm work)

outcome_calm : (contents : Option (List ℕ)) (solving : Solving) (c : CrewCall) (outcome : Outcome) (topo : Topo)
    (work : Work) (part : List Entry)
    → IsInlineSearch contents solving c topo work part → HasOutcome contents solving c outcome → IsCalm work part
outcome_calm contents solving c outcome topo work part is has =
    calm_found topo.problem solving c.crew.issued part outcome work is.limits
    (told_outcome contents solving c outcome topo part is.topology is.log has) is.order is.answered is.reads

given_up_calm : (contents : Option (List ℕ)) (solving : Solving) (c : CrewCall) (P : Plan → List Entry → Type 0)
    (topo : Topo) (work : Work) (part : List Entry)
    → IsInlineSearch contents solving c topo work part → IsGivenUp contents solving c P → IsCalm work part
given_up_calm contents solving c P topo work part is given =
    calm_given_up topo.problem solving c.crew.issued P part work is.limits
    (told_given_up contents solving c P topo part is.topology is.log given) is.order is.answered is.reads

-- whatever the status
pub answers_calm : (contents : Option (List ℕ)) (solving : Solving) (c : CrewCall) (topo : Topo) (work : Work)
    (part : List Entry) (status : Status)
    → IsInlineSearch contents solving c topo work part → PlaceAnswers contents solving c status → IsCalm work part
answers_calm contents solving c topo work part statuses.Done is answers =
    outcome_calm contents solving c (outcomes.Placed answers.is_due.0 answers.is_due.1) topo work part is
    answers.is_due.2.has
answers_calm contents solving c topo work part statuses.Infeasible is answers =
    outcome_calm contents solving c (outcomes.Infeasible answers.is_due.0) topo work part is answers.is_due.1.has
answers_calm contents solving c topo work part (statuses.SearchBudget nodes) is answers =
    outcome_calm contents solving c (outcomes.Spent answers.1.is_due.0) topo work part is answers.1.is_due.1.has
answers_calm contents solving c topo work part statuses.SinkFault is answers =
    outcome_calm contents solving c answers.1.is_due.0 topo work part is answers.1.is_due.1.has
answers_calm contents solving c topo work part (statuses.ReadFault inputs.Topology) is answers =
    idle_calm c work part is.log answers.2
answers_calm contents solving c topo work part (statuses.Topology fault) is answers =
    idle_calm c work part is.log answers.1
answers_calm contents solving c topo work part (statuses.RestartsSpent phases.Solve job bad) is answers =
    given_up_calm contents solving c (λ plan log. IsSpent plan c.crew c.crew_after log job bad) topo work part is
    answers.0
answers_calm contents solving c topo work part (statuses.StaleLimit phases.Solve) is answers =
    given_up_calm contents solving c IsStale topo work part is answers.0
answers_calm contents solving c topo work part statuses.Memory is (inl idle, silent) =
    idle_calm c work part is.log idle
answers_calm contents solving c topo work part statuses.Memory is (inr (inl given), silent) =
    given_up_calm contents solving c (λ plan log. ⊤) topo work part is given
answers_calm contents solving c topo work part statuses.Memory is (inr (inr (outcome, has)), silent) =
    outcome_calm contents solving c outcome topo work part is has
answers_calm contents solving c topo work part _ is answers = absurd answers

-- the same of a log that began in the call, as the crew tells it
pub told_calm : (entries : List Entry) (contents : Option (List ℕ)) (solving : Solving) (c : CrewCall) (topo : Topo)
    (work : Work) (part : List Entry) (status : Status)
    → c.crew.log ≡ Some [] → Some entries ≡ c.crew_after.log → ∥ InOrder entries ∥₁
    → ∥ AreAnswered AnswersBytes IsRefused entries ∥₁ → IsIdle c ⊎ IsSolving solving
    → HasBytes contents (λ bytes. topology_of bytes ≡ Ok topo) → HasLog c part
    → ReadsSearch topo.problem solving.nodes work → PlaceAnswers contents solving c status → IsCalm work part
told_calm entries contents solving c topo work part status fresh told order answered (inl idle) topology log reads
    answers = idle_calm c work part log idle
told_calm entries contents solving c topo work part status fresh told order answered (inr limits) topology log reads
    answers =
    let empty : log.log ≡ [] = same_Some log.log [] (sym log.before ∙ fresh) in
    let same : entries ≡ part ++ [] = same_Some entries (part ++ log.log) (told ∙ log.after)
    ∙ ap (λ (l : List Entry). part ++ l) empty in
    calm_told AnswersBytes IsRefused work part (subst (λ (l : List Entry). ∥ InOrder l ∥₁) same order)
    (subst (λ (l : List Entry). ∥ AreAnswered AnswersBytes IsRefused l ∥₁) same answered)
    (λ ordered replied. answers_calm contents solving c topo work part status
    (record {
      limits = limits;
      topology = topology;
      log = log;
      order = ordered;
      answered = replied;
      reads = reads;
    })
    answers)
