-- The answers behind a topology that was read.
use Rattle.std.proofs.Common.{◌≡◌, ◌≤◌, ℕ, List, [], ◌∷◌, ◌++◌, Option, Some, None, sym, ◌∙◌, ap, subst, arith, inl, inr, append-nil, append_assoc}
use Rattle.mon_io.specs.Faults.{Rose}
use Rattle.mon_io.specs.Inputs.{InputState, IsLeft, IsOver, Picked}
use Rattle.mon_io.specs.Sink.{SinkState}
use Rattle.certificate_text.specs.declared.fault.CertFault.{CertFault}
use Rattle.job_format.specs.declared.fault.JobFault.{JobFault}
use Rattle.routed_trace.specs.declared.fault.TraceFault.{TraceFault}
use Rattle.topology.specs.declared.fault.TopologyFault.{TopologyFault}
use Rattle.mon_call.specs.Call.{Answers, Duty, IsSuffix, Picks, Reading, call_of, names_of, names_to, reading}
use Rattle.mon_call.specs.declared.status.Input.{Input}
use Rattle.mon_call.specs.declared.status.Input.TheVariants as inputs
use Rattle.mon_call.specs.declared.status.Status.{Status}
use Rattle.mon_call.specs.declared.status.Status.TheVariants.{Done, ReadFault, Topology, Trace, Certificate, Job, SinkFault, Memory}

-- what is left of an input behind another one is a suffix
pub suffix_left : (contents mid now : Option (List ℕ)) → IsOver mid → IsLeft contents mid now → IsSuffix contents now
suffix_left None mid now over left = tt
suffix_left (Some bytes) mid None over left = tt
suffix_left (Some bytes) (Some rest) (Some now) over (inl same) =
    let is : now ≡ [] = cc (same, over) in
    (bytes, sym (ap (λ (l : List ℕ). bytes ++ l) is ∙ append-nil bytes))
suffix_left (Some bytes) None (Some now) over (inl same) = absurd (cc)
suffix_left (Some bytes) mid (Some now) over (inr (front, took)) = let is = took.taken in (front, cc)

-- a rise behind a count that didn't fall
pub rose_later : (before mid now : ℕ) → before ≤ mid → Rose mid now → Rose before now
rose_later before mid now later rose = omega (arith, later, rose)

-- what one duty shows, the other shows, whose first input is a topology that was read
pub record IsBehind (inner outer : Duty) (before mid : Option (List ℕ)) : Type 0 where
  pub due : (text : List ℕ) → inner.due text → outer.due text
  pub unfit : (fault : TopologyFault) → inner.unfit fault → ⊥
  pub refused : (fault : TraceFault) → inner.refused fault → outer.refused fault
  pub uncertified : (fault : CertFault) → inner.uncertified fault → outer.uncertified fault
  pub misspelled : (fault : JobFault) → inner.misspelled fault → outer.misspelled fault
  pub left : (input : Input) (now : Option (List ℕ)) → inner.left input mid now → outer.left input before now
  pub once : (now : Option (List ℕ)) → inner.left inputs.Topology mid now → ⊥

pub answers_behind : {inner outer : Duty} (before mid after : InputState) (sink sink_after : SinkState)
    (status : Status)
    → IsBehind inner outer before.rest mid.rest → before.faults ≤ mid.faults
    → Answers inner (call_of mid after sink sink_after) status
    → Answers outer (call_of before after sink sink_after) status
answers_behind before mid after sink sink_after Done behind later answers =
    record { text = answers.text; is_due = behind.due answers.text answers.is_due; grew = answers.grew }
answers_behind before mid after sink sink_after (ReadFault input) behind later answers = (
  rose_later before.faults mid.faults after.faults later answers.0,
  behind.left input after.rest answers.1,
  answers.2,
)
answers_behind before mid after sink sink_after (Topology fault) behind later
    answers = absurd (behind.unfit fault answers.0)
answers_behind before mid after sink sink_after (Trace fault) behind later
    answers = (behind.refused fault answers.0, answers.1)
answers_behind before mid after sink sink_after (Certificate fault) behind later answers =
    (behind.uncertified fault answers.0, answers.1)
answers_behind before mid after sink sink_after (Job fault) behind later answers =
    (behind.misspelled fault answers.0, answers.1)
answers_behind before mid after sink sink_after SinkFault behind later answers = (
  answers.0,
  record { text = answers.1.text; is_due = behind.due answers.1.text answers.1.is_due; part = answers.1.part },
)
answers_behind before mid after sink sink_after Memory behind later answers = answers
answers_behind before mid after sink sink_after _ behind later answers = absurd answers

-- names that were picked in a row
pub picked_more : (a b c : List (List ℕ) → Type 0) (first second : List (List ℕ)) → Picked a b first → Picked b c second
    → Picked a c (first ++ second)
picked_more a b c first second one more = λ earlier stood.
    subst (λ (names : List (List ℕ)). c names) (append_assoc earlier first second)
    (more (earlier ++ first) (one earlier stood))

pub picks_behind : (a b c : List (List ℕ) → Type 0) {inner outer : Duty} (name : List ℕ) (more : List Reading)
    (before mid after : InputState) (sink sink_after : SinkState) (status : Status)
    → IsBehind inner outer before.rest mid.rest → Answers inner (call_of mid after sink sink_after) status
    → Picked a b (name ∷ []) → Picks b c more status → Picks a c (reading inputs.Topology name ∷ more) status
picks_behind a b c name more before mid after sink sink_after Done behind answers first picks = picked_more a b c
    (name ∷ []) (names_of more) first picks
picks_behind a b c name more before mid after sink sink_after (ReadFault inputs.Topology) behind answers first picks =
    absurd (behind.once after.rest answers.1)
picks_behind a b c name more before mid after sink sink_after (ReadFault inputs.Trace) behind answers first picks =
    picked_more a b c (name ∷ []) (names_to inputs.Trace more) first picks
picks_behind a b c name more before mid after sink sink_after (ReadFault inputs.Tree) behind answers first picks =
    picked_more a b c (name ∷ []) (names_to inputs.Tree more) first picks
picks_behind a b c name more before mid after sink sink_after (ReadFault inputs.Job) behind answers first picks =
    picked_more a b c (name ∷ []) (names_to inputs.Job more) first picks
picks_behind a b c name more before mid after sink sink_after (Topology fault) behind answers first
    picks = absurd (behind.unfit fault answers.0)
picks_behind a b c name more before mid after sink sink_after (Trace fault) behind answers first picks =
    picked_more a b c (name ∷ []) (names_to inputs.Trace more) first picks
picks_behind a b c name more before mid after sink sink_after (Certificate fault) behind answers first picks =
    picked_more a b c (name ∷ []) (names_to inputs.Tree more) first picks
picks_behind a b c name more before mid after sink sink_after (Job fault) behind answers first picks =
    picked_more a b c (name ∷ []) (names_to inputs.Job more) first picks
picks_behind a b c name more before mid after sink sink_after SinkFault behind answers first picks = picked_more a b c
    (name ∷ []) (names_of more) first picks
picks_behind a b c name more before mid after sink sink_after Memory behind answers first picks = record {
  front = name ∷ picks.front;
  back = picks.back;
  parts = ap (λ (names : List (List ℕ)). name ∷ names) picks.parts;
  picked = picked_more a b c (name ∷ []) picks.front first picks.picked;
}
picks_behind a b c name more before mid after sink sink_after _ behind answers first picks = absurd answers
