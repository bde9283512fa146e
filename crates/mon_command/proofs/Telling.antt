-- Of what is told only one status is shown, and a call without a fault answers it.
use Rattle.std.proofs.Common.{◌≡◌, ℕ, List, Option, Result, Ok, codes, refl, ap, subst}
use Rattle.mon_words.specs.declared.usage_fault.UsageFault.{UsageFault}
use Rattle.pcap_reader.specs.Trace.{Record, Broken, IsTrace}
use Rattle.pcap_reader.specs.declared.fault.PcapFault.{PcapFault}
use Rattle.pcap_reader.proofs.Traces.{not_both, one_fault}
use Rattle.routed_trace.specs.declared.fault.TraceFault.TheVariants.{Pcap}
use Rattle.mon_call.specs.Call.{Call, UnlessMemory}
use Rattle.mon_call.specs.CrewCall.{CrewCall}
use Rattle.mon_call.specs.Told.{IsSmooth, IsTold, Shows}
use Rattle.mon_call.specs.declared.status.Status.{Status}
use Rattle.mon_call.specs.declared.status.Status.TheVariants.{Done, Topology, Trace}
use Rattle.mon_call.proofs.Telling.{tells}
use Rattle.mon_call.proofs.Topologies.{at_bytes}
use Rattle.mon_central.proofs.Told.{central_told}
use Rattle.mon_check.proofs.Told.{check_told}
use Rattle.mon_child.proofs.Told.{child_told}
use Rattle.mon_place.proofs.Told.{place_unfit}
use Rattle.mon_place.specs.Place.{PlaceAnswers}
use Rattle.mon_place.specs.Told.{TellsPlace}
use Rattle.solve_phase.specs.declared.solving.Solving.{Solving}
use Rattle.change_report.specs.Form.{Form, Whole, Brief}
use Rattle.measure_answers.specs.Measure.{MeasureAnswers, TellsMeasure}
use Rattle.measure_answers.specs.Replayed.{Contents, contents_of}
use Rattle.measure_told.proofs.Faults.{measure_refused, measure_unfit}
use Rattle.mon_call.specs.CrewCall.{crew_call_of}
use Rattle.mon_call.specs.declared.setting.Setting.{Setting}
use Rattle.mon_drill.specs.Drill.{made_for}
use Rattle.mon_generate.proofs.Told.{generate_told}
use Rattle.mon_command.specs.Asked.{AloneCommand, Asked, Alone, Place, Measure, Drill, Total, Central, Check, Child, Generate}
use Rattle.mon_command.specs.Outcome.{Answered, CrewOutcome, IsCalm, Outcome, Placed, Tells, TellsAlone, duty_of}
use Rattle.mon_command.specs.Total.{TellsTotal, total_duty}

when_accepted : (contents : Option (List ℕ)) (trace : List ℕ) (status : Status) → TellsTotal contents Done
    → Shows (total_duty contents trace) status → status ≡ Done
when_accepted contents trace Done told shows = refl
when_accepted contents trace (Trace (Pcap fault)) told shows =
    let broken = at_bytes (λ bytes. (members : List Record) × Broken bytes members fault) told.1 shows in
    absurd (not_both told.0 told.2.0 told.2.1 broken.0 fault told.2.2 broken.1)
when_accepted contents trace _ told shows = absurd shows

when_broken : (contents : Option (List ℕ)) (trace : List ℕ) (fault : PcapFault) (status : Status)
    → TellsTotal contents (Trace (Pcap fault))
    → Shows (total_duty contents trace) status → status ≡ Trace (Pcap fault)
when_broken contents trace fault Done told shows =
    let due = shows.1 in
    let is = at_bytes (λ bytes. IsTrace bytes due.is_count.header due.is_count.members) told.1 due.is_count.trace in
    absurd (not_both told.0 due.is_count.header due.is_count.members told.2.0 fault is told.2.1)
when_broken contents trace fault (Trace (Pcap other)) told shows =
    let broken = at_bytes (λ bytes. (members : List Record) × Broken bytes members other) told.1 shows in
    ap (λ (f : PcapFault). Trace (Pcap f)) (one_fault told.0 broken.0 told.2.0 other fault broken.1 told.2.1).1
when_broken contents trace fault _ told shows = absurd shows

total_told : (contents : Option (List ℕ)) (trace : List ℕ) (wanted : Status) → TellsTotal contents wanted
    → IsTold (total_duty contents trace) wanted
total_told contents trace Done told = record { alone = λ status shows. when_accepted contents trace status told shows }
total_told contents trace (Trace (Pcap fault)) told = record {
  alone = λ status shows. when_broken contents trace fault
      status told shows;
}
total_told contents trace _ told = absurd told

is_told : (asked : AloneCommand) (call : Call) (wanted : Status) → TellsAlone call asked wanted
    → IsTold (duty_of call.inputs.contents asked) wanted
is_told (Total trace) call wanted told = total_told (call.inputs.contents trace) trace wanted told
is_told (Central trace topology setting) call wanted told = central_told call.inputs.contents trace topology setting
    wanted told
is_told (Check topology tree) call wanted told = check_told call.inputs.contents topology tree wanted told
is_told Child call wanted told = child_told (call.inputs.contents (codes "-")) wanted told
is_told (Generate part seed packets flows) call wanted told = generate_told part seed packets flows wanted told

-- a command that starts nobody
alone_told : (before after : List (List ℕ) → Type 0) (asked : AloneCommand) (call : Call) (wanted status : Status)
    → Answered before after asked call status → IsSmooth call → TellsAlone call asked wanted
    → UnlessMemory wanted status
alone_told before after asked call wanted status answered smooth told =
    tells (duty_of call.inputs.contents asked) call wanted status (is_told asked call wanted told) smooth
    answered.answers

pub answers_told : (before after : List (List ℕ) → Type 0) (read : Result Asked UsageFault) (asked : Asked)
    (call : Call) (wanted status : Status)
    → Outcome before after read call status → IsCalm read asked call → Tells call asked wanted
    → UnlessMemory wanted status
answers_told before after read (Alone asked) call wanted status outcome calm told =
    alone_told before after asked call wanted status
    (subst (λ (r : Result Asked UsageFault). Outcome before after r call status) calm.taken outcome) calm.smooth told
answers_told before after read (Place topology solving) call wanted status outcome calm told =
    absurd (subst (λ (r : Result Asked UsageFault). Outcome before after r call status) calm.taken outcome)
answers_told before after read (Measure topology trace setting solving) call wanted status outcome calm told =
    absurd (subst (λ (r : Result Asked UsageFault). Outcome before after r call status) calm.taken outcome)
answers_told before after read (Drill packets flows setting solving) call wanted status outcome calm told =
    absurd (subst (λ (r : Result Asked UsageFault). Outcome before after r call status) calm.taken outcome)

-- of a topology whose placement is asked for, only a fault is told
placed_told : (topology : List ℕ) (solving : Solving) (c : CrewCall) (wanted status : Status)
    → PlaceAnswers (c.call.inputs.contents topology) solving c status → IsSmooth c.call
    → TellsPlace (c.call.inputs.contents topology) wanted → UnlessMemory wanted status
placed_told topology solving c (Topology fault) status answers smooth told =
    place_unfit (c.call.inputs.contents topology) solving c fault status smooth told answers
placed_told topology solving c _ status answers smooth told = absurd told

-- of what is measured, only a fault is told
measured_told : (form : Form) (contents : Contents) (setting : Setting) (solving : Solving) (c : CrewCall)
    (wanted status : Status) → MeasureAnswers form contents setting solving c status → IsSmooth c.call
    → TellsMeasure contents setting.division wanted → UnlessMemory wanted status
measured_told form contents setting solving c (Topology fault) status answers smooth told =
    measure_unfit form contents setting solving c smooth fault status told answers
measured_told form contents setting solving c (Trace fault) status answers smooth told =
    measure_refused form contents setting solving c smooth fault status told.0 told.1 answers
measured_told form contents setting solving c _ status answers smooth told = absurd told

pub crew_told : (before after : List (List ℕ) → Type 0) (read : Result Asked UsageFault) (asked : Asked)
    (c : CrewCall) (wanted status : Status)
    → CrewOutcome before after read c status → IsCalm read asked c.call → Tells c.call asked wanted
    → UnlessMemory wanted status
crew_told before after read (Alone asked) c wanted status outcome calm told =
    let answered = subst (λ (r : Result Asked UsageFault). CrewOutcome before after r c status) calm.taken outcome in
    alone_told before after asked c.call wanted status answered.0 calm.smooth told
crew_told before after read (Place topology solving) c wanted status outcome calm told =
    let placed = subst (λ (r : Result Asked UsageFault). CrewOutcome before after r c status) calm.taken outcome in
    placed_told topology solving c wanted status placed.answers calm.smooth told
crew_told before after read (Measure topology trace setting solving) c wanted status outcome calm told =
    let measured = subst (λ (r : Result Asked UsageFault). CrewOutcome before after r c status) calm.taken outcome in
    measured_told Whole (contents_of c.call.inputs topology trace) setting solving c wanted status measured.answers
    calm.smooth told
crew_told before after read (Drill packets flows setting solving) c wanted status outcome calm told =
    let drilled = subst (λ (r : Result Asked UsageFault). CrewOutcome before after r c status) calm.taken outcome in
    measured_told Brief (made_for setting.seed packets flows) setting solving
    (crew_call_of drilled.drills.files drilled.drills.files_after c.crew c.crew_after c.call.sink c.call.sink_after)
    wanted status drilled.drills.answers
    (record { inputs = drilled.drills.calm; sink = calm.smooth.sink }) told

-- what was asked of children, where the words ask for a placement
pub placed : (before after : List (List ℕ) → Type 0) (read : Result Asked UsageFault) (topology : List ℕ)
    (solving : Solving) (c : CrewCall) (status : Status)
    → CrewOutcome before after read c status → read ≡ Ok (Place topology solving)
    → Placed before after topology solving c status
placed before after read topology solving c status outcome taken =
    subst (λ (r : Result Asked UsageFault). CrewOutcome before after r c status) taken outcome
