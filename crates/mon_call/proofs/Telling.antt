-- A call without a fault answers what is told, unless memory runs out.
use Rattle.std.proofs.Common.{inl, inr, refl}
use Rattle.mon_call.specs.Call.{Answers, Call, Duty, UnlessMemory}
use Rattle.mon_call.specs.Told.{IsSmooth, IsTold}
use Rattle.mon_call.specs.declared.status.Status.{Status}
use Rattle.mon_call.specs.declared.status.Status.TheVariants.{Done, ReadFault, Topology, Trace, Certificate, Job, SinkFault, Memory}

pub tells : (duty : Duty) (call : Call) (wanted status : Status) → IsTold duty wanted → IsSmooth call
    → Answers duty call status
    → UnlessMemory wanted status
tells duty call wanted Done told smooth answers = inl (told.alone Done (answers.text, answers.is_due))
tells duty call wanted (ReadFault input) told smooth answers = absurd (smooth.inputs answers.0)
tells duty call wanted (Topology fault) told smooth answers = inl (told.alone (Topology fault) answers.0)
tells duty call wanted (Trace fault) told smooth answers = inl (told.alone (Trace fault) answers.0)
tells duty call wanted (Certificate fault) told smooth answers = inl (told.alone (Certificate fault) answers.0)
tells duty call wanted (Job fault) told smooth answers = inl (told.alone (Job fault) answers.0)
tells duty call wanted SinkFault told smooth answers = absurd (smooth.sink answers.0)
tells duty call wanted Memory told smooth answers = inr refl
tells duty call wanted _ told smooth answers = absurd answers
