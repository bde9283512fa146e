-- Of a job that is told only one status is shown.
use Rattle.std.proofs.Common.{◌≡◌, ℕ, List, Option, Some, IfSome, Result, Ok, Err, refl, ap, subst}
use Rattle.job_format.proofs.Reading.{one_read}
use Rattle.job_format.specs.Job.{Job as AnyJob, SpellsJob}
use Rattle.job_format.specs.Read.{BreaksJob}
use Rattle.job_format.specs.declared.fault.JobFault.{JobFault}
use Rattle.mon_call.specs.Told.{IsTold, Shows}
use Rattle.mon_call.specs.declared.status.Status.{Status}
use Rattle.mon_call.specs.declared.status.Status.TheVariants.{Done, Job}
use Rattle.mon_child.specs.Duty.{TellsChild, child_duty}

-- what holds of told contents holds of their bytes
at_told : (contents : Option (List ℕ)) (bytes : List ℕ) (P : List ℕ → Type 0) → contents ≡ Some bytes
    → IfSome contents P → P bytes
at_told contents bytes P told holds = subst (λ (c : Option (List ℕ)). IfSome c P) told holds

-- bytes that spell a job have no breach, and others no two
no_breach : (bytes : List ℕ) (job : AnyJob) (fault : JobFault) → SpellsJob job bytes → BreaksJob bytes fault → ⊥
no_breach bytes job fault spells breaks =
    let read : Result AnyJob JobFault = Ok job in
    let other : Result AnyJob JobFault = Err fault in
    let same : read ≡ other = one_read bytes read other spells breaks in
    absurd (cc)

one_breach : (bytes : List ℕ) (fault other : JobFault) → BreaksJob bytes fault → BreaksJob bytes other → other ≡ fault
one_breach bytes fault other breaks more =
    let read : Result AnyJob JobFault = Err other in
    let also : Result AnyJob JobFault = Err fault in
    let same : read ≡ also = one_read bytes read also more breaks in
    cc

when_spelled : (contents : Option (List ℕ)) (status : Status) → TellsChild contents Done
    → Shows (child_duty contents) status
    → status ≡ Done
when_spelled contents Done told shows = refl
when_spelled contents (Job fault) told shows =
    absurd (no_breach told.0 told.2.0 fault told.2.1 (at_told contents told.0 (λ bytes. BreaksJob bytes fault) told.1
    shows))
when_spelled contents _ told shows = absurd shows

when_broken : (contents : Option (List ℕ)) (fault : JobFault) (status : Status) → TellsChild contents (Job fault)
    → Shows (child_duty contents) status → status ≡ Job fault
when_broken contents fault Done told shows =
    absurd (no_breach told.0 shows.1.job fault (at_told contents told.0 (λ bytes. SpellsJob shows.1.job bytes) told.1
    shows.1.spelled) told.2)
when_broken contents fault (Job other) told shows =
    ap Job (one_breach told.0 fault other told.2 (at_told contents told.0 (λ bytes. BreaksJob bytes other) told.1
    shows))
when_broken contents fault _ told shows = absurd shows

pub child_told : (contents : Option (List ℕ)) (wanted : Status) → TellsChild contents wanted
    → IsTold (child_duty contents) wanted
child_told contents Done told = record { alone = λ status shows. when_spelled contents status told shows }
child_told contents (Job fault) told = record { alone = λ status shows. when_broken contents fault status told shows }
child_told contents _ told = absurd told
