-- What `child` owes.
use Rattle.std.specs.Prelude.{ℕ, List, [], ◌∷◌, Option, codes}
use Rattle.mon_io.specs.Inputs.{IsLeft}
use Rattle.child_worker.specs.Child.{IsMisspelled, IsReplied}
use Rattle.job_format.specs.Job.{Job as AnyJob, SpellsJob}
use Rattle.job_format.specs.Read.{BreaksJob}
use Rattle.mon_call.specs.Call.{Duty, Reading, reading}
use Rattle.mon_call.specs.Told.{HasBytes}
use Rattle.mon_call.specs.declared.status.Input.{Input}
use Rattle.mon_call.specs.declared.status.Input.TheVariants as inputs
use Rattle.mon_call.specs.declared.status.Status.{Status}
use Rattle.mon_call.specs.declared.status.Status.TheVariants.{Done, Job}

-- what is read: the job, from standard input
abbrev pub child_reads : List Reading
child_reads = reading inputs.Job (codes "-") ∷ []

-- what is left of the job
abbrev pub child_left : Option (List ℕ) → Input → Option (List ℕ) → Option (List ℕ) → Type 0
child_left contents inputs.Topology before now = ⊥
child_left contents inputs.Trace before now = ⊥
child_left contents inputs.Tree before now = ⊥
child_left contents inputs.Job before now = IsLeft contents before now

-- what the command owes, of the contents of standard input: a reply to the job that they spell
abbrev pub child_duty : Option (List ℕ) → Duty
child_duty contents = record {
  reads = child_reads;
  due = IsReplied contents;
  unfit = λ fault. ⊥;
  refused = λ fault. ⊥;
  uncertified = λ fault. ⊥;
  misspelled = IsMisspelled contents;
  left = child_left contents;
}

-- the job is told, and so is this status: that it is spelled, or its first breach
abbrev pub TellsChild : Option (List ℕ) → Status → Type 0
TellsChild contents Done = HasBytes contents (λ bytes. (job : AnyJob) × SpellsJob job bytes)
TellsChild contents (Job fault) = HasBytes contents (λ bytes. BreaksJob bytes fault)
TellsChild contents _ = ⊥
