-- An input that work reads piece by piece.
use Rattle.std.proofs.Common.{◌≡◌, ℕ, ◌≤◌, List, [], ◌++◌, Option, Some, None, refl, sym, ◌∙◌, subst, append-nil, append_assoc, arith}
use Rattle.std.specs.Prelude.{IfSome}
use Rattle.mon_io.specs.Inputs.{InputState, IsOver, Took}
use Rattle.mon_io.proofs.Told.{took_more, took_nothing}
use Rattle.job_format.specs.Job.{SpellsJob}
use Rattle.job_format.specs.Read.{BreaksJob}
use Rattle.job_format.specs.declared.fault.JobFault.{JobFault}
use Rattle.child_worker.specs.Child.{IsMisspelled, IsReplied}
use Rattle.child_worker.specs.Replies.{AnswersBytes}
use Rattle.child_worker.specs.Reading.{BreaksOff, status_at}
use Rattle.child_worker.specs.Work.{HasWorked, StopsAt}
use Rattle.child_worker.specs.declared.stop.WorkStop.{WorkStop}
use Rattle.child_worker.specs.declared.stop.WorkStop.TheVariants as stops
use Rattle.child_worker.specs.declared.work.Work.{Work}

-- work has taken what was read
pub record HasRead (before now : InputState) (work : Work) : Type 0 where
  pub bytes : List ℕ
  pub took : Took before.rest now.rest bytes
  pub worked : HasWorked work bytes
  pub stays : now.contents ≡ before.contents
  pub later : before.faults ≤ now.faults

pub read_nothing : (state : InputState) (work : Work) → HasWorked work [] → HasRead state state work
read_nothing state work start = record {
  bytes = [];
  took = took_nothing state.rest;
  worked = start;
  stays = refl;
  later = omega arith;
}

-- told bytes that begin with those taken: what holds of these and any rest holds of them
told_before : (before now : Option (List ℕ)) (bytes : List ℕ) (P : List ℕ → Type 0) → Took before now bytes
    → ((rest : List ℕ) → P (bytes ++ rest)) → IfSome before P
told_before None now bytes P took holds = tt
told_before (Some told) None bytes P took holds = let is = took.taken in absurd (cc)
told_before (Some told) (Some rest) bytes P took holds =
    let is = took.taken in
    let same : told ≡ bytes ++ rest = cc in
    subst P (sym same) (holds rest)

-- no job, where what was taken and a piece break it, whatever follows
misspelled : {before mid now : Option (List ℕ)} (bytes piece : List ℕ) (fault : JobFault) → Took before mid bytes
    → Took mid now piece → ((rest : List ℕ) → BreaksJob (bytes ++ (piece ++ rest)) fault) → IsMisspelled before fault
misspelled {before} {mid} {now} bytes piece fault first second breach =
    let P : List ℕ → Type 0 = λ told. BreaksJob told fault in
    told_before before now (bytes ++ piece) P (took_more first second)
    (λ rest. subst P (sym (append_assoc bytes piece rest)) (breach rest))

-- told bytes that were taken to their end: what holds of those taken holds of them
told_all : (before now : Option (List ℕ)) (bytes : List ℕ) (P : List ℕ → Type 0) → Took before now bytes → IsOver now
    → P bytes → IfSome before P
told_all None now bytes P took over holds = tt
told_all (Some told) None bytes P took over holds = let is = took.taken in absurd (cc)
told_all (Some told) (Some rest) bytes P took over holds =
    let is = took.taken in
    let same : told ≡ bytes ++ [] = cc in
    subst P (sym (same ∙ append-nil bytes)) holds

misspelled_all : {before now : Option (List ℕ)} {bytes : List ℕ} (fault : JobFault) → Took before now bytes
    → IsOver now → BreaksJob bytes fault → IsMisspelled before fault
misspelled_all {before} {now} {bytes} fault took over breach =
    told_all before now bytes (λ told. BreaksJob told fault) took over breach

pub replied : {before now : Option (List ℕ)} {bytes : List ℕ} (reply : List ℕ) → Took before now bytes → IsOver now
    → AnswersBytes bytes reply → IsReplied before reply
replied {before} {now} {bytes} reply took over answers = record {
  job = answers.0;
  spelled = told_all before now bytes (λ told. SpellsJob answers.0 told) took over answers.1;
  answers = answers.2;
}

-- a stop of work, in the midst of an input and behind its end
pub stopped_within : (before after : InputState) (mid : Option (List ℕ)) (bytes piece : List ℕ) (stop : WorkStop)
    → Took before.rest mid bytes → Took mid after.rest piece
    → ((rest : List ℕ) → StopsAt (bytes ++ (piece ++ rest)) stop) → BreaksOff before after (status_at stop)
stopped_within before after mid bytes piece (stops.Fault fault) first second breach =
    misspelled bytes piece fault first second breach
stopped_within before after mid bytes piece stops.Memory first second breach = tt

pub stopped_behind : (before after : InputState) (bytes : List ℕ) (stop : WorkStop) → Took before.rest after.rest bytes
    → IsOver after.rest → StopsAt bytes stop → BreaksOff before after (status_at stop)
stopped_behind before after bytes (stops.Fault fault) took over breach = misspelled_all fault took over breach
stopped_behind before after bytes stops.Memory took over breach = tt

-- a piece more
pub read_on : (before mid after : InputState) (old new : Work) (piece : List ℕ) (read : HasRead before mid old)
    → Took mid.rest after.rest piece → after.contents ≡ mid.contents → mid.faults ≤ after.faults
    → ((bytes : List ℕ) → HasWorked old bytes → HasWorked new (bytes ++ piece)) → HasRead before after new
read_on before mid after old new piece read took stays later takes = record {
  bytes = read.bytes ++ piece;
  took = took_more read.took took;
  worked = takes read.bytes read.worked;
  stays = stays ∙ read.stays;
  later = omega (arith, read.later, later);
}
