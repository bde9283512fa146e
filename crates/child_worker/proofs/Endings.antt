-- The end of a job, and what answers it.
use Rattle.std.proofs.Common.{◌≡◌, ℕ, List, Option, Some, None, Result, Ok, Err, arith, refl, true, inl, inr}
use Rattle.std.specs.Prelude.{IfOk, ◌⊎◌}
use Rattle.std.proofs.lemmas.List.{get_or_default}
use Rattle.bound_certificate.specs.Limits.{IsWithin}
use Rattle.bound_certificate.specs.Outcome.{is_right}
use Rattle.bound_certificate.specs.Problem.{Problem}
use Rattle.bound_certificate.specs.declared.outcome.Outcome.{Outcome}
use Rattle.bound_certificate.specs.declared.outcome.Outcome.TheVariants as outcomes
use Rattle.bound_certificate.proofs.Fitting.{fitting}
use Rattle.bound_certificate.proofs.Meanings.{right_formed, right_shows}
use Rattle.child_jobs.specs.Heads.{Head, ReplayHead, SolveHead, head_by}
use Rattle.child_jobs.specs.declared.end.JobEnd.{JobEnd}
use Rattle.child_jobs.specs.declared.end.JobEnd.TheVariants as ends
use Rattle.child_jobs.specs.declared.head.JobKind.{JobKind}
use Rattle.child_jobs.specs.declared.head.JobKind.TheVariants as kinds
use Rattle.job_format.specs.Job.{IsSolveJob, Job, Replay, Solve, SpellsReplay, SpellsSolve}
use Rattle.job_format.specs.declared.item.Item.{Item}
use Rattle.reply_format.specs.Reply.{HasWritten, IsReply, IsSolveReply, Reply, reply_bytes}
use Rattle.sketch_levels.specs.Levels.{View}
use Rattle.child_worker.specs.Replies.{IsAnswer}
use Rattle.child_worker.specs.Work.{HasWorked, IsEnded, IsReplyTo, IsSketchOf}
use Rattle.child_worker.specs.declared.work.Work.{Work}
use Rattle.child_jobs.specs.Ends.{Ends}
use Rattle.child_jobs.specs.Reader.{known_head}
use Rattle.job_format.specs.Read.{BreaksJob}
use Rattle.job_format.specs.declared.fault.JobFault.{JobFault}
use Rattle.job_format.specs.declared.fault.JobFault.TheVariants as faults

-- no job ends without a head
pub ended_headless : (levels : Option View) (count : ℕ) (end : JobEnd) (bytes : List ℕ)
    → IsEnded levels count None end bytes → ⊥
ended_headless levels count end bytes ended = ended.ended

-- no replay job ends without levels
pub ended_unsketched : (count : ℕ) (head : Option Head) (bytes : List ℕ)
    → IsEnded None count head ends.Replay bytes → ⊥
ended_unsketched count None bytes ended = ended.ended
ended_unsketched count (Some (ReplayHead number setting)) bytes ended = ended.sketched
ended_unsketched count (Some (SolveHead number)) bytes ended = ended.ended

-- the end of a replay job whose items levels hold
pub record EndsReplay (levels : View) (count number : ℕ) (bytes : List ℕ) : Type 0 where
  pub given : List Item
  pub sketch : IsSketchOf levels count given
  pub spelled : SpellsReplay (record { number = number; setting = levels.setting; items = given }) bytes

pub ended_replay : (levels : View) (count number : ℕ) (kind : JobKind) (bytes : List ℕ)
    → IsEnded (Some levels) count (Some (head_by number kind)) ends.Replay bytes → EndsReplay levels count number bytes
ended_replay levels count number (kinds.Replay params) bytes ended = record {
  given = ended.given;
  sketch = record { held = ended.sketched.1; counted = ended.counted };
  spelled = rw ended.sketched.0 ended.ended;
}
ended_replay levels count number kinds.Solve bytes ended = absurd ended.ended

-- the end of a solve job
pub ended_solve : (levels : Option View) (count number : ℕ) (kind : JobKind) (nodes : ℕ) (problem : Problem)
    (bytes : List ℕ) → IsEnded levels count (Some (head_by number kind)) (ends.Solve nodes problem) bytes
    → SpellsSolve (record { number = number; nodes = nodes; problem = problem }) bytes
ended_solve levels count number (kinds.Replay params) nodes problem bytes ended = absurd ended.ended
ended_solve levels count number kinds.Solve nodes problem bytes ended = ended.ended

-- a right placement can be written, and so can any right outcome
pub placed_written : (problem : Problem) (nodes : ℕ) (outcome : Outcome) → IsWithin problem.sites problem.needs
    → is_right problem nodes outcome ≡ true → HasWritten outcome
placed_written problem nodes (outcomes.Placed placement tree) within right =
    let fit = fitting problem placement.sites within
    (right_shows problem nodes (outcomes.Placed placement tree) within right).placed in
    record {
      some = omega (arith, fit.size, within.some_needs);
      few = omega (arith, fit.size, within.few_needs);
      each = λ k d inside.
          let same = get_or_default placement.sites k d 0 inside in
          let known = fit.known k (omega (arith, fit.size)) in
          omega (arith, same, known, within.few_sites);
    }
placed_written problem nodes (outcomes.Infeasible tree) within right = tt
placed_written problem nodes (outcomes.Spent tree) within right = tt

pub right_reply : (number nodes : ℕ) (problem : Problem) (outcome : Outcome)
    → IsSolveJob (record { number = number; nodes = nodes; problem = problem })
    → is_right problem nodes outcome ≡ true → IsSolveReply (record { number = number; outcome = outcome })
right_reply number nodes problem outcome job right = record {
  number = job.number;
  formed = right_formed problem nodes outcome right;
  written = placed_written problem nodes outcome job.within right;
}

-- the bytes of a reply to a job answer it
pub answered : (job : Job) (reply : Reply) (bytes : List ℕ) → IsReplyTo job reply → IsReply reply
    → bytes ≡ reply_bytes 2 reply → IsAnswer job bytes
answered (Replay job) reply bytes is within written =
    record { within = rw is at within; version = 2; known = inr refl; parts = rw is at written }
answered (Solve job) reply bytes is within written = (
  is.0,
  is.1,
  record { within = rw is.2 at within; version = 2; known = inr refl; parts = rw is.2 at written },
)

-- what holds of what was given, where more follows of it
pub if_ok_so : {T E : Type 0} (P Q : T → Type 0) (result : Result T E) → ((x : T) → P x → Q x)
    → IfOk result P → IfOk result Q
if_ok_so P Q (Ok x) so holds = so x holds
if_ok_so P Q (Err e) so holds = tt

-- a reader's last answer, where there is one of its own: the end, or the first breach
pub finished : (work : Work) (head : Option Head) (end : JobEnd) (bytes : List ℕ) (worked : HasWorked work bytes)
    → head ≡ known_head work.reader
    → (Ok end ≡ Err faults.Memory) ⊎ Ends bytes (known_head work.reader) worked.given (Ok end)
    → IsEnded work.levels work.items head end bytes
finished work head end bytes worked same (inl none) = cc
finished work head end bytes worked same (inr ended) = record {
  given = worked.given;
  sketched = rw same worked.sketched;
  counted = worked.counted;
  ended = rw same ended;
}

-- a reading that failed
abbrev failed : JobFault → Result JobEnd JobFault
failed fault = Err fault

same_fault : (e f : JobFault) → failed e ≡ failed f → e ≡ f
same_fault e f same = cc

ended_fault : (bytes : List ℕ) (head : Option Head) (given : List Item) (fault : JobFault)
    → Ends bytes head given (Err fault) → BreaksJob bytes fault
ended_fault bytes None given fault ended = ended
ended_fault bytes (Some (ReplayHead number setting)) given fault ended = ended
ended_fault bytes (Some (SolveHead number)) given fault ended = ended

pub broken_off : (bytes : List ℕ) (head : Option Head) (given : List Item) (fault : JobFault)
    → (failed fault ≡ failed faults.Memory) ⊎ Ends bytes head given (Err fault)
    → (fault ≡ faults.Memory) ⊎ BreaksJob bytes fault
broken_off bytes head given fault (inl memory) = inl (same_fault fault faults.Memory memory)
broken_off bytes head given fault (inr ended) = inr (ended_fault bytes head given fault ended)
