-- What work on a job has taken and sketched, and how it ends.
use Rattle.std.specs.Prelude.{◌≡◌, ℕ, List, [], ◌++◌, length, Option, None, Some, Ok, IsTrue}
use Rattle.bound_certificate.specs.Outcome.{is_right}
use Rattle.bound_certificate.specs.declared.outcome.Outcome.{Outcome}
use Rattle.child_jobs.specs.Ends.{Ends}
use Rattle.child_jobs.specs.Heads.{Head, ReplayHead, SolveHead}
use Rattle.child_jobs.specs.Reader.{HasTaken, known_head, lent}
use Rattle.child_jobs.specs.declared.end.JobEnd.{JobEnd}
use Rattle.job_format.specs.Job.{Job, Replay, Solve, SpellsJob}
use Rattle.job_format.specs.Read.{BreaksJob}
use Rattle.job_format.specs.declared.item.Item.{Item}
use Rattle.reply_format.specs.Reply.{Reply}
use Rattle.reply_format.specs.Reply as replies
use Rattle.sketch_levels.specs.Levels.{View, Holds}
use Rattle.child_worker.specs.Replies.{fed, replay_reply}
use Rattle.child_worker.specs.declared.work.Work.{Work}
use Rattle.child_worker.specs.declared.stop.WorkStop.{WorkStop}
use Rattle.child_worker.specs.declared.stop.WorkStop.TheVariants as stops

-- Levels with the numbers of a replay job hold these items. There are none for a solve job, nor before a head is
-- there, and then there was no item.
abbrev pub Sketches : Option View → Option Head → List Item → Type 0
Sketches None None items = items ≡ []
Sketches None (Some (ReplayHead number setting)) items = ⊥
Sketches None (Some (SolveHead number)) items = Unit {0}
Sketches (Some levels) None items = ⊥
Sketches (Some levels) (Some (ReplayHead number setting)) items =
    (levels.setting ≡ setting) × Holds levels (fed items)
Sketches (Some levels) (Some (SolveHead number)) items = ⊥

-- The reader has taken these bytes and given out items; the levels hold these, and the count counts them.
pub record HasWorked (work : Work) (bytes : List ℕ) : Type 0 where
  pub given : List Item
  pub taken : HasTaken work.reader bytes given
  pub sketched : Sketches work.levels (known_head work.reader) given
  pub counted : work.items ≡ length given

-- the same before the items of the frame that was ended are sketched and counted
pub record LagsBehind (work : Work) (bytes : List ℕ) : Type 0 where
  pub given : List Item
  pub taken : HasTaken work.reader bytes (given ++ lent work.reader)
  pub sketched : Sketches work.levels (known_head work.reader) given
  pub counted : work.items ≡ length given

-- a head that was there is there
abbrev pub Stays : Option Head → Option Head → Type 0
Stays before now = (head : Head) → before ≡ Some head → now ≡ Some head

-- some bytes were taken
abbrev pub IsWork : Work → Type 0
IsWork work = (bytes : List ℕ) × HasWorked work bytes

-- these bytes, of which some may not have been taken, are no job by this first breach; want of memory is free
abbrev pub StopsAt : List ℕ → WorkStop → Type 0
StopsAt bytes (stops.Fault fault) = BreaksJob bytes fault
StopsAt bytes stops.Memory = Unit {0}

-- levels hold these items, of which there are so many
pub record IsSketchOf (levels : View) (count : ℕ) (items : List Item) : Type 0 where
  pub held : Holds levels (fed items)
  pub counted : count ≡ length items

-- the end of a job with this head and these items, which levels hold, where there are any
pub record IsEnded (levels : Option View) (count : ℕ) (head : Option Head) (end : JobEnd) (bytes : List ℕ)
    : Type 0 where
  pub given : List Item
  pub sketched : Sketches levels head given
  pub counted : count ≡ length given
  pub ended : Ends bytes head given (Ok end)

-- a reply to a job: that which holds the sketch of its items, or a right outcome
abbrev pub IsReplyTo : Job → Reply → Type 0
IsReplyTo (Replay job) reply = reply ≡ replies.Replay (replay_reply job)
IsReplyTo (Solve job) reply =
    (outcome : Outcome) × IsTrue (is_right job.problem job.nodes outcome)
    × (reply ≡ replies.Solve (record { number = job.number; outcome = outcome }))

-- a reply to the job that bytes spell
abbrev pub RepliesTo : List ℕ → Reply → Type 0
RepliesTo bytes reply = (job : Job) × SpellsJob job bytes × IsReplyTo job reply
