-- When children are honest.
use Rattle.std.specs.Prelude.{ℕ, List}
use Rattle.child_worker.specs.Replies.{replay_reply}
use Rattle.crew.specs.Log.{Entry}
use Rattle.job_format.specs.Job.{Replay, ReplayJob, SpellsJob}
use Rattle.replay_supervisor.specs.Reading.{AreHonest}
use Rattle.replay_supervisor.specs.Steps.{Plan}
use Rattle.reply_format.specs.Reply.{SpellsReply}
use Rattle.reply_format.specs.Reply as replies

-- bytes answer a job's bytes as an honest child does: where these spell a job to sketch, they spell its reply
abbrev pub AnswersHonestly : List ℕ → List ℕ → Type 0
AnswersHonestly job bytes =
    (replay : ReplayJob) → SpellsJob (Replay replay) job → SpellsReply (replies.Replay (replay_reply replay)) bytes

-- each accepted reply of a log is one of an honest child
abbrev pub IsHonest : Plan → List Entry → Type 0
IsHonest plan log = AreHonest plan.work AnswersHonestly log
