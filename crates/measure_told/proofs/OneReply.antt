-- Bytes spell one outcome.
use Rattle.std.proofs.Common.{◌≡◌, ℕ, List, Result, Ok, Err, refl, ap}
use Rattle.bound_certificate.specs.Problem.{Problem}
use Rattle.bound_certificate.specs.declared.outcome.Outcome.{Outcome}
use Rattle.reply_format.proofs.OneRead.{one_read}
use Rattle.reply_format.specs.Reply.{ExpectSolve, Reply, Replay, Solve}
use Rattle.reply_format.specs.declared.fault.ReplyFault.{ReplyFault}
use Rattle.solve_jobs.specs.Replies.{IsReplyWith, reply_with}

-- the outcome of a solve reply, and else another one
outcome_or : Outcome → Result Reply ReplyFault → Outcome
outcome_or other (Ok (Solve reply)) = reply.outcome
outcome_or other (Ok (Replay reply)) = other
outcome_or other (Err fault) = other

pub one_outcome : (problem : Problem) (nodes : ℕ) (bytes : List ℕ) (outcome other : Outcome)
    → IsReplyWith problem nodes outcome bytes → IsReplyWith problem nodes other bytes → outcome ≡ other
unfolding outcome_or
one_outcome problem nodes bytes outcome other first second =
    ap (outcome_or outcome)
    (one_read (ExpectSolve 0) bytes (Ok (reply_with outcome)) (Ok (reply_with other)) (refl, first.spelled)
    (refl, second.spelled))
