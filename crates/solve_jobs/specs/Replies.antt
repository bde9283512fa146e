-- Which bytes are the reply to the one job of a search: those that spell a right outcome.
use Rattle.std.specs.Prelude.{ℕ, List, IsTrue}
use Rattle.bound_certificate.specs.Outcome.{is_right}
use Rattle.bound_certificate.specs.Problem.{Problem}
use Rattle.bound_certificate.specs.declared.outcome.Outcome.{Outcome}
use Rattle.reply_format.specs.Reply.{Reply, Solve, SpellsReply}

-- the reply to job 0 with this outcome
abbrev pub reply_with : Outcome → Reply
reply_with outcome = Solve (record { number = 0; outcome = outcome })

-- bytes spell the reply to job 0 with this outcome, which is right for the problem and a search of so many nodes
pub record IsReplyWith (problem : Problem) (nodes : ℕ) (outcome : Outcome) (bytes : List ℕ) : Type 0 where
  pub spelled : SpellsReply (reply_with outcome) bytes
  pub right : IsTrue (is_right problem nodes outcome)

-- bytes spell the reply to job 0 with some outcome that is right
pub record IsRightReply (problem : Problem) (nodes : ℕ) (bytes : List ℕ) : Type 0 where
  pub outcome : Outcome
  pub spelled : SpellsReply (reply_with outcome) bytes
  pub right : IsTrue (is_right problem nodes outcome)
