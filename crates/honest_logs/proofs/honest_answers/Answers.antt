use Rattle.honest_logs.specs.Honest.{AnswersHonestly}
use Rattle.honest_logs.proofs.Answered.{accepted_answers}
use Rattle.honest_logs.proofs.honest_answers.Goals as goal

pub returns : goal.returns
returns c = record { answered = λ plan log steps honest. accepted_answers plan AnswersHonestly log steps honest }
