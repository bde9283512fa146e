use Rattle.mon_call.specs.declared.status.Status.TheVariants as statuses
use Rattle.mon_command.proofs.Telling.{answers_told}
use Rattle.mon_command.proofs.alone.run_alone.Goals as goal

pub returns-clause-complete : goal.returns-clause-complete
returns-clause-complete g c = λ asked calm told. answers_told _ _ _ asked _ statuses.Done _ c.answer.ensures.outcome
    calm told

pub returns-clause-unfit : goal.returns-clause-unfit
returns-clause-unfit g c = λ asked fault calm told. answers_told _ _ _ asked _ (statuses.Topology fault)
    _ c.answer.ensures.outcome calm told

pub returns-clause-refused : goal.returns-clause-refused
returns-clause-refused g c = λ asked fault calm told. answers_told _ _ _ asked _ (statuses.Trace fault)
    _ c.answer.ensures.outcome calm told

pub returns-clause-uncertified : goal.returns-clause-uncertified
returns-clause-uncertified g c = λ asked fault calm told. answers_told _ _ _ asked _ (statuses.Certificate fault)
    _ c.answer.ensures.outcome calm told

pub returns-clause-misspelled : goal.returns-clause-misspelled
returns-clause-misspelled g c = λ asked fault calm told. answers_told _ _ _ asked _ (statuses.Job fault)
    _ c.answer.ensures.outcome calm told
