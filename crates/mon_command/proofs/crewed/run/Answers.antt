use Rattle.mon_call.specs.declared.status.Status.TheVariants as statuses
use Rattle.mon_command.proofs.Measuring.{command_ends, command_spent, command_stale}
use Rattle.mon_command.proofs.Telling.{crew_told, placed}
use Rattle.mon_command.proofs.crewed.run.Goals as goal
use Rattle.mon_place.proofs.Told.{place_ends, place_spent, place_stale}

pub returns-clause-complete : goal.returns-clause-complete
returns-clause-complete g c = λ asked calm told. crew_told _ _ _ asked _ statuses.Done _ c.answer.ensures.outcome
    calm told

pub returns-clause-unfit : goal.returns-clause-unfit
returns-clause-unfit g c = λ asked fault calm told. crew_told _ _ _ asked _ (statuses.Topology fault)
    _ c.answer.ensures.outcome calm told

pub returns-clause-refused : goal.returns-clause-refused
returns-clause-refused g c = λ asked fault calm told. crew_told _ _ _ asked _ (statuses.Trace fault)
    _ c.answer.ensures.outcome calm told

pub returns-clause-uncertified : goal.returns-clause-uncertified
returns-clause-uncertified g c = λ asked fault calm told. crew_told _ _ _ asked _ (statuses.Certificate fault)
    _ c.answer.ensures.outcome calm told

pub returns-clause-misspelled : goal.returns-clause-misspelled
returns-clause-misspelled g c = λ asked fault calm told. crew_told _ _ _ asked _ (statuses.Job fault)
    _ c.answer.ensures.outcome calm told

pub returns-clause-ends : goal.returns-clause-ends
returns-clause-ends g c = λ topology solving topo work part asked told within.
    place_ends _ solving _ topo work part _ told within
    (placed _ _ _ topology solving _ _ c.answer.ensures.outcome asked).answers

pub returns-clause-spent : goal.returns-clause-spent
returns-clause-spent g c = λ topology solving topo work part job bad asked told over.
    place_spent _ solving _ topo work part job bad _ told over
    (placed _ _ _ topology solving _ _ c.answer.ensures.outcome asked).answers

pub returns-clause-stale : goal.returns-clause-stale
returns-clause-stale g c = λ topology solving topo work part asked told full.
    place_stale _ solving _ topo work part _ told full
    (placed _ _ _ topology solving _ _ c.answer.ensures.outcome asked).answers

pub returns-clause-measure_ends : goal.returns-clause-measure_ends
returns-clause-measure_ends g c = λ asked m topo header members part taken same told within.
    command_ends _ _ _ asked m _ topo header members part _ c.answer.ensures.outcome taken same told within

pub returns-clause-measure_spent : goal.returns-clause-measure_spent
returns-clause-measure_spent g c =
    λ asked m topo header members part phase work entries job bad taken same told inside much.
    command_spent _ _ _ asked m _ topo header members part _ c.answer.ensures.outcome taken same told phase work entries
    job bad inside much

pub returns-clause-measure_stale : goal.returns-clause-measure_stale
returns-clause-measure_stale g c = λ asked m topo header members part phase work entries taken same told inside full.
    command_stale _ _ _ asked m _ topo header members part _ c.answer.ensures.outcome taken same told phase work entries
    inside full
