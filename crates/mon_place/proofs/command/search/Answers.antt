use Rattle.std.proofs.Common.{◌≡◌, ap, subst}
use Rattle.bound_certificate.specs.Problem.{Problem}
use Rattle.bound_certificate.specs.declared.verdict.Verdict.{Verdict}
use Rattle.mon_call.specs.CrewCall.{crew_call_of}
use Rattle.outcome_report.specs.Outcome.{outcome_text}
use Rattle.solve_phase.specs.Phase.{HasFound, verdict_on}
use Rattle.mon_place.proofs.Answered.{reported}
use Rattle.mon_place.proofs.command.search.Goals as goal

pub returns-in-Ok-clause-answers : goal.returns-in-Ok-clause-answers
returns-in-Ok-clause-answers g c = λ contents inputs later spells.
    let topo = c.args.network.now in
    let solving = c.args.solving in
    let found = c.in-Ok.found in
    let before = g.S.Spawner.state c.args.crew.now in
    let after = g.S.Spawner.state c.solve.new.crew in
    let solved = subst (λ (p : Problem). HasFound p solving before after found.outcome
    × (found.verdict ≡ verdict_on p found.outcome)) c.problem.ensures.problem c.in-Ok.ensures.solved in
    reported contents solving
    (crew_call_of inputs later before after (g.K.Sink.state c.args.sink.now) (g.K.Sink.state c.report_outcome.new.sink))
    found.outcome (outcome_text topo solving.nodes found.outcome found.verdict) c.report_outcome.result
    (record {
      has = record { topo = topo; spells = spells; found = solved.0 };
      lines = ap (λ (v : Verdict). outcome_text topo solving.nodes found.outcome v) solved.1;
    })
    c.report_outcome.ensures.reports
