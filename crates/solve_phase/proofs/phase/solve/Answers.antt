use Rattle.solve_jobs.specs.SolveJobs.{solve_state, solve_stands}
use Rattle.solve_phase.proofs.Ends.{has_ended, has_stopped, is_held, is_search}
use Rattle.solve_phase.proofs.phase.solve.Goals as goal

pub with_verdict-requires : goal.with_verdict-requires
with_verdict-requires g c =
    let old = g.S.Spawner.state c.args.crew.now in
    let search = is_search c.args.problem.now c.args.solving old.issued (solve_state c.in-Ok.jobs)
    c.in-Ok.ensures.count c.in-Ok.ensures.spells c.in-Ok.ensures.judges in
    let held = is_held c.args.problem.now c.args.solving old (g.S.Spawner.state c.supervise.new.crew)
    (solve_state c.supervise.new.jobs) (solve_stands c.supervise.new.jobs) _ search c.in-Ok-supervise.ensures.outcome
    c.outcome.result c.unwrap.result c.unwrap.ensures c.outcome.ensures.kept in
    record { right = held.2.right }

pub returns-in-Ok-supervise : goal.returns-in-Ok-supervise
returns-in-Ok-supervise g c =
    let old = g.S.Spawner.state c.args.crew.now in
    let search = is_search c.args.problem.now c.args.solving old.issued (solve_state c.in-Ok.jobs)
    c.in-Ok.ensures.count c.in-Ok.ensures.spells c.in-Ok.ensures.judges in
    let held = is_held c.args.problem.now c.args.solving old (g.S.Spawner.state c.supervise.new.crew)
    (solve_state c.supervise.new.jobs) (solve_stands c.supervise.new.jobs) _ search c.in-Ok-supervise.ensures.outcome
    c.outcome.result c.unwrap.result c.unwrap.ensures c.outcome.ensures.kept in
    record {
      solved = has_ended c.args.problem.now c.args.solving old (g.S.Spawner.state c.supervise.new.crew)
          (solve_state c.supervise.new.jobs) (solve_stands c.supervise.new.jobs) _ search
          c.in-Ok-supervise.ensures.outcome c.unwrap.result c.with_verdict.result held
          c.with_verdict.ensures.shows c.with_verdict.ensures.outcome c.with_verdict.ensures.verdict;
    }

pub returns-in-Err : goal.returns-in-Err
returns-in-Err g c =
    let old = g.S.Spawner.state c.args.crew.now in
    let search = is_search c.args.problem.now c.args.solving old.issued (solve_state c.in-Ok.jobs)
    c.in-Ok.ensures.count c.in-Ok.ensures.spells c.in-Ok.ensures.judges in
    record {
      solved = has_stopped c.args.problem.now c.args.solving old (g.S.Spawner.state c.supervise.new.crew)
          (solve_state c.supervise.new.jobs) (solve_stands c.supervise.new.jobs) _ search c.in-Err.stop
          c.in-Err.ensures.outcome;
    }
