use Rattle.job_format.specs.Job.{Replay, Solve}
use Rattle.child_worker.proofs.Endings.{ended_replay, ended_solve, if_ok_so}
use Rattle.child_worker.proofs.reply.reply_to.Goals as goal

pub returns-in-Some-levels-clause-replies : goal.returns-in-Some-levels-clause-replies
returns-in-Some-levels-clause-replies c =
    let levels = c.in-Some-levels.levels in
    if_ok_so _ _ c.replay_reply.result (λ reply says bytes ended.
    let end = ended_replay levels c.args.items c.in-Some.head.job c.in-Some.head.kind bytes
    (rw (c.in-Some.is, c.in-Replay.is, c.in-Some-levels.is) at ended) in (
      Replay (record { number = c.in-Some.head.job; setting = levels.setting; items = end.given }),
      end.spelled,
      says end.given end.sketch,
    )) c.replay_reply.ensures.reply

pub returns-in-Solve-clause-replies : goal.returns-in-Solve-clause-replies
returns-in-Solve-clause-replies c =
    if_ok_so _ _ c.solve_reply.result (λ reply says bytes ended.
    let spelled = ended_solve c.args.levels c.args.items c.in-Some.head.job c.in-Some.head.kind c.in-Solve.nodes
    c.in-Solve.problem bytes (rw (c.in-Some.is, c.in-Solve.is) at ended) in (
      Solve (record { number = c.in-Some.head.job; nodes = c.in-Solve.nodes; problem = c.in-Solve.problem }),
      spelled,
      says,
    ))
    c.solve_reply.ensures.reply

pub returns-in-Some-levels-clause-within : goal.returns-in-Some-levels-clause-within
returns-in-Some-levels-clause-within c =
    let ended = c.requires.ended in
    let end = ended_replay c.in-Some-levels.levels c.args.items c.in-Some.head.job c.in-Some.head.kind ended.0
    (rw (c.in-Some.is, c.in-Replay.is, c.in-Some-levels.is) at ended.1) in
    if_ok_so _ _ c.replay_reply.result (λ reply says. says end.given end.sketch) c.replay_reply.ensures.within
