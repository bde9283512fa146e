use Rattle.std.proofs.Common.{inr}
use Rattle.child_jobs.proofs.Ended.{ends_made, ends_replay, ends_short, inside_of}
use Rattle.child_jobs.proofs.reader.JobReader.finish.Goals as goal

pub returns-in-ReplayEnd-clause-end : goal.returns-in-ReplayEnd-clause-end
returns-in-ReplayEnd-clause-end c bytes given taken =
    inr (ends_replay c.args.self bytes given c.in-ReplayEnd.numbers c.in-ReplayEnd.tally c.in-ReplayEnd.is taken)

pub returns-in-SolveEnd-clause-end : goal.returns-in-SolveEnd-clause-end
returns-in-SolveEnd-clause-end c bytes given taken =
    ends_made c.args.self bytes given c.in-SolveEnd.numbers c.of_solve.result c.in-SolveEnd.is taken
    c.of_solve.ensures.value c.of_solve.ensures.fault

pub returns-in_default-place-clause-end : goal.returns-in_default-place-clause-end
returns-in_default-place-clause-end c bytes given taken =
    inr (ends_short c.args.self bytes given
    (inside_of c.args.self.place c.in_default-place.not-ReplayEnd c.in_default-place.not-SolveEnd) taken)
