use Rattle.std.proofs.Common.{Ok, Err, ap, refl}
use Rattle.solve_jobs.proofs.Reading.{solve_read, fault_read}
use Rattle.solve_jobs.proofs.judge.outcome_read.Goals as goal

pub returns-in-Ok-Solve-clause-read : goal.returns-in-Ok-Solve-clause-read
returns-in-Ok-Solve-clause-read c =
    (solve_read c.args.bytes.now (Ok c.in-Ok-Solve.field-0) c.in-Ok-Solve.field-0-0 c.in-Ok-Solve.outcome
    (ap Ok c.in-Ok-Solve.field-0-is) c.check_bytes.ensures c.in-Ok-Solve.ensures.reads).0

pub returns-in-Ok-Solve-clause-spelled : goal.returns-in-Ok-Solve-clause-spelled
returns-in-Ok-Solve-clause-spelled c =
    (solve_read c.args.bytes.now (Ok c.in-Ok-Solve.field-0) c.in-Ok-Solve.field-0-0 c.in-Ok-Solve.outcome
    (ap Ok c.in-Ok-Solve.field-0-is) c.check_bytes.ensures c.in-Ok-Solve.ensures.reads).1

pub returns : goal.returns
returns c = record {
  read = fault_read c.args.bytes.now (Err c.in-Err.fault) c.in-Err.fault refl c.in_default.not-Memory
      c.check_bytes.ensures c.in-Err.ensures.reads;
  spelled = tt;
}
