use Rattle.std.proofs.Common.{pos, arith}
use Rattle.lane_kernels.specs.Nonzero.{is_nonzero}
use Rattle.lane_kernels.proofs.Marks.{first_marked, none_marked}
use Rattle.lane_kernels.proofs.scans.next_nonzero.Goals as goal

pub returns-then-bits-ne0-clause-found : goal.returns-then-bits-ne0-clause-found
returns-then-bits-ne0-clause-found c =
    let before = c.loop-at.invariant in
    let first = first_marked is_nonzero (pos 0) c.args.a.now c.args.from c.loop-at.at c.marks_from-bits.result before.0
    (omega arith) c.marks_from-bits.ensures (omega arith) before.2 in
    (first.within.0, first.within.1, first.passes, first.before)

pub loop-at-preserved : goal.loop-at-preserved
loop-at-preserved c = (
  omega arith,
  omega arith,
  none_marked is_nonzero (pos 0) c.args.a.now c.args.from c.loop-at.at c.marks_from-bits.result (omega arith)
      c.marks_from-bits.ensures (omega arith) c.loop-at.invariant.2,
)
