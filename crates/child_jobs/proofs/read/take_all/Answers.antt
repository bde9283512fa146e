use Rattle.std.proofs.Common.{[], length, take, ap, arith, length-drop, inr, rules}
use Rattle.child_jobs.proofs.Collected.{breach_here, taken_on}
use Rattle.child_jobs.proofs.read.take_all.Goals as goal

pub returns-in-Err-clause-breach : goal.returns-in-Err-clause-breach
returns-in-Err-clause-breach c =
    inr (breach_here c.args.bytes.now c.rest_of.result.now c.loop-taken.taken c.in-Err.fault c.rest_of.ensures
    (c.in-Err.ensures.breach (take c.loop-taken.taken c.args.bytes.now) [] c.loop-taken.items.items
    c.loop-taken.invariant.1))

pub loop-taken-preserved : goal.loop-taken-preserved
loop-taken-preserved c = (
  omega (
    arith,
    c.loop-taken.invariant.0,
    c.in-Ok.ensures.bound,
    ap length c.rest_of.ensures,
    length-drop
        c.loop-taken.taken c.args.bytes.now,
  ),
  taken_on c.feed.new.self c.args.bytes.now c.rest_of.result.now c.loop-taken.taken c.in-Ok.count
      c.loop-taken.items.items c.frame.result.now c.extend_from_slice.new.self.items
      c.rest_of.ensures c.frame.ensures.value (search rules)
      (c.in-Ok.ensures.takes (take c.loop-taken.taken c.args.bytes.now) c.loop-taken.items.items
      c.loop-taken.invariant.1),
)
