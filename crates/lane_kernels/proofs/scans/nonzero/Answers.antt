use Rattle.std.proofs.Common.{◌+◌, ◌≤◌, rules, take, arith, length}
use Rattle.std.proofs.lemmas.List.Sums.{count_by-le-length}
use Rattle.std.proofs.lemmas.List.{length-take-le}
use Rattle.std.specs.Int.RustNames.{count_ones}
use Rattle.lane_kernels.specs.Nonzero.{is_nonzero}
use Rattle.lane_kernels.proofs.Marks.{counted_more, counted_all}
use Rattle.lane_kernels.proofs.scans.nonzero.Goals as goal

pub overflow_add-count : goal.overflow_add-count
overflow_add-count c =
    let more = counted_more is_nonzero c.args.a.now c.loop-at.at c.marks_from.result (omega arith)
    c.marks_from.ensures in
    let few : c.loop-at.count + count_ones c.marks_from.result ≤ length c.args.a.now =
    omega (
      arith,
      more,
      c.loop-at.invariant.1,
      count_by-le-length is_nonzero (take (c.loop-at.at + 8) c.args.a.now),
      length-take-le (c.loop-at.at + 8) c.args.a.now (omega arith),
    ) in
    search rules

pub loop-at-preserved : goal.loop-at-preserved
loop-at-preserved c =
    let more = counted_more is_nonzero c.args.a.now c.loop-at.at c.marks_from.result (omega arith)
    c.marks_from.ensures in
    (omega arith, omega (arith, more, c.loop-at.invariant.1))

pub overflow_add-result : goal.overflow_add-result
overflow_add-result c =
    let all = counted_all is_nonzero c.args.a.now c.loop-at.at in
    let most = count_by-le-length is_nonzero c.args.a.now in
    let few : c.loop-at.count + c.nonzero_one_by_one.result ≤ length c.args.a.now =
    omega (arith, all, most, c.loop-at.invariant.1, c.nonzero_one_by_one.ensures) in
    search rules

pub returns : goal.returns
returns c =
    let all = counted_all is_nonzero c.args.a.now c.loop-at.at in
    record { value = omega (arith, all, c.loop-at.invariant.1, c.nonzero_one_by_one.ensures) }
