use Rattle.std.proofs.Common.{◌^◌, ◌-◌, ◌-ℤ◌, ap}
use Rattle.std.specs.Simd.Lanes.{chunk, put_chunk}
use Rattle.lane_kernels.proofs.Lanes.{signed_lanes, lane_differences, small_chunk}
use Rattle.lane_kernels.proofs.sums.sub_eight.Goals as goal

pub returns : goal.returns
returns c =
    let here = chunk c.args.at 8 c.args.a.now in
    let there = chunk c.args.at 8 c.args.b.now in
    ap (put_chunk c.args.at c.args.a.now)
    (signed_lanes _ ◌-ℤ◌ here there (lane_differences here there c.requires.small
    (small_chunk (2 ^ 62 - 1) c.args.at 8 c.args.b.now c.requires.other_small)))
