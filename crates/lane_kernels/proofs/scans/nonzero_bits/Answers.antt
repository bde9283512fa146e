use Rattle.std.proofs.Common.{FitsSigned, w64, arith, rules}
use Rattle.lane_kernels.proofs.Lanes.{nonzero_bits, each_of_eight}
use Rattle.lane_kernels.proofs.scans.nonzero_bits.Goals as goal

pub returns : goal.returns
returns c =
    nonzero_bits c.args.lanes (omega arith)
    (each_of_eight (λ x. FitsSigned w64 x) c.args.lanes (omega arith) (search rules) (search rules) (search rules)
    (search rules) (search rules) (search rules) (search rules) (search rules))
