use Rattle.std.proofs.Common.{sym, ◌∙◌}
use Rattle.bound_certificate.proofs.Prices.{prices_from}
use Rattle.bound_certificate.proofs.node.dual_fault.Goals as goal

pub dual_breach-requires : goal.dual_breach-requires
dual_breach-requires c =
    prices_from c.args.problem.now c.args.choices.now c.args.lambda.now c.args.mu.now c.requires.choices.few
    (sym c.is_dual_shape.ensures.value ∙ c.if-not-is_dual_shape.false) c.requires.lambda c.requires.mu
