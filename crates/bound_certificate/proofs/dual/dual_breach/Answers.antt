use Rattle.std.proofs.Common.{◌<◌, sym, ◌∙◌, arith}
use Rattle.bound_certificate.specs.Node.{dual_breach, is_breached}
use Rattle.bound_certificate.specs.Problem.{site_count}
use Rattle.bound_certificate.proofs.Below.{first_below_found}
use Rattle.bound_certificate.proofs.dual.dual_breach.Goals as goal

pub returns-then-is_breached : goal.returns-then-is_breached
unfolding dual_breach
returns-then-is_breached c =
    let test = is_breached c.args.problem.now c.args.choices.now c.args.lambda.now c.args.mu.now in
    let below : c.loop-site.site < site_count c.args.problem.now = omega arith in
    record {
      value = sym
          (first_below_found test (site_count c.args.problem.now) c.loop-site.site c.loop-site.invariant
          (sym c.is_breached.ensures ∙ c.if-is_breached.true) below);
    }
