-- The outcome turns on the bound that the check gives.
use Rattle.std.proofs.Common.{[], refl}
use Rattle.bound_certificate.specs.Tree.{visits}
use Rattle.placement_search.specs.Shown.{unplaced}
use Rattle.placement_search.proofs.Conclusions.{no_bound_of, some_bound_of}
use Rattle.placement_search.proofs.root.unplaced.Goals as goal

pub returns-then-is_infeasible : goal.returns-then-is_infeasible
unfolding unplaced
returns-then-is_infeasible c =
    record {
      value = rw (no_bound_of c.args.problem.now
          (visits c.args.problem.now c.args.tree []) c.in-Ok.verdict c.in-Ok.ensures.ok.1
          c.if-is_infeasible.ensures) refl;
    }

pub returns-else-is_infeasible : goal.returns-else-is_infeasible
unfolding unplaced
returns-else-is_infeasible c =
    record {
      value = rw (some_bound_of c.args.problem.now
          (visits c.args.problem.now c.args.tree []) c.in-Ok.verdict c.in-Ok.ensures.ok.1
          c.if-is_infeasible.ensures) refl;
    }
