use Rattle.std.proofs.Common.{◌≡◌, ◌+◌, ◌-◌, ℕ, ◌++◌, ◌∷◌, [], sym, ◌∙◌, ap, arith, length-append}
use Rattle.std.specs.List.{range_with_len}
use Rattle.bound_certificate.specs.Node.{later}
use Rattle.bound_certificate.specs.Problem.{need_count}
use Rattle.bound_certificate.proofs.Below.{range_with_len-more, range_with_len-below}
use Rattle.bound_certificate.proofs.hall.later.Goals as goal

pub loop-need-preserved : goal.loop-need-preserved
loop-need-preserved c =
    let d = c.args.depth in
    let n = c.loop-need.need in
    let one_more : (n - d) + 1 ≡ (n + 1) - d = omega arith in
    let here : d + (n - d) ≡ n = omega arith in (
      c.push.ensures.value ∙ ap (λ needs. needs ++ n ∷ []) c.loop-need.invariant.0
          ∙ ap (λ (k : ℕ). range_with_len d (n - d) ++ k ∷ []) (sym here)
          ∙ sym (range_with_len-more d (n - d)) ∙ ap (range_with_len d) one_more,
      rw c.push.ensures.value (simp length-append (omega (arith, c.loop-need.invariant.1))),
    )

pub returns-clause-known : goal.returns-clause-known
unfolding later
returns-clause-known c =
    rw c.loop-need.invariant.0
    (range_with_len-below c.args.depth (c.loop-need.need - c.args.depth) (need_count c.args.problem.now) (omega arith))
