use Rattle.std.proofs.Common.{◌<◌, length, arith, length-append}
use Rattle.bound_certificate.specs.Problem.{need_count}
use Rattle.bound_certificate.proofs.Nodes.{choices_push}
use Rattle.placement_search.proofs.dive.dive.Goals as goal

pub loop-preserved : goal.loop-preserved
loop-preserved c =
    let above : length c.loop.choices < need_count c.args.problem.now = omega (arith, c.loop.invariant.0) in
    rw c.push.ensures.value (
      simp length-append (omega (arith, c.loop.invariant.0)),
      choices_push c.args.problem.now c.loop.choices c.in-Some.guess.site c.loop.invariant.1 above
          c.in-Some.ensures.stands,
    )
