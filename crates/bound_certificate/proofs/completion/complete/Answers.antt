use Rattle.std.proofs.Common.{◌≡◌, ◌-◌, ◌+◌, ◌<◌, suc, length, Some, ◌∙◌, sym, ap, arith, length-append}
use Rattle.bound_certificate.specs.Placement.{first_with_room, completed}
use Rattle.bound_certificate.specs.Problem.{need_count}
use Rattle.bound_certificate.proofs.Known.{completed_on}
use Rattle.bound_certificate.proofs.Nodes.{choices_push}
use Rattle.bound_certificate.proofs.completion.complete.Goals as goal

pub loop-preserved : goal.loop-preserved
loop-preserved c =
    let p = c.args.problem.now in
    let rest = c.from-end.result - (c.loop.counter + 1) in
    let one_more : c.from-end.result - c.loop.counter ≡ suc rest = omega arith in
    let found : first_with_room p c.loop.completed ≡ Some c.in-Some.site =
    sym c.first_with_room.ensures.value ∙ c.in-Some.is in
    let above : length c.loop.completed < need_count p = omega (arith, c.loop.invariant.1) in (
      ap (λ cs. completed p cs rest) c.push.ensures.value
          ∙ sym (completed_on p c.loop.completed c.in-Some.site rest found)
          ∙ ap (completed p c.loop.completed) (sym one_more) ∙ c.loop.invariant.0,
      rw c.push.ensures.value (simp length-append (omega (arith, c.loop.invariant.1))),
      rw c.push.ensures.value
          (choices_push p c.loop.completed c.in-Some.site c.loop.invariant.2 above c.in-Some.ensures.stands),
    )
