use Rattle.std.proofs.Common.{◌≡◌, true, length, get_or, ◌∙◌, ap, subst}
use Rattle.bound_certificate.specs.Sums.{has}
use Rattle.bound_certificate.specs.Problem.{via}
use Rattle.bound_certificate.proofs.Nodes.{has-at}
use Rattle.bound_certificate.proofs.completion.first_with_room.Goals as goal

pub returns-then-has_room-clause-stands : goal.returns-then-has_room-clause-stands
returns-then-has_room-clause-stands c =
    let same : c.via-via.result.now ≡ via c.args.problem.now (length c.args.choices.now) =
    c.via-via.ensures.value ∙ ap (via c.args.problem.now) c.len.ensures.value in
    subst (λ xs. has xs (get_or c.via-via.result.now c.loop-site.site-index 0) ≡ true) same
    (has-at c.via-via.result.now c.loop-site.site-index c.loop-site-test.true)
