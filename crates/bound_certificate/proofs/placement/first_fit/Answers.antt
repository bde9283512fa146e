use Rattle.std.proofs.Common.{◌≡◌, ◌-◌, [], Some, sym, ◌∙◌, ap, arith}
use Rattle.bound_certificate.specs.Problem.{need_count}
use Rattle.bound_certificate.specs.Placement.{completed, first_fit}
use Rattle.bound_certificate.proofs.FirstFit.{first_fit_fits}
use Rattle.bound_certificate.proofs.placement.first_fit.Goals as goal

pub returns-in-Ok-clause-fits : goal.returns-in-Ok-clause-fits
unfolding first_fit
returns-in-Ok-clause-fits c =
    let p = c.args.problem.now in
    let none : need_count p - 0 ≡ need_count p = omega arith in
    let same : c.in-Ok.sites ≡ c.in-Some.choices = c.in-Ok.ensures ∙ c.as_slice.ensures.value in
    let whole : c.complete.result ≡ completed p [] (need_count p) =
    rw c.new.ensures.value at c.complete.ensures.value ∙ ap (completed p []) none in
    first_fit_fits p c.in-Ok.sites (sym whole ∙ c.in-Some.is ∙ ap Some (sym same))
