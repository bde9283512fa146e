use Rattle.std.proofs.Common.{◌≡◌, ◌<◌, ℕ, true, ◌⊎◌, inl, inr, List, Option, None, Some, length, slice_index, ◌∙◌, ap}
use Rattle.std.specs.Prelude.{IfSome}
use Rattle.bound_certificate.specs.Problem.{via}
use Rattle.bound_certificate.specs.Sums.{has}
use Rattle.bound_certificate.proofs.Nodes.{has-at}
use Rattle.placement_search.specs.declared.dive.Guess.{Guess}
use Rattle.placement_search.proofs.dive.best_guess.Goals as goal

pub estimate-guess-requires-clause-site : goal.estimate-guess-requires-clause-site
estimate-guess-requires-clause-site c =
    let sites : c.via-site-items.result.now ≡ via c.args.problem.now (length c.args.choices.now) =
    c.via-site-items.ensures.value ∙ ap (via c.args.problem.now) c.len.ensures.value in
    let within : c.loop-site.site-index < length (via c.args.problem.now (length c.args.choices.now)) =
    rw sites at c.loop-site-test.true in
    rw sites (has-at (via c.args.problem.now (length c.args.choices.now)) c.loop-site.site-index within)

-- the better of two guesses is one of them
either : (P : Guess → Type 0) (best guess new : Option Guess) → (new ≡ best) ⊎ (new ≡ guess) → IfSome best P
    → IfSome guess P → IfSome new P
either P best guess new (inl same) one other = rw same one
either P best guess new (inr same) one other = rw same other

stands : (sites : List ℕ) (site : ℕ) (guess : Option Guess) → has sites site ≡ true
    → IfSome guess (λ guess. guess.site ≡ site) → IfSome guess (λ guess. has sites guess.site ≡ true)
stands sites site None here is = tt
stands sites site (Some guess) here is = ap (has sites) is ∙ here

pub loop-site-preserved : goal.loop-site-preserved
loop-site-preserved c =
    let p = c.args.problem.now in
    let cs = c.args.choices.now in
    let sites : c.via-site-items.result.now ≡ via p (length cs) =
    c.via-site-items.ensures.value ∙ ap (via p) c.len.ensures.value in
    let within : c.loop-site.site-index < length (via p (length cs)) = rw sites at c.loop-site-test.true in
    let site = slice_index (via p (length cs)) c.loop-site.site-index in
    let is = rw sites at c.estimate-guess.ensures.site in
    either (λ guess. has
    (via p (length cs)) guess.site ≡ true) c.loop-site.best c.estimate-guess.result c.lesser-best.result
    c.lesser-best.ensures.either c.loop-site.invariant
    (stands (via p (length cs)) site c.estimate-guess.result
    (has-at (via p (length cs)) c.loop-site.site-index within) is)
