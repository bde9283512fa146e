-- What holds of a placement that fits.
use Rattle.std.proofs.Common.{ℕ, List, IsTrue}
use Rattle.std.proofs.lemmas.Bool.{and_parts}
use Rattle.bound_certificate.specs.Meaning.{Shows}
use Rattle.bound_certificate.specs.Placement.{AreChoices, fits, is_placement, is_within_capacity}
use Rattle.bound_certificate.specs.Problem.{Problem, site_count}
use Rattle.bound_certificate.specs.Sums.{all_below}
use Rattle.bound_certificate.specs.declared.outcome.Outcome.{Outcome}
use Rattle.bound_certificate.specs.declared.outcome.Outcome.TheVariants.{Placed, Infeasible, Spent}
use Rattle.bound_certificate.specs.declared.verdict.Verdict.{Verdict}
use Rattle.bound_certificate.proofs.Known.{is_placement-choices}
use Rattle.outcome_report.specs.Outcome.{FitsWherePlaced}

-- it has a choice for each need
pub fits_choices : (p : Problem) (cs : List ℕ) → IsTrue (fits p cs) → AreChoices p cs
unfolding fits
fits_choices p cs fit =
    is_placement-choices p cs (and_parts (is_placement p cs) (all_below (is_within_capacity p cs) (site_count p)) fit).0

-- a right outcome's placement fits
pub shows_fits : (p : Problem) (n : ℕ) (outcome : Outcome) (verdict : Verdict) → Shows p n outcome verdict
    → FitsWherePlaced p outcome
shows_fits p n (Placed placement tree) verdict shows = shows.placed
shows_fits p n (Infeasible tree) verdict shows = tt
shows_fits p n (Spent tree) verdict shows = tt
