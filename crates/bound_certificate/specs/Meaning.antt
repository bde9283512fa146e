-- What a right outcome shows.
use Rattle.std.specs.Prelude.{◌≡◌, ◌⊎◌, ℕ, ◌≤◌, ◌<◌, List, [], IsTrue, None, Some, pos}
use Rattle.bound_certificate.specs.Problem.{Problem}
use Rattle.bound_certificate.specs.Placement.{cost, fits, first_fit}
use Rattle.bound_certificate.specs.Bound.{IsBelow, IsAtLeast}
use Rattle.bound_certificate.specs.Floor.{floor}
use Rattle.bound_certificate.specs.Outcome.{is_no_better, first_fit_cost}
use Rattle.bound_certificate.specs.Whole.{whole}
use Rattle.bound_certificate.specs.declared.verdict.Verdict.{Verdict}
use Rattle.bound_certificate.specs.declared.outcome.Outcome.{Outcome}
use Rattle.bound_certificate.specs.declared.outcome.Outcome.TheVariants.{Placed, Infeasible, Spent}

-- no placement that fits costs less than this
abbrev pub IsLeastCost : Problem → ℕ → Type 0
IsLeastCost p c = (placement : List ℕ) → IsTrue (fits p placement) → c ≤ cost p placement

-- no placement fits
abbrev pub NoneFits : Problem → Type 0
NoneFits p = (placement : List ℕ) → IsTrue (fits p placement) → ⊥

-- a right placement fits and costs no more than first fit's; its bound is at least the problem's floor, below
-- the cost of each placement that fits, and its own cost unless all nodes were spent; with more nodes than a
-- tree can have, the placement is of least cost
pub record IsPlaced (p : Problem) (n : ℕ) (sites : List ℕ) (verdict : Verdict) : Type 0 where
  pub placed : IsTrue (fits p sites)
  pub no_worse : IsTrue (is_no_better (Some (cost p sites)) (first_fit_cost p))
  pub below : (placement : List ℕ) → IsTrue (fits p placement) → IsBelow verdict.bound (cost p placement)
  pub floored : IsAtLeast (floor p []) verdict.bound
  pub closed : (verdict.bound ≡ Some (pos (cost p sites))) ⊎ (verdict.branches ≡ n)
  pub least : whole p < n → (verdict.bound ≡ Some (pos (cost p sites))) × IsLeastCost p (cost p sites)

-- a spent search had no more nodes than a tree can have, and first fit finds no placement
pub record IsLeft (p : Problem) (n : ℕ) (verdict : Verdict) : Type 0 where
  pub below : (placement : List ℕ) → IsTrue (fits p placement) → IsBelow verdict.bound (cost p placement)
  pub floored : IsAtLeast (floor p []) verdict.bound
  pub spent : verdict.branches ≡ n
  pub few : n ≤ whole p
  pub no_first_fit : first_fit p ≡ None

-- what a right outcome shows, with its verdict
abbrev pub Shows : Problem → ℕ → Outcome → Verdict → Type 0
Shows p n (Placed placement tree) verdict = IsPlaced p n placement.sites verdict
Shows p n (Infeasible tree) verdict = NoneFits p
Shows p n (Spent tree) verdict = IsLeft p n verdict
