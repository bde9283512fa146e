-- What a search keeps: the best placement so far, and the Branch nodes that are left.
use Rattle.std.specs.Prelude.{◌≡◌, ℕ, Bool, true, false, List, Option, None, Some, IfSome, ℤ, pos, int_le}
use Rattle.bound_certificate.specs.Problem.{Problem, site_count}
use Rattle.bound_certificate.specs.Sums.{all_below}
use Rattle.bound_certificate.specs.Placement.{cost, fits, is_within_capacity}
use Rattle.bound_certificate.specs.Node.{is_over}
use Rattle.bound_certificate.specs.Outcome.{is_no_better, first_fit_cost}
use Rattle.placement_search.specs.declared.progress.Progress.{Progress}

-- a best cost is that of the placement kept with it, which fits
pub record IsCostOf (p : Problem) (sites : List ℕ) (c : ℕ) : Type 0 where
  pub placed : fits p sites ≡ true
  pub value : c ≡ cost p sites

-- and it is no more than first fit's
pub record IsKept (p : Problem) (progress : Progress) : Type 0 where
  pub best : IfSome progress.cost (IsCostOf p progress.sites)
  pub begun : is_no_better progress.cost (first_fit_cost p) ≡ true

-- the progress after is no worse than the one before
abbrev pub IsNoWorse : Progress → Progress → Type 0
IsNoWorse before after = is_no_better after.cost before.cost ≡ true

-- a best cost is at most a bound, where None is above each number
abbrev pub reaches : Option ℕ → Option ℤ → Bool
reaches best None = true
reaches None (Some b) = false
reaches (Some c) (Some b) = int_le (pos c) b

-- no site carries more than its capacity, and so the last choice's neither
pub record IsRoomy (p : Problem) (cs : List ℕ) : Type 0 where
  pub within : all_below (is_within_capacity p cs) (site_count p) ≡ true
  pub last : is_over p cs ≡ false
