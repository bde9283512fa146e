-- The floor of a node: what a placement that makes its choices costs at least, need by need.
use Rattle.std.specs.Prelude.{ℕ, ◌+◌, ◌-◌, ◌==◌, min, List, length, slice_index, fold, if◌then◌else◌}
use Rattle.bound_certificate.specs.Problem.{Problem, need_count, via}
use Rattle.bound_certificate.specs.Sums.{sum_below}
use Rattle.bound_certificate.specs.Placement.{service, cost}
use Rattle.bound_certificate.specs.Node.{dual_limit}

-- the least number of f over a list that is not empty
unfoldable pub least_by : (ℕ → ℕ) → List ℕ → ℕ
least_by f xs = fold (λ least x. min least (f x)) (f (slice_index xs 0)) xs

-- what the need at depth + j costs at site s: its service, and for the first one the opening, where no choice
-- opened the site
unfoldable pub need_price : Problem → List ℕ → ℕ → ℕ → ℕ
need_price p cs j s = service p s (length cs + j) + (if j == 0 then dual_limit p cs s else 0)

-- the least of that over the need's via
unfoldable pub floor_by : Problem → List ℕ → ℕ → ℕ
floor_by p cs j = least_by (need_price p cs j) (via p (length cs + j))

-- the cost of the choices, and the least number of each later need
unfoldable pub floor : Problem → List ℕ → ℕ
floor p cs = cost p cs + sum_below (floor_by p cs) (need_count p - length cs)
