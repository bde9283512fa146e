-- Needs that are together more than all sites that can serve any of them.
use Rattle.std.specs.Prelude.{ℕ, Bool, nat_lt, if◌then◌else◌}
use Rattle.bound_certificate.specs.Problem.{Problem, site_count, need_count, capacity, load, via}
use Rattle.bound_certificate.specs.Sums.{sum_below, any_below, has}

-- whether a site is named in any via
unfoldable pub is_named : Problem → ℕ → Bool
is_named p s = any_below (λ i. has (via p i) s) (need_count p)

-- the capacity of a site that is named in any via
unfoldable pub named_capacity : Problem → ℕ → ℕ
named_capacity p s = if is_named p s then capacity p s else 0

-- the loads of all needs together are above the capacities of the sites named in any via
unfoldable pub is_overloaded : Problem → Bool
is_overloaded p = nat_lt (sum_below (named_capacity p) (site_count p)) (sum_below (load p) (need_count p))
