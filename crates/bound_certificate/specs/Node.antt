-- The tests of a node of a certificate, by the choices that lead to it. A node of depth d has a choice for each
-- of the first d needs. What a site has left is its capacity less what the choices give to it.
use Rattle.std.specs.Prelude.{ℕ, ◌+◌, ◌-◌, ◌*◌, ◌==◌, ◌&&◌, ◌||◌, nat_le, nat_lt, Bool, not, List, length, sum, slice_index, Option, None, Some, if◌then◌else◌, ℤ, pos, ◌-ℤ◌}
use Rattle.std.specs.List.{list_any, range_with_len}
use Rattle.std.specs.Option.{option_map}
use Rattle.bound_certificate.specs.Problem.{Problem, site_count, need_count, capacity, opening, load, via}
use Rattle.bound_certificate.specs.Sums.{sum_below, all_below, first_below, has}
use Rattle.bound_certificate.specs.Placement.{given, service, cost, is_within_capacity}
use Rattle.bound_certificate.specs.declared.verdict.TreeWhy.{TreeWhy}
use Rattle.bound_certificate.specs.declared.verdict.TreeWhy.TheVariants.{NotOver, IsOver, Depth, Children, HallSet, HallLoad, DualShape, DualSum, Idle}

-- a node without its children
pub data Part : Type 0 where
  BranchPart : ℕ → Part  -- how many children it has
  OverPart : Part
  HallPart : List ℕ → Part
  DualPart : List ℕ → List ℕ → Part
  FullPart : Part

-- whether the site of the last choice carries more than its capacity
unfoldable pub is_over : Problem → List ℕ → Bool
is_over p cs = nat_lt 0 (length cs) && not (is_within_capacity p cs (slice_index cs (length cs - 1)))

-- the needs from d on
unfoldable pub later : Problem → ℕ → List ℕ
later p d = range_with_len d (need_count p - d)

-- whether a site stands in the via of one of the named needs
unfoldable pub is_reached : Problem → List ℕ → ℕ → Bool
is_reached p names s = list_any (λ i. has (via p i) s) names

-- the load of the named needs
unfoldable pub named_by : Problem → List ℕ → ℕ → ℕ
named_by p names i = if has names i then load p i else 0

unfoldable pub named_load : Problem → List ℕ → ℕ
named_load p names = sum_below (named_by p names) (need_count p)

-- the capacity of the sites that they reach, and what the choices give to these
unfoldable pub reached_capacity_by : Problem → List ℕ → ℕ → ℕ
reached_capacity_by p names s = if is_reached p names s then capacity p s else 0

unfoldable pub reached_capacity : Problem → List ℕ → ℕ
reached_capacity p names = sum_below (reached_capacity_by p names) (site_count p)

unfoldable pub reached_given_by : Problem → List ℕ → List ℕ → ℕ → ℕ
reached_given_by p cs names s = if is_reached p names s then given p cs s else 0

unfoldable pub reached_given : Problem → List ℕ → List ℕ → ℕ
reached_given p cs names = sum_below (reached_given_by p cs names) (site_count p)

-- the named needs are more than the sites that they reach have left
unfoldable pub is_crowded : Problem → List ℕ → List ℕ → Bool
is_crowded p cs names = nat_lt (reached_capacity p names) (named_load p names + reached_given p cs names)

-- the name at k is a need from d on, and above the name before it
unfoldable pub is_next_name : Problem → ℕ → List ℕ → ℕ → Bool
is_next_name p d names k =
    nat_le d (slice_index names k) && nat_lt (slice_index names k) (need_count p)
    && (k == 0 || nat_lt (slice_index names (k - 1)) (slice_index names k))

-- some needs from d on, in ascending order
unfoldable pub is_hall_set : Problem → ℕ → List ℕ → Bool
is_hall_set p d names = nat_lt 0 (length names) && all_below (is_next_name p d names) (length names)

-- by how much the lambda of the need at depth + j is above what that need costs at site s, at the price mu of
-- its load; nothing where it is not, or where s is not in its via
unfoldable pub excess : Problem → List ℕ → List ℕ → List ℕ → ℕ → ℕ → ℕ
excess p cs lambda mu s j =
    if has (via p (length cs + j)) s
    then slice_index lambda j - (service p s (length cs + j) + load p (length cs + j) * slice_index mu s)
    else 0

unfoldable pub dual_sum : Problem → List ℕ → List ℕ → List ℕ → ℕ → ℕ
dual_sum p cs lambda mu s = sum_below (excess p cs lambda mu s) (length lambda)

-- a site's limit: what opening it would cost, and nothing where a choice opened it
unfoldable pub dual_limit : Problem → List ℕ → ℕ → ℕ
dual_limit p cs s = if has cs s then 0 else opening p s

unfoldable pub is_breached : Problem → List ℕ → List ℕ → List ℕ → ℕ → Bool
is_breached p cs lambda mu s = nat_lt (dual_limit p cs s) (dual_sum p cs lambda mu s)

-- the first site whose sum is above its limit
unfoldable pub dual_breach : Problem → List ℕ → List ℕ → List ℕ → Option ℕ
dual_breach p cs lambda mu = first_below (is_breached p cs lambda mu) (site_count p)

-- one lambda for each later need, and one mu for each site
unfoldable pub is_dual_shape : Problem → List ℕ → List ℕ → List ℕ → Bool
is_dual_shape p cs lambda mu = length lambda == need_count p - length cs && length mu == site_count p

-- the value of a dual: the cost of the choices and the lambdas, less what the sites have left at the prices mu
unfoldable pub priced_given_by : Problem → List ℕ → List ℕ → ℕ → ℕ
priced_given_by p cs mu s = given p cs s * slice_index mu s

unfoldable pub priced_capacity_by : Problem → List ℕ → ℕ → ℕ
priced_capacity_by p mu s = capacity p s * slice_index mu s

unfoldable pub dual_credit : Problem → List ℕ → List ℕ → List ℕ → ℕ
dual_credit p cs lambda mu = cost p cs + sum lambda + sum_below (priced_given_by p cs mu) (site_count p)

unfoldable pub dual_debit : Problem → List ℕ → ℕ
dual_debit p mu = sum_below (priced_capacity_by p mu) (site_count p)

unfoldable pub dual_value : Problem → List ℕ → List ℕ → List ℕ → ℤ
dual_value p cs lambda mu = pos (dual_credit p cs lambda mu) -ℤ pos (dual_debit p mu)

-- why a node is wrong, the first reason in the order of the table; None where it is right
unfoldable pub over_fault : Problem → List ℕ → Option TreeWhy
over_fault p cs = if is_over p cs then None else Some NotOver

unfoldable pub branch_fault : Problem → List ℕ → ℕ → Option TreeWhy
branch_fault p cs children =
    if length cs == need_count p then Some Depth
    else if not (children == length (via p (length cs))) then Some Children
    else if is_crowded p cs (later p (length cs)) then Some Idle
    else None

unfoldable pub hall_fault : Problem → List ℕ → List ℕ → Option TreeWhy
hall_fault p cs names =
    if length cs == need_count p then Some Depth
    else if not (is_hall_set p (length cs) names) then Some HallSet
    else if not (is_crowded p cs names) then Some HallLoad
    else None

unfoldable pub dual_fault : Problem → List ℕ → List ℕ → List ℕ → Option TreeWhy
dual_fault p cs lambda mu =
    if length cs == need_count p then Some Depth
    else if not (is_dual_shape p cs lambda mu) then Some DualShape
    else option_map DualSum (dual_breach p cs lambda mu)

unfoldable pub full_fault : Problem → List ℕ → Option TreeWhy
full_fault p cs = if nat_lt (length cs) (need_count p) then Some Depth else None

unfoldable pub node_fault : Problem → List ℕ → Part → Option TreeWhy
node_fault p cs OverPart = over_fault p cs
node_fault p cs (BranchPart children) = if is_over p cs then Some IsOver else branch_fault p cs children
node_fault p cs (HallPart names) = if is_over p cs then Some IsOver else hall_fault p cs names
node_fault p cs (DualPart lambda mu) = if is_over p cs then Some IsOver else dual_fault p cs lambda mu
node_fault p cs FullPart = if is_over p cs then Some IsOver else full_fault p cs
