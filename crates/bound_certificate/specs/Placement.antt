-- What choices of sites mean: the load they give to a site, and what they cost. The choices are those of the
-- first needs, one number of a site each, in order; a placement has one for each need.
use Rattle.std.specs.Prelude.{◌≡◌, ◌<◌, ◌≤◌, ℕ, zero, suc, ◌+◌, ◌*◌, ◌==◌, ◌&&◌, nat_le, Bool, true, List, [], ◌∷◌, ◌++◌, length, slice_index, find, option_and_then, Option, Some, if◌then◌else◌}
use Rattle.bound_certificate.specs.Problem.{Problem, site_count, need_count, capacity, opening, unit, load, via}
use Rattle.bound_certificate.specs.Sums.{sum_below, all_below, has}

-- what need i gives to site s: its load, where s is chosen for it
unfoldable pub given_by : Problem → List ℕ → ℕ → ℕ → ℕ
given_by p cs s i = if slice_index cs i == s then load p i else 0

-- the load that the choices give to a site
unfoldable pub given : Problem → List ℕ → ℕ → ℕ
given p cs s = sum_below (given_by p cs s) (length cs)

-- what site s costs to open: nothing where it is not chosen
unfoldable pub opened_by : Problem → List ℕ → ℕ → ℕ
opened_by p cs s = if has cs s then opening p s else 0

-- the cost of opening the chosen sites, each once
unfoldable pub opened : Problem → List ℕ → ℕ
opened p cs = sum_below (opened_by p cs) (site_count p)

-- what it costs to serve need i from site s
unfoldable pub service : Problem → ℕ → ℕ → ℕ
service p s i = unit p s * load p i

-- what need i costs at its choice
unfoldable pub served_by : Problem → List ℕ → ℕ → ℕ
served_by p cs i = service p (slice_index cs i) i

-- the cost of serving the needs that have a choice
unfoldable pub served : Problem → List ℕ → ℕ
served p cs = sum_below (served_by p cs) (length cs)

-- the cost of choices: opening the chosen sites, and serving the needs
unfoldable pub cost : Problem → List ℕ → ℕ
cost p cs = opened p cs + served p cs

-- whether the choice of need i is one of its via
unfoldable pub is_chosen : Problem → List ℕ → ℕ → Bool
is_chosen p cs i = has (via p i) (slice_index cs i)

-- choices for the first needs, or for all of them, each of the need's via
pub record AreChoices (p : Problem) (cs : List ℕ) : Type 0 where
  pub few : length cs ≤ need_count p
  pub each : (i : ℕ) → i < length cs → is_chosen p cs i ≡ true

-- one site of its via for each need
unfoldable pub is_placement : Problem → List ℕ → Bool
is_placement p cs = length cs == need_count p && all_below (is_chosen p cs) (length cs)

-- whether a site's loads are within its capacity
unfoldable pub is_within_capacity : Problem → List ℕ → ℕ → Bool
is_within_capacity p cs s = nat_le (given p cs s) (capacity p s)

-- a placement fits where no site's loads are above its capacity
unfoldable pub fits : Problem → List ℕ → Bool
fits p cs = is_placement p cs && all_below (is_within_capacity p cs) (site_count p)

-- whether a site has room left for the next need
unfoldable pub has_room : Problem → List ℕ → ℕ → Bool
has_room p cs s = nat_le (given p cs s + load p (length cs)) (capacity p s)

-- the first site of the next need's via with room left
unfoldable pub first_with_room : Problem → List ℕ → Option ℕ
first_with_room p cs = find (has_room p cs) (via p (length cs))

-- the choices followed by one for each of n more needs in order: the first site of its via with room left
unfoldable pub completed : Problem → List ℕ → ℕ → Option (List ℕ)
completed p cs zero = Some cs
completed p cs (suc n) =
    option_and_then (λ s. completed p (cs ++ s ∷ []) n) (first_with_room p cs)

-- the placement that gives each need, in order, to the first site of its via with room left; none where a need
-- finds none
unfoldable pub first_fit : Problem → Option (List ℕ)
first_fit p = completed p [] (need_count p)
