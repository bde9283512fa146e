-- The limits of a problem.
use Rattle.std.specs.Prelude.{◌≢◌, ℕ, ◌<◌, ◌≤◌, List, length, All, AllPairs}
use Rattle.bound_certificate.specs.declared.site.Site.{Site}
use Rattle.bound_certificate.specs.declared.need.Need.{Need}

-- a load of at least 1, and a via of 1 to 8 different numbers, each below the number of sites
pub record IsNeed (sites : ℕ) (need : Need) : Type 0 where
  pub loaded : 1 ≤ need.load
  pub some : 1 ≤ length need.via
  pub few : length need.via ≤ 8
  pub known : All (λ site. site < sites) need.via
  pub distinct : AllPairs (λ a b. a ≢ b) need.via

-- 1 to 32 sites, and 1 to 64 needs within their limits
pub record IsWithin (sites : List Site) (needs : List Need) : Type 0 where
  pub some_sites : 1 ≤ length sites
  pub few_sites : length sites ≤ 32
  pub some_needs : 1 ≤ length needs
  pub few_needs : length needs ≤ 64
  pub each : All (IsNeed (length sites)) needs
