-- The prices of a dual.
use Rattle.std.specs.Prelude.{◌≡◌, ℕ, ◌+◌, ◌<◌, ◌^◌, List, length, All}
use Rattle.bound_certificate.specs.Problem.{Problem, site_count, need_count}

-- one lambda for each need without a choice and one mu for each site, all below 2^56
pub record ArePrices (p : Problem) (cs lambda mu : List ℕ) : Type 0 where
  pub lambdas : length cs + length lambda ≡ need_count p
  pub mus : length mu ≡ site_count p
  pub small_lambdas : All (λ x. x < 2 ^ 56) lambda
  pub small_mus : All (λ x. x < 2 ^ 56) mu
