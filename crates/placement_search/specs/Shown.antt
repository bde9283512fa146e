-- What a search with more Branch nodes than a tree can have shows.
use Rattle.std.specs.Prelude.{◌≡◌, ℕ, List, [], IsTrue, Option, None, Some, is_none, pos, if◌then◌else◌}
use Rattle.bound_certificate.specs.Problem.{Problem}
use Rattle.bound_certificate.specs.Placement.{cost, fits}
use Rattle.bound_certificate.specs.Tree.{visits, bound_of}
use Rattle.bound_certificate.specs.Meaning.{IsLeastCost, NoneFits}
use Rattle.bound_certificate.specs.declared.tree.Tree.{Tree}
use Rattle.bound_certificate.specs.declared.outcome.Outcome.{Outcome}
use Rattle.bound_certificate.specs.declared.outcome.Outcome.TheVariants.{Placed, Infeasible, Spent}

-- a placement of least cost whose bound is its cost, or none fits
abbrev pub IsSettled : Problem → Outcome → Type 0
IsSettled p (Placed placement tree) =
    IsTrue (fits p placement.sites) × IsLeastCost p (cost p placement.sites)
    × (bound_of p (visits p tree []) ≡ Some (pos (cost p placement.sites)))
IsSettled p (Infeasible tree) = NoneFits p
IsSettled p (Spent tree) = ⊥

-- a tree without a placement: none fits where it has no bound, else all Branch nodes were spent
unfoldable pub unplaced : Problem → Tree → Outcome
unplaced p tree = if is_none (bound_of p (visits p tree [])) then Infeasible tree else Spent tree

-- the best placement with the tree, or the tree without one
unfoldable pub concluded : Problem → Option ℕ → List ℕ → Tree → Outcome
concluded p None sites tree = unplaced p tree
concluded p (Some c) sites tree = Placed (record { sites = sites }) tree
