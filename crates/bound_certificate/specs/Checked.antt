-- What the check of a part of a tree gives.
use Rattle.std.specs.Prelude.{◌≡◌, ℕ, ◌+◌, ◌≤◌, List, length, None}
use Rattle.bound_certificate.specs.Problem.{Problem}
use Rattle.bound_certificate.specs.Tree.{Visit, first_fault, verdict_of, joined}
use Rattle.bound_certificate.specs.declared.tally.Tally.{Tally}

-- none of these nodes, numbered on from those of a tally, is wrong, and the new tally has them, too
pub record Adds (p : Problem) (number : ℕ) (own : Tally) (vs : List Visit) (tally : Tally) : Type 0 where
  pub faultless : first_fault p (number + own.nodes) vs ≡ None
  pub verdict : tally.verdict ≡ joined own.verdict (verdict_of p vs)
  pub nodes : tally.nodes ≡ own.nodes + length vs
  pub few : tally.verdict.branches ≤ tally.nodes

-- none of these nodes is wrong, and the tally has them
pub record IsTallied (p : Problem) (number : ℕ) (vs : List Visit) (tally : Tally) : Type 0 where
  pub faultless : first_fault p number vs ≡ None
  pub verdict : tally.verdict ≡ verdict_of p vs
  pub nodes : tally.nodes ≡ length vs
  pub few : tally.verdict.branches ≤ tally.nodes
