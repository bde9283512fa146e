-- The limits of the numbers of a search.
use Rattle.std.specs.Prelude.{◌≤◌}
use Rattle.solve_phase.specs.declared.solving.Solving.{Solving}

pub record IsSolving (solving : Solving) : Type 0 where
  pub nodes_from : 1 ≤ solving.nodes
  pub nodes_to : solving.nodes ≤ 4096
  pub window_from : 1 ≤ solving.window
  pub window_to : solving.window ≤ 32
  pub restarts_to : solving.restarts ≤ 16
