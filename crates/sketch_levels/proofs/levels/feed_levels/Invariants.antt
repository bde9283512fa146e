use Rattle.std.proofs.Common.{◌≡◌, ℕ, ◌<◌, ◌≤◌, get_or}
use Rattle.sketch_levels.specs.Levels.{Layer, Takes}
use Rattle.sketch_levels.proofs.levels.feed_levels.Given as goal

abbrev pub invariant-loop-number : goal.invariant-loop-number
invariant-loop-number l = record {
  fed : (level : ℕ) (d : Layer) → level < l.number
      → Takes l.family level (record { key = l.key; weight = l.weight }) (get_or l.fn.levels level d)
      (get_or l.levels level d);
  rest : (level : ℕ) (d : Layer) → l.number ≤ level → get_or l.levels level d ≡ get_or l.fn.levels level d;
}
