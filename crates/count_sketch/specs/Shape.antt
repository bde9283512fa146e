-- The shape of a sketch's counters.
use Rattle.std.specs.Prelude.{◌≡◌, ℕ, ◌*◌, List, length, IsTrue, ℤ, ◌^◌, ◌-◌}
use Rattle.hash_family.specs.Limits.{is_rows, is_width}
use Rattle.count_sketch.specs.Counters.{AllUpTo}

-- rows and width within the limits, a counter at each place, and none of them the least i64
pub record IsShaped (rows width : ℕ) (counters : List ℤ) : Type 0 where
  pub rows_within : IsTrue (is_rows rows)
  pub width_within : IsTrue (is_width width)
  pub size : length counters ≡ rows * width
  pub each : AllUpTo (2 ^ 63 - 1) counters
