-- The limits of a sketch's numbers.
use Rattle.std.specs.Prelude.{ℕ, ◌==◌, ◌&&◌, ◌||◌, nat_le, Bool}

-- a level's number of rows
abbrev pub is_rows : ℕ → Bool
is_rows rows = rows == 1 || rows == 3 || rows == 5 || rows == 7

-- a power of two from 16 to 2048: the counters in a row
abbrev pub is_width : ℕ → Bool
is_width width =
    width == 16 || width == 32 || width == 64 || width == 128
    || width == 256 || width == 512 || width == 1024 || width == 2048

-- the most counters of a level: 7 rows of 2048
abbrev pub most_counters : ℕ
most_counters = 14336

-- the numbers of a sketch: the highest level, rows, width, and the keys in a level's heap
abbrev pub are_within : ℕ → ℕ → ℕ → ℕ → Bool
are_within levels rows width heap =
    nat_le levels 16 && is_rows rows && is_width width && nat_le 1 heap && nat_le heap 1024
