-- Big-endian numbers by their place in a list of bytes. A byte past the end counts as 0.
use Rattle.std.specs.Prelude.{ℕ, ◌+◌, ◌*◌, List, slice_index}

abbrev pub big_16 : List ℕ → ℕ → ℕ
big_16 bytes at = 256 * slice_index bytes at + slice_index bytes (at + 1)

abbrev pub big_32 : List ℕ → ℕ → ℕ
big_32 bytes at = 65536 * big_16 bytes at + big_16 bytes (at + 2)
