-- The numbers of a sketch, as clauses see them.
use Rattle.std.specs.Prelude.{ℕ}
use Rattle.hash_family.specs.declared.params.Params.{Params}

-- the numbers of a sketch: its highest level, rows and width of each level, keys in a level's heap, and seed
pub record Setting : Type 0 where
  pub levels : ℕ
  pub rows : ℕ
  pub width : ℕ
  pub heap : ℕ
  pub seed : ℕ

abbrev pub setting_of : Params → Setting
setting_of params =
    record { levels = params.levels; rows = params.rows; width = params.width; heap = params.heap; seed = params.seed }
