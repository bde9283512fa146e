-- The numbers of a sketch within their limits.
use Rattle.std.proofs.Common.{ℕ, ◌*◌, ◌<◌, ◌≤◌, arith}
use Rattle.std.specs.Bool.{IsTrue}
use Rattle.std.proofs.lemmas.Bool.Decides.{nat_tests}
use Rattle.std.proofs.Math.Nat.{mul-pos, mul-lt-mul_of_pos_right}
use Rattle.hash_family.specs.Limits.{are_within}
use Rattle.hash_family.specs.Setting.{Setting}
use Rattle.reply_format.specs.Reply.{counter_count, row_count}

module _ (levels rows width heap : ℕ) (within : IsTrue (are_within levels rows width heap)) where
  pub few_levels : levels ≤ 16
  few_levels = grind (arith, nat_tests)

  pub some_rows : 0 < rows
  some_rows = grind (arith, nat_tests)

  pub few_rows : rows ≤ 7
  few_rows = grind (arith, nat_tests)

  pub some_width : 16 ≤ width
  some_width = grind (arith, nat_tests)

  pub small_width : width ≤ 2048
  small_width = grind (arith, nat_tests)

  pub some_heap : 1 ≤ heap
  some_heap = grind (arith, nat_tests)

  pub small_heap : heap ≤ 1024
  small_heap = grind (arith, nat_tests)

pub some_counters : (setting : Setting) → IsTrue (are_within setting.levels setting.rows setting.width setting.heap)
    → 0 < counter_count setting
some_counters setting within =
    let rows : 0 < setting.rows = some_rows setting.levels setting.rows setting.width setting.heap within in
    let width : 16 ≤ setting.width = some_width setting.levels setting.rows setting.width setting.heap within in
    mul-pos (mul-pos (omega arith) rows) (omega (arith, width))

-- the counters before a row are fewer than all
pub rows_less : (setting : Setting) → IsTrue (are_within setting.levels setting.rows setting.width setting.heap)
    → (row : ℕ) → row < row_count setting
    → row * setting.width < counter_count setting
rows_less setting within row less =
    let width : 16 ≤ setting.width = some_width setting.levels setting.rows setting.width setting.heap within in
    mul-lt-mul_of_pos_right less (omega (arith, width))
