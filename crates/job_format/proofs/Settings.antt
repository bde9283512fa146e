-- The limits of a sketch's numbers, one by one.
use Rattle.std.proofs.Common.{◌≡◌, ◌<◌, ℕ, ◌^◌, ◌&&◌, nat_le, true, arith}
use Rattle.std.proofs.lemmas.Bool.{and_from, and_parts}
use Rattle.std.proofs.lemmas.Bool.Decides.{nat_tests}
use Rattle.hash_family.specs.Limits.{are_within, is_rows, is_width}
use Rattle.hash_family.specs.Setting.{Setting}
use Rattle.job_format.specs.Job.{IsSetting}

pub record PassesTests (setting : Setting) : Type 0 where
  pub levels : nat_le setting.levels 16 ≡ true
  pub rows : is_rows setting.rows ≡ true
  pub width : is_width setting.width ≡ true
  pub heap : (nat_le 1 setting.heap && nat_le setting.heap 1024) ≡ true

pub tests_of : (setting : Setting) → IsSetting setting → PassesTests setting
tests_of setting is =
    let within : are_within setting.levels setting.rows setting.width setting.heap ≡ true = is.within in
    let (to_low, high) = and_parts _ _ within in
    let (to_width, low) = and_parts _ _ to_low in
    let (to_rows, width) = and_parts _ _ to_width in
    let (levels, rows) = and_parts _ _ to_rows in
    record { levels = levels; rows = rows; width = width; heap = and_from _ _ low high }

pub setting_from : (setting : Setting) → PassesTests setting → setting.seed < 2 ^ 64 → IsSetting setting
setting_from setting passes seed =
    let low_high = and_parts (nat_le 1 setting.heap) (nat_le setting.heap 1024) passes.heap in
    record {
      within =
          and_from _ _ (and_from _ _ (and_from _ _ (and_from _ _ passes.levels passes.rows) passes.width) low_high.0)
          low_high.1;
      seed = seed;
    }

-- they fit their fields
pub width_fits : (width : ℕ) → is_width width ≡ true → width < 2 ^ 16
width_fits width is = grind (arith, nat_tests)

pub heap_fits : (heap : ℕ) → (nat_le 1 heap && nat_le heap 1024) ≡ true → heap < 2 ^ 16
heap_fits heap is = grind (arith, nat_tests)
