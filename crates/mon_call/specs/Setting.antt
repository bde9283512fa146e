-- The numbers of a sketch, as words give them.
use Rattle.std.specs.Prelude.{◌&&◌, nat_le, Bool, true}
use Rattle.std.specs.Option.{option_map_or}
use Rattle.hash_family.specs.Limits.{is_rows, is_width}
use Rattle.mon_words.specs.Values.{Values}
use Rattle.mon_call.specs.declared.setting.Setting.{Setting}

-- the numbers of a sketch, how the trace is divided, and what is printed
abbrev pub setting_in : Values → Setting
setting_in values = record {
  seed = values.seed;
  levels = values.levels;
  rows = values.rows;
  width = values.width;
  heap = values.heap;
  division = record { seconds = values.epoch; bytes = values.bytes };
  heavy = values.heavy;
}

-- the numbers within their limits, where a heap of 0 keeps every live key
abbrev pub is_setting : Setting → Bool
is_setting setting =
    nat_le setting.levels 16 && is_rows setting.rows && is_width setting.width && nat_le setting.heap 1024
    && option_map_or (nat_le 1) setting.division.seconds true && nat_le 1 setting.heavy && nat_le setting.heavy 1000
