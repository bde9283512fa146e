-- The slots of a table.
use Rattle.std.specs.Prelude.{◌≡◌, List, length, Option, Some, None, All}
use Rattle.hash_family.specs.Setting.{Setting}
use Rattle.spot_table.specs.Known.{IsKnown}
use Rattle.spot_table.specs.declared.slot.Slot.{Slot}

-- a slot holds no key, or a key with what is known of it
abbrev pub IsSlot : Setting → Option Slot → Type 0
IsSlot setting None = Unit
IsSlot setting (Some slot) = IsKnown setting slot.key slot.known

-- what every table's slots are: so many, and each of them a slot
pub record AreSlots (setting : Setting) (slots : List (Option Slot)) : Type 0 where
  pub number : length slots ≡ 4096
  pub each : All (IsSlot setting) slots
