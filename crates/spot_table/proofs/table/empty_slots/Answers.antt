use Rattle.std.proofs.Common.{◌≡◌, None, Option, Some, refl, ap, length, ◌∙◌}
use Rattle.std.proofs.lemmas.List.{length-replicate}
use Rattle.std.proofs.lemmas.List.Elements.{All-replicate}
use Rattle.spot_table.specs.Table.{IsSlot}
use Rattle.spot_table.specs.declared.slot.Slot.{Slot}
use Rattle.spot_table.proofs.table.empty_slots.Goals as goal

-- of what no slot with a key is, only the empty slot is
only_empty : (P : Option Slot → Type 0) → ((slot : Slot) → P (Some slot) → ⊥) → (y : Option Slot) → P y → y ≡ None
only_empty P none None is = refl
only_empty P none (Some slot) is = absurd (none slot is)

pub returns-in-Ok : goal.returns-in-Ok
returns-in-Ok c = λ setting.
    let items = c.in-Ok.ensures.items_if_clones_equal (only_empty _ (λ slot h. h)) in
    record {
      number = ap length items ∙ length-replicate {A = Option Slot} 4096 None;
      each = rw items (All-replicate (IsSlot setting) 4096 None tt);
    }
