-- The lines of an epoch in a report.
use Rattle.std.specs.Prelude.{ℕ, ◌-◌, ◌==◌, List, [], ◌++◌, length, if◌then◌else◌}
use Rattle.change_report.specs.Form.{Form, change_block, epoch_block}
use Rattle.flow_keys.specs.declared.routed.Routed.{Routed}
use Rattle.routed_trace.specs.Routed.{items_in}
use Rattle.sketch_merge.specs.Merged.{View}

-- the lines of an epoch, and behind those of the first the lines of the change to it
unfoldable pub epoch_text : Form → ℕ → ℕ → List Routed → (ℕ → View) → ℕ → List ℕ
epoch_text form seed heavy routed view epoch =
    epoch_block form seed heavy epoch (length (items_in epoch routed)) (view epoch)
    ++ (if epoch == 0 then [] else change_block form seed heavy epoch (view (epoch - 1)) (view epoch))
