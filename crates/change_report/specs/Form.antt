-- The lines of an epoch and of a change: all of them, or the few.
use Rattle.std.specs.Prelude.{ℕ, List, [], ◌++◌}
use Rattle.sketch_merge.specs.Merged.{View}
use Rattle.recursive_sum.specs.Sum.{recursive_sum}
use Rattle.recursive_sum.specs.declared.measure.G.TheVariants.{One, Value}
use Rattle.change_report.specs.Block.{block_text, cardinality_line, epoch_line, total_line}
use Rattle.change_report.specs.Change.{change_line, change_lines, change_total}

-- how much is written: all lines, or the few that name no key
pub data Form : Type 0 where
  Whole : Form
  Brief : Form

-- the lines of an epoch of so many packets, without those of levels
unfoldable pub epoch_block : Form → ℕ → ℕ → ℕ → ℕ → View → List ℕ
epoch_block Whole seed heavy epoch packets view = block_text seed epoch packets view [] heavy
epoch_block Brief seed heavy epoch packets view =
    epoch_line epoch packets view
    ++ (cardinality_line (recursive_sum seed One view) ++ total_line (recursive_sum seed Value view))

-- the lines of the change to an epoch from the one before
unfoldable pub change_block : Form → ℕ → ℕ → ℕ → View → View → List ℕ
change_block Whole seed heavy epoch before after = change_lines seed epoch before after heavy
change_block Brief seed heavy epoch before after = change_line epoch (change_total seed before after)
