-- The lines of an epoch.
use Rattle.std.specs.Prelude.{ℤ, ℕ, ◌+◌, Bool, List, [], ◌∷◌, ◌++◌, codes, decimal, if◌then◌else◌}
use Rattle.std.specs.Fmt.{signed_decimal}
use Rattle.std.specs.List.{flat_map}
use Rattle.flow_keys.specs.Text.{text_of}
use Rattle.sketch_merge.specs.Merged.{View}
use Rattle.recursive_sum.specs.Select.{heavy_keys}
use Rattle.recursive_sum.specs.Sum.{recursive_sum}
use Rattle.recursive_sum.specs.declared.measure.G.TheVariants.{One, Value}
use Rattle.change_report.specs.declared.level_count.LevelCount.{LevelCount}

-- whether a heap dropped a key, in a word
unfoldable pub mark_text : Bool → List ℕ
mark_text dropped = if dropped then codes "dropped" else codes "kept"

-- the line of an epoch: its number, its packets, their weight, and whether a heap dropped a key
unfoldable pub epoch_line : ℕ → ℕ → View → List ℕ
epoch_line epoch packets view =
    codes "epoch " ++ (decimal epoch ++ (codes " packets " ++ (decimal packets
    ++ (codes " weight " ++ (decimal view.weight ++ (codes " heaps " ++ (mark_text view.dropped ++ codes "\n")))))))

-- the line of a level
unfoldable pub level_line : ℕ → LevelCount → List ℕ
level_line level count =
    codes "level " ++ (decimal level ++ (codes " packets " ++ (decimal count.packets
    ++ (codes " weight " ++ (decimal count.weight ++ (codes " keys " ++ (decimal count.keys
    ++ (codes " nonzero " ++ (decimal count.nonzero ++ codes "\n")))))))))

-- the lines of levels, from a number on
unfoldable pub level_lines : ℕ → List LevelCount → List ℕ
level_lines level [] = []
level_lines level (count ∷ counts) = level_line level count ++ level_lines (level + 1) counts

-- the line of the number of keys, by the recursive sum
unfoldable pub cardinality_line : ℤ → List ℕ
cardinality_line sum = codes "cardinality " ++ (signed_decimal sum ++ codes "\n")

-- the line of the weight, by the recursive sum
unfoldable pub total_line : ℤ → List ℕ
total_line sum = codes "total " ++ (signed_decimal sum ++ codes "\n")

-- the line of a heavy key with its estimate
unfoldable pub heavy_line : (List ℕ × ℤ) → List ℕ
heavy_line pair = codes "heavy " ++ (text_of pair.0 ++ (codes " weight " ++ (signed_decimal pair.1 ++ codes "\n")))

-- the lines of heavy keys
abbrev pub heavy_lines : List (List ℕ × ℤ) → List ℕ
heavy_lines pairs = flat_map heavy_line pairs

-- the lines of an epoch: of the epoch, of its levels, of its measures, and of the heavy keys
unfoldable pub block_text : ℕ → ℕ → ℕ → View → List LevelCount → ℕ → List ℕ
block_text seed epoch packets view counts per_mille =
    epoch_line epoch packets view ++ (level_lines 0 counts ++ (cardinality_line (recursive_sum seed One view)
    ++ (total_line (recursive_sum seed Value view) ++ heavy_lines (heavy_keys seed per_mille view))))
