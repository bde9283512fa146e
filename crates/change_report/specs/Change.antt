-- What changed from an epoch to the next.
use Rattle.std.specs.Prelude.{ℤ, ℕ, ◌-◌, List, ◌++◌, map, codes, decimal}
use Rattle.std.specs.Fmt.{signed_decimal}
use Rattle.std.specs.List.{flat_map}
use Rattle.flow_keys.specs.Text.{text_of}
use Rattle.sketch_merge.specs.Merged.{View, difference, keys_at}
use Rattle.recursive_sum.specs.Select.{selection}
use Rattle.recursive_sum.specs.Sum.{estimate_at, recursive_sum}
use Rattle.recursive_sum.specs.declared.measure.G.TheVariants.{Abs}

-- the most keys of a level
abbrev pub key_limit : ℕ
key_limit = 1048576

-- the sum of the absolute changes: over the later counters less the earlier ones, and the keys of both
abbrev pub change_total : ℕ → View → View → ℤ
change_total seed before after = recursive_sum seed Abs (difference after before)

-- the keys of level 0 with their estimates
unfoldable pub estimate_pairs : ℕ → View → List (List ℕ × ℤ)
estimate_pairs seed view = map (λ key. (key, estimate_at seed view 0 key)) (keys_at view 0)

-- the keys of level 0 of either epoch with their changes, signed
abbrev pub change_pairs : ℕ → View → View → List (List ℕ × ℤ)
change_pairs seed before after = estimate_pairs seed (difference after before)

-- the changed keys: those of at least so many thousandths of the sum of all changes
abbrev pub changed_keys : ℕ → ℕ → View → View → List (List ℕ × ℤ)
changed_keys seed per_mille before after =
    selection per_mille (change_total seed before after) (change_pairs seed before after)

-- the line of a change: both epochs' numbers, and the sum of the changes
unfoldable pub change_line : ℕ → ℤ → List ℕ
change_line epoch total =
    codes "change " ++ (decimal (epoch - 1) ++ (codes " " ++ (decimal epoch
    ++ (codes " total " ++ (signed_decimal total ++ codes "\n")))))

-- the line of a changed key with its change
unfoldable pub changed_line : (List ℕ × ℤ) → List ℕ
changed_line pair = codes "changed " ++ (text_of pair.0 ++ (codes " by " ++ (signed_decimal pair.1 ++ codes "\n")))

-- the lines of changed keys
abbrev pub changed_lines : List (List ℕ × ℤ) → List ℕ
changed_lines pairs = flat_map changed_line pairs

-- the lines of the change to an epoch from the one before
unfoldable pub change_lines : ℕ → ℕ → View → View → ℕ → List ℕ
change_lines seed epoch before after per_mille =
    change_line epoch (change_total seed before after) ++ changed_lines (changed_keys seed per_mille before after)
