-- The text of a finished measure, or its few lines.
use Rattle.std.specs.Prelude.{ℕ, ◌-◌, ◌==◌, ℤ, pos, Bool, List, [], ◌++◌, codes, decimal, if◌then◌else◌}
use Rattle.std.specs.Fmt.{signed_decimal}
use Rattle.std.specs.List.{flat_map, range_with_len}
use Rattle.std.specs.Ordering.{int_eq}
use Rattle.hash_family.specs.Setting.{Setting}
use Rattle.bound_certificate.specs.Placement.{cost}
use Rattle.topology.specs.Topology.{Topo}
use Rattle.sketch_merge.specs.Merged.{View}
use Rattle.change_report.specs.Form.{Form, Whole, Brief, change_block, epoch_block}
use Rattle.change_report.specs.Head.{counts_line, sketch_line}
use Rattle.outcome_report.specs.Outcome.{path_lines, switch_lines}

-- the first line
abbrev pub title : Form → List ℕ
title Whole = codes "univmon measure 1\n"
title Brief = codes "univmon drill 1\n"

-- a placement whose cost is the bound is of least cost
abbrev pub standing_word : ℕ → ℤ → List ℕ
standing_word cost bound = if int_eq bound (pos cost) then codes "optimal" else codes "unfinished"

-- the line of a placement's cost, and of the bound below all costs
unfoldable pub placement_line : ℕ → ℤ → List ℕ
placement_line cost bound =
    codes "placement " ++ (standing_word cost bound ++ (codes " cost " ++ (decimal cost
    ++ (codes " bound " ++ (signed_decimal bound ++ codes "\n")))))

-- the lines of the paths and of the switches, which the few lines leave out
unfoldable pub placed_lines : Form → Topo → List ℕ → List ℕ
placed_lines Whole topo placement = path_lines topo placement ++ switch_lines topo placement
placed_lines Brief topo placement = []

-- the lines of an epoch, and behind those of the first the lines of the change to it, of the packets and the sketch of
-- each epoch
unfoldable pub epoch_text : Form → ℕ → ℕ → (ℕ → ℕ) → (ℕ → View) → ℕ → List ℕ
epoch_text form seed heavy packets_in view epoch =
    epoch_block form seed heavy epoch (packets_in epoch) (view epoch)
    ++ (if epoch == 0 then [] else change_block form seed heavy epoch (view (epoch - 1)) (view epoch))

-- the whole text: the packets of the trace, the numbers of the sketch, the placement and the bound, and so many epochs
unfoldable pub report_text : Form → Topo → Setting → Bool → ℕ → ℕ → ℕ → ℕ → ℕ → (ℕ → ℕ) → List ℕ → ℤ → (ℕ → View)
    → List ℕ
report_text form topo setting bytes heavy packets keyed routed epochs packets_in placement bound view =
    title form ++ (counts_line packets keyed routed ++ (sketch_line setting bytes
    ++ (placement_line (cost topo.problem placement) bound ++ (placed_lines form topo placement
    ++ (flat_map (epoch_text form setting.seed heavy packets_in view) (range_with_len 0 epochs) ++ codes "end\n")))))
