-- Two reports that differ in the packets and the sketches of their epochs.
use Rattle.std.proofs.Common.{◌≡◌, ℕ, ◌<◌, ℤ, Bool, List, ◌++◌, ap, codes, arith}
use Rattle.bound_certificate.specs.Placement.{cost}
use Rattle.change_report.specs.Form.{Form}
use Rattle.change_report.specs.Head.{counts_line, sketch_line}
use Rattle.hash_family.specs.Setting.{Setting}
use Rattle.sketch_merge.specs.Merged.{View}
use Rattle.topology.specs.Topology.{Topo}
use Rattle.measure_report.specs.Report.{epoch_text, placed_lines, placement_line, report_text, title}
use Rattle.measure_report.proofs.EpochLines.{same_lines}
use Rattle.measure_report.proofs.Pieces.{same_pieces}

module _ (form : Form) (topo : Topo) (setting : Setting) (bytes : Bool) (heavy packets keyed routed epochs : ℕ)
    (packets_in others_in : ℕ → ℕ) (placement : List ℕ) (bound : ℤ) (view other : ℕ → View)
  where
    -- where the lines of each epoch are the same, so is the text
    pub report_by_lines : ((epoch : ℕ) → epoch < epochs
        → epoch_text form setting.seed heavy packets_in view epoch
        ≡ epoch_text form setting.seed heavy others_in other epoch)
        → report_text form topo setting bytes heavy packets keyed routed epochs packets_in placement bound view
        ≡ report_text form topo setting bytes heavy packets keyed routed epochs others_in placement bound other
    unfolding report_text
    report_by_lines same =
        ap (λ (lines : List ℕ). title form ++ (counts_line packets keyed routed ++ (sketch_line setting bytes
        ++ (placement_line (cost topo.problem placement) bound ++ (placed_lines form topo placement
        ++ (lines ++ codes "end\n"))))))
        (same_pieces (epoch_text form setting.seed heavy packets_in view)
        (epoch_text form setting.seed heavy others_in other) 0 epochs
        (λ k low below. same k (omega (arith, below))))

    -- where the packets and the sketches of each epoch are the same, so is the text
    pub same_report : ((epoch : ℕ) → epoch < epochs → packets_in epoch ≡ others_in epoch)
        → ((epoch : ℕ) → epoch < epochs → view epoch ≡ other epoch)
        → report_text form topo setting bytes heavy packets keyed routed epochs packets_in placement bound view
        ≡ report_text form topo setting bytes heavy packets keyed routed epochs others_in placement bound other
    same_report counts views =
        report_by_lines
        (λ k below. same_lines form setting.seed heavy epochs packets_in others_in view other k counts views below)
