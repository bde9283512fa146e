use Rattle.std.proofs.Common.{◌≡◌, ◌<◌, ◌≤◌, ◌-◌, ℕ, List, IfSome, length, slice_index_or, string_bytes}
use Rattle.mon_central.specs.Central.{epochs_lines}
use Rattle.flow_keys.specs.declared.routed.Routed.{Routed}
use Rattle.routed_trace.specs.Routed.{items_in}
use Rattle.mon_central.specs.Sketched.{IsEarlier, IsMerged, Splits}
use Rattle.mon_central.specs.declared.gathering.Gathered.{Gathered}
use Rattle.mon_central.proofs.blocks.epochs_text.Given as goal

abbrev pub invariant-loop-epoch : goal.invariant-loop-epoch
invariant-loop-epoch l =
    ((routed : List Routed) → Splits l.setting l.initial.sketches routed
    → string_bytes l.text ≡ epochs_lines l.setting routed l.epoch)
    × ((routed : List Routed) → Splits l.setting l.initial.sketches routed
    → IsEarlier l.setting l.epoch (items_in (l.epoch - 1) routed) l.before)
    × IfSome l.before (λ view. (0 < l.epoch) × IsMerged l.setting view)
    × (length l.sketches ≡ length l.initial.sketches)
    × ((k : ℕ) (d : Gathered) → l.epoch ≤ k → slice_index_or l.sketches k d ≡ slice_index_or l.initial.sketches k d)
