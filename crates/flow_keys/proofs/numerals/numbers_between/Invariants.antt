use Rattle.std.proofs.Common.{length, ◌≡◌, ◌≤◌, ◌==◌}
use Rattle.std.specs.List.{slice_split}
use Rattle.flow_keys.specs.Prefix.{numbers_of}
use Rattle.flow_keys.proofs.Parts.{numbers_behind}
use Rattle.flow_keys.proofs.numerals.numbers_between.Given as goal

abbrev pub invariant-loop-part : goal.invariant-loop-part
invariant-loop-part l =
    (length l.numbers.items ≤ 8)
    × (numbers_of l.base l.most (slice_split (λ byte. byte == l.separator) l.text)
    ≡ numbers_behind l.base l.most l.numbers.items (slice_split (λ byte. byte == l.separator) l.rest))

abbrev pub decreases-loop-part : goal.decreases-loop-part
decreases-loop-part l = length l.rest
