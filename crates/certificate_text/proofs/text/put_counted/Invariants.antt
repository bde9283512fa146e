-- What is written, with the numbers that are left, is what is to be written.
use Rattle.std.proofs.Common.{◌≡◌, ◌++◌, drop}
use Rattle.std.specs.Prelude.{string_bytes}
use Rattle.std.specs.List.{flat_map}
use Rattle.certificate_text.specs.Text.{spaced}
use Rattle.certificate_text.proofs.text.put_counted.Given as goal

abbrev pub invariant-loop-number : goal.invariant-loop-number
invariant-loop-number l =
    string_bytes l.text ++ flat_map spaced
    (drop l.number-index l.numbers) ≡ string_bytes l.initial.text ++ flat_map spaced l.numbers
