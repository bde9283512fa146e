-- What is written, with the numbers that are left, is what is to be written.
use Rattle.std.proofs.Common.{◌≡◌, ◌++◌, drop}
use Rattle.certificate_text.specs.Bytes.{in_eights}
use Rattle.certificate_text.proofs.bytes.put_numbers.Given as goal

abbrev pub invariant-loop-number : goal.invariant-loop-number
invariant-loop-number l =
    l.out.items ++ in_eights (drop l.number-index l.numbers) ≡ l.initial.out.items ++ in_eights l.numbers
