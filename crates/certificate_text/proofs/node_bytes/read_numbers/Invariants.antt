-- The numbers so far stand at the front, and what is no others behind them is no whole.
use Rattle.std.proofs.Common.{◌-◌, w64}
use Rattle.std.specs.Int.{to_le_bytes}
use Rattle.certificate_text.specs.Bytes.{in_eights}
use Rattle.certificate_text.specs.ReadNode.{IsPrice, no_cost}
use Rattle.certificate_text.specs.Reading.{Stands, Several}
use Rattle.certificate_text.proofs.Severals.{Hangs}
use Rattle.certificate_text.proofs.node_bytes.read_numbers.Given as goal

abbrev pub invariant-loop : goal.invariant-loop
invariant-loop l = record {
  front : Stands (Several IsPrice no_cost l.counter 0) in_eights l.bytes l.numbers l.at;
  hangs : Hangs IsPrice (λ x. to_le_bytes w64 x) no_cost l.count 0 l.bytes (l.count - l.counter) 0 l.at;
}
