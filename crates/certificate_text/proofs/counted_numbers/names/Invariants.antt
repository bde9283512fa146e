-- The names so far are spelled before what is left.
use Rattle.certificate_text.specs.Numeral.{IsSpelled}
use Rattle.certificate_text.proofs.counted_numbers.names.Given as goal

abbrev pub invariant-loop : goal.invariant-loop
invariant-loop l = IsSpelled 64 l.counter l.bytes l.names l.rest
