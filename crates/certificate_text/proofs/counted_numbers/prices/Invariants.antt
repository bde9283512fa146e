-- The numbers so far are spelled before what is left.
use Rattle.std.proofs.Common.{◌^◌}
use Rattle.certificate_text.specs.Numeral.{IsSpelled}
use Rattle.certificate_text.proofs.counted_numbers.prices.Given as goal

abbrev pub invariant-loop : goal.invariant-loop
invariant-loop l = IsSpelled (2 ^ 56) l.counter l.bytes l.prices l.rest
