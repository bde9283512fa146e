use Rattle.hash_family.proofs.Draws.{Drawn}
use Rattle.hash_family.proofs.coefficients.coefficients_of.Given as goal

abbrev pub invariant-loop : goal.invariant-loop
invariant-loop l = Drawn l.seed l.counter l.coefficients.items l.stream
