use Rattle.std.proofs.Common.{arith}
use Rattle.std.proofs.lemmas.Bool.Decides.{nat_tests}
use Rattle.mon_central.proofs.gathering.Gathered.new.Goals as goal

pub returns-then-setting-eq0 : goal.returns-then-setting-eq0
returns-then-setting-eq0 c = let zero = c.if-setting-eq0.true in (grind (arith, nat_tests), c.new.ensures.items)

pub returns : goal.returns
returns c = let some = c.if-setting-eq0.false in (grind (arith, nat_tests), c.in_ok-sketched.ensures)
