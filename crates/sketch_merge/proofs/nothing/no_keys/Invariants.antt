use Rattle.std.proofs.Common.{◌≡◌, [], map, replicate}
use Rattle.sketch_merge.proofs.nothing.no_keys.Given as goal

abbrev pub invariant-loop : goal.invariant-loop
invariant-loop l = map (λ level. level.items) l.all.items ≡ replicate l.counter []
