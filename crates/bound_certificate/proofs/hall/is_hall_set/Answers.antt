use Rattle.std.proofs.Common.{length, sym, ◌∙◌}
use Rattle.std.proofs.lemmas.Bool.{and_right}
use Rattle.bound_certificate.specs.Node.{is_hall_set, is_next_name}
use Rattle.bound_certificate.proofs.Below.{all_below_fails}
use Rattle.bound_certificate.proofs.hall.is_hall_set.Goals as goal

pub returns-then-not-is_next_name-clause-value : goal.returns-then-not-is_next_name-clause-value
unfolding is_hall_set
returns-then-not-is_next_name-clause-value c =
    let fails = sym c.is_next_name.ensures.value ∙ c.if-not-is_next_name.true in
    sym (and_right _ _ (all_below_fails (is_next_name c.args.problem.now c.args.depth c.args.names.now)
    (length c.args.names.now) c.loop-k.k c.loop-k-test.true fails))
