use Rattle.std.proofs.Common.{◌/◌, ℕ, ℤ, List, take, FitsSigned, w64, ◌∙◌, ap, subst, sym, rules, arith, length-take}
use Rattle.std.proofs.lemmas.Int.{to_z-of_z}
use Rattle.count_sketch.specs.Estimate.{IsMiddle, estimate, middle, row_estimates}
use Rattle.count_sketch.proofs.Estimates.{is_rows-le, is_rows-odd, estimate-upto}
use Rattle.count_sketch.proofs.estimate.estimate_in.Goals as goal

pub middle_of-requires : goal.middle_of-requires
middle_of-requires c = (
  c.args.rows / 2,
  omega (
    arith,
    is_rows-le c.args.rows c.requires.rows,
    is_rows-odd c.args.rows c.requires.rows,
    c.from.ensures,
    length-take
        c.from.result c.fill.new.found,
  ),
)

pub returns-clause-value : goal.returns-clause-value
unfolding estimate
returns-clause-value c =
    let fits : FitsSigned w64 c.middle_of.result = search rules in
    to_z-of_z w64 _ fits ∙ c.middle_of.ensures.value
    ∙ ap middle (ap (λ (n : ℕ). take n c.fill.new.found) c.from.ensures ∙ c.fill.ensures)

pub returns-clause-middle : goal.returns-clause-middle
returns-clause-middle c =
    let fits : FitsSigned w64 c.middle_of.result = search rules in
    let says = ap (λ (n : ℕ). take n c.fill.new.found) c.from.ensures ∙ c.fill.ensures in
    let all = row_estimates c.args.family.now c.args.level c.args.rows c.args.width c.args.counters.now c.args.key.now
    in
    subst (λ (x : ℤ). IsMiddle all x) (sym (to_z-of_z w64 _ fits))
    (subst (λ (xs : List ℤ). IsMiddle xs c.middle_of.result) says c.middle_of.ensures.middle)

pub returns-clause-bound : goal.returns-clause-bound
returns-clause-bound c = λ n all.
    rw (returns-clause-value c)
    (estimate-upto c.args.family.now c.args.level c.args.rows c.args.width c.args.counters.now c.args.key.now n all)
