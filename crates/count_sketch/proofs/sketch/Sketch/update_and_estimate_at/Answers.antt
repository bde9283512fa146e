use Rattle.std.proofs.Common.{◌≡◌, ◌+◌, List, ℤ, sym, ◌∙◌, ap, subst, FitsSigned, w64, to_z, of_z, rules, arith, ◌^◌}
use Rattle.std.proofs.lemmas.Int.{to_z-of_z}
use Rattle.std.proofs.lemmas.List.{with_items_is}
use Rattle.std.specs.Vec.{with_items}
use Rattle.count_sketch.specs.Counters.{Item, Grid, plus, AllUpTo}
use Rattle.count_sketch.specs.Estimate.{IsMiddle, row_estimates}
use Rattle.count_sketch.specs.Shape.{IsShaped}
use Rattle.count_sketch.proofs.Estimates.{estimate-upto}
use Rattle.count_sketch.proofs.Grids.{item_counters, next_grid, next_grid-grid_of, next_grid-upto, IsShaped-next_grid}
use Rattle.count_sketch.proofs.sketch.Sketch.update_and_estimate_at.Goals as goal

-- the item, and the sketch before the call
abbrev item : goal.After-self-1 → Item
item c = record { key = c.args.key.now; weight = c.args.weight }

abbrev before : goal.After-self-1 → Grid
before c = record { rows = c.self.inside.rows; width = c.self.inside.width; counters = c.self.inside.counters.items }

-- the counters after the call
after : (c : goal.After-self-1)
    → (with_items c.self.inside.counters c.update_and_estimate_in.new.counters).items
    ≡ plus c.self.inside.counters.items (item_counters c.args.family.now c.args.level (item c) (before c))
after c =
    with_items_is c.self.inside.counters c.update_and_estimate_in.new.counters (omega arith)
    ∙ rw c.deref_mut.ensures.value at c.update_and_estimate_in.ensures.next

pub invariant_of-self : goal.invariant_of-self
invariant_of-self c =
    let low = subst (λ (g : Grid). AllUpTo (2 ^ 61) g.counters) (sym c.self.view_is) c.requires.small in
    subst (λ (xs : List ℤ). IsShaped c.self.inside.rows c.self.inside.width xs) (sym (after c))
    (IsShaped-next_grid c.args.family.now c.args.level (item c) (before c) (omega arith) c.self.invariant low)

pub returns-clause-list : goal.returns-clause-list
returns-clause-list c = λ items is.
    let put : List ℤ → Grid = λ counters. record (before c) { counters = counters } in
    ap put (after c)
    ∙ ap (next_grid c.args.family.now c.args.level (item c)) c.self.view_is
    ∙ next_grid-grid_of c.args.family.now c.args.level (item c) items c.args.self.now is

pub returns-clause-bound : goal.returns-clause-bound
returns-clause-bound c = λ n all.
    let low = subst (λ (g : Grid). AllUpTo n g.counters) (sym c.self.view_is) all in
    subst (λ (xs : List ℤ). AllUpTo (n + c.args.weight) xs) (sym (after c))
    (next_grid-upto c.args.family.now c.args.level (item c) n (before c) c.self.invariant.size low)

pub returns-clause-result_bound : goal.returns-clause-result_bound
returns-clause-result_bound c = λ n all.
    let old = c.self.inside in
    let new = c.update_and_estimate_in.new.counters in
    let fits : FitsSigned w64 c.update_and_estimate_in.result = search rules in
    let low = subst (λ (xs : List ℤ). AllUpTo n xs) (with_items_is old.counters new (omega arith)) all in
    rw (to_z-of_z w64 _ fits, c.update_and_estimate_in.ensures.value)
    (estimate-upto c.args.family.now c.args.level old.rows old.width new c.args.key.now n low)

pub returns-clause-middle : goal.returns-clause-middle
returns-clause-middle c =
    let old = c.self.inside in
    let new = c.update_and_estimate_in.new.counters in
    let fits : FitsSigned w64 c.update_and_estimate_in.result = search rules in
    let put = with_items_is old.counters new (omega arith) in
    subst (λ (xs : List ℤ). IsMiddle (row_estimates c.args.family.now c.args.level old.rows old.width xs c.args.key.now)
    (to_z w64 (of_z w64 c.update_and_estimate_in.result))) (sym put)
    (rw (to_z-of_z w64 _ fits) c.update_and_estimate_in.ensures.middle)
