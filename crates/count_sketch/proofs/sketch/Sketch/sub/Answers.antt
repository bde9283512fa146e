use Rattle.std.proofs.Common.{◌≡◌, ◌*◌, ◌∙◌, List, length, ℤ, sym, subst, ap, arith, ◌^◌, ◌-◌}
use Rattle.std.proofs.lemmas.List.{with_items_is}
use Rattle.std.specs.Vec.{with_items}
use Rattle.count_sketch.specs.Counters.{Grid, minus, AllUpTo}
use Rattle.count_sketch.specs.Shape.{IsShaped}
use Rattle.count_sketch.proofs.Grids.{difference_grid, IsShaped-minus, minus-grid_of}
use Rattle.count_sketch.proofs.sketch.Sketch.sub.Goals as goal

-- both sketches before the call
abbrev before : goal.After-self-1 → Grid
before c = record { rows = c.self.inside.rows; width = c.self.inside.width; counters = c.self.inside.counters.items }

abbrev other_before : goal.After-self-1 → Grid
other_before c = record {
  rows = c.other.inside.rows;
  width = c.other.inside.width;
  counters =
      c.other.inside.counters.items;
}

-- the counters after the call
after : (c : goal.After-self-1)
    → (with_items c.self.inside.counters c.sub_places.new.numbers).items
    ≡ minus c.self.inside.counters.items c.other.inside.counters.items
after c =
    with_items_is c.self.inside.counters c.sub_places.new.numbers (omega arith)
    ∙ rw (c.deref_mut.ensures.value, c.deref.ensures.value) at c.sub_places.ensures

pub invariant_of-self : goal.invariant_of-self
invariant_of-self c =
    let old = c.self.inside in
    let other = c.other.inside in
    let low = subst (λ (g : Grid). AllUpTo (2 ^ 62 - 1) g.counters) (sym c.self.view_is) c.requires.small in
    let other_low = subst (λ (g : Grid). AllUpTo (2 ^ 62 - 1) g.counters)
    (sym c.other.view_is) c.requires.other_small in
    let rows : old.rows ≡ other.rows =
    ap (λ (g : Grid). g.rows) c.self.view_is ∙ c.requires.rows ∙ sym (ap (λ (g : Grid). g.rows) c.other.view_is) in
    let width : old.width ≡ other.width =
    ap (λ (g : Grid). g.width) c.self.view_is ∙ c.requires.width ∙ sym (ap (λ (g : Grid). g.width) c.other.view_is) in
    let size : length other.counters.items ≡ old.rows * old.width = rw (rows, width) c.other.invariant.size in
    subst (λ (xs : List ℤ). IsShaped old.rows old.width xs) (sym (after c))
    (IsShaped-minus old.rows old.width (2 ^ 62 - 1)
    (2 ^ 62 - 1) old.counters.items other.counters.items c.self.invariant size low other_low (omega arith))

pub returns-clause-list : goal.returns-clause-list
returns-clause-list c = λ seed level xs ys is other_is.
    let put : List ℤ → Grid = λ counters. record (before c) { counters = counters } in
    ap put (after c)
    ∙ ap (λ (g : Grid). difference_grid g (other_before c)) c.self.view_is
    ∙ ap (difference_grid c.args.self.now) c.other.view_is
    ∙ minus-grid_of seed level xs ys c.args.self.now c.args.other.now is other_is
