use Rattle.std.proofs.Common.{◌≡◌, ◌||◌, sym, ◌∙◌, ap, subst, FitsSigned, of_z, to_z, w64, rules}
use Rattle.std.proofs.lemmas.Bool.{or_left}
use Rattle.std.proofs.lemmas.Int.{to_z-of_z}
use Rattle.count_sketch.specs.Estimate.{estimate}
use Rattle.count_sketch.specs.Counters.{Item, Grid}
use Rattle.sketch_levels.specs.Levels.{IsLayer, Layer}
use Rattle.sketch_levels.proofs.Layers.{IsFed, IsLayer-fed, layer_of-push}
use Rattle.sketch_levels.proofs.level.Level.feed.Goals as goal
use Rattle.sketch_levels.proofs.level.Level.feed.Goals.{then-self, else-self}

-- the item, and the level before and after it
abbrev item : goal.After-self-1 → Item
item c = record { key = c.args.key.now; weight = c.args.weight }

abbrev before : goal.After-self-1 → Layer
before c = record { sketch = c.self.inside.sketch; heap = c.self.inside.heap; dropped = c.self.inside.dropped }

abbrev after : goal.After-self-1 → Layer
after c = record {
  sketch = c.update_and_estimate_at-score.new.self;
  heap = c.offer-drops.new.heap;
  dropped =
      c.if-self.self;
}

marked : (c : goal.After-self-1) → c.if-self.self ≡ (c.self.inside.dropped || c.offer-drops.result)
marked c = elim c.if-self.branch [
  | then-self w ↦ w.self-is ∙ w.if-self.true ∙ sym (or_left c.self.inside.dropped c.offer-drops.result w.if-self.true)
  | else-self w ↦ rw w.if-self.false w.self-is
]

-- the score that is offered
score_is : (c : goal.After-self-1)
    → to_z w64 (of_z w64 c.update_and_estimate_at-score.result)
    ≡ estimate c.args.family.now c.args.number c.update_and_estimate_at-score.new.self.rows
    c.update_and_estimate_at-score.new.self.width c.update_and_estimate_at-score.new.self.counters c.args.key.now
score_is c =
    let fits : FitsSigned w64 c.update_and_estimate_at-score.result = search rules in
    to_z-of_z w64 _ fits ∙ c.update_and_estimate_at-score.ensures.value

fed : (c : goal.After-self-1) → IsFed c.args.family.now c.args.number (item c) (before c) (after c)
fed c = record {
  sketch = c.update_and_estimate_at-score.ensures.list;
  size = c.offer-drops.ensures.size;
  entries = rw (score_is c) at c.offer-drops.ensures.kept;
  dropped = marked c ∙ ap (λ b. c.self.inside.dropped || b) (rw (score_is c) at c.offer-drops.ensures.drops);
}

pub returns-clause-list : goal.returns-clause-list
returns-clause-list c = λ setting items family is.
    let same : IsFed setting.seed c.args.number (item c) (before c) (after c) = rw family (fed c) in
    layer_of-push setting c.args.number items (item c) (before c) (after c) same (c.self.view_is ∙ is)

pub returns-clause-shape : goal.returns-clause-shape
returns-clause-shape c = λ setting n shape.
    IsLayer-fed setting n c.args.weight (before c) (after c)
    (subst (λ (l : Layer). IsLayer setting n l) (sym c.self.view_is) shape)
    (ap (λ (g : Grid). g.rows) c.update_and_estimate_at-score.ensures.next)
    (ap (λ (g : Grid). g.width) c.update_and_estimate_at-score.ensures.next)
    c.offer-drops.ensures.size
    (c.update_and_estimate_at-score.ensures.bound n)
