use Rattle.std.proofs.Common.{◌≡◌, ℕ, ◌+◌, length, refl, sym, ◌∙◌, ap, subst, arith, rules}
use Rattle.std.proofs.lemmas.List.{with_items_is}
use Rattle.std.specs.Vec.{with_items}
use Rattle.count_sketch.specs.Counters.{Item}
use Rattle.hash_family.specs.Setting.{Setting, setting_of}
use Rattle.spot_table.specs.Known.{IsKnown}
use Rattle.spot_table.specs.Live.{IsLiveAt}
use Rattle.sketch_levels.specs.Levels.{Holds, View}
use Rattle.sketch_levels.proofs.Holding.{Holds-fed, IsFed, IsView-fed}
use Rattle.sketch_levels.proofs.levels.Levels.feed_by.Goals as goal

-- the item, and the levels before and after it
abbrev item : goal.After-live → Item
item c = record { key = c.args.key.now; weight = c.args.weight }

abbrev before : goal.After-live → View
before c = record {
  setting = setting_of c.self.inside.params;
  weight = c.self.inside.weight;
  levels =
      c.self.inside.levels.items;
}

abbrev after : goal.After-live → View
after c = record {
  setting = setting_of c.self.inside.params;
  weight = c.self.inside.weight + c.args.weight;
  levels =
      (with_items c.self.inside.levels c.feed_levels.new.levels).items;
}

levels_are : (c : goal.After-live)
    → (with_items c.self.inside.levels c.feed_levels.new.levels).items ≡ c.feed_levels.new.levels
levels_are c = with_items_is c.self.inside.levels c.feed_levels.new.levels (search rules)

fed : (c : goal.After-live) → IsFed (item c) (before c) (after c)
fed c = record {
  setting = refl;
  weight = refl;
  number = ap length (levels_are c) ∙ omega (arith, ap length c.deref_mut.ensures.value);
  each = λ level d within. rw (levels_are c, ← c.self.invariant.0)
      ((rw c.deref_mut.ensures.value at c.feed_levels.ensures).each level d within);
}

pub invariant_of-self : goal.invariant_of-self
invariant_of-self c =
    let weight : c.self.inside.weight ≡ c.args.self.now.weight = ap (λ (view : View). view.weight) c.self.view_is in (
      c.self.invariant.0,
      IsView-fed (item c) (before c) (after c) (fed c)
          (omega (arith, c.requires.light)) c.self.invariant.1,
      c.known-known.ensures.same ∙ c.self.invariant.2,
    )

pub returns-clause-list : goal.returns-clause-list
returns-clause-list c = λ items holds.
    Holds-fed (item c) (before c) (after c) items (fed c)
    (subst (λ (view : View). Holds view items) (sym c.self.view_is) holds)

pub returns-clause-live : goal.returns-clause-live
returns-clause-live c =
    let is : IsLiveAt c.self.inside.params.seed c.self.inside.params.levels c.args.key.now c.live.result =
    c.live.ensures.live (setting_of c.self.inside.params) c.args.key.now
    (subst (λ (setting : Setting). IsKnown setting c.args.key.now c.known-known.result) c.self.invariant.2
    c.known-known.ensures.known) in
    subst (λ (view : View). IsLiveAt view.setting.seed view.setting.levels c.args.key.now c.live.result)
    c.self.view_is is
