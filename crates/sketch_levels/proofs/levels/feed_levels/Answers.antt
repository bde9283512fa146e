use Rattle.std.proofs.Common.{◌^◌, ◌≡◌, ℕ, true, false, inl, inr, below_more, get_or, length, set, sym, ◌∙◌, ap, subst, arith}
use Rattle.std.proofs.lemmas.Bool.{cases_lt}
use Rattle.std.proofs.lemmas.List.{get_or_default, get_or-set_other, get_or-set_same}
use Rattle.hash_family.specs.Hash.{is_live}
use Rattle.count_sketch.specs.Counters.{AllUpTo, Item}
use Rattle.count_sketch.specs.Spots.{AreSpots}
use Rattle.sketch_levels.specs.Levels.{IsLayer, Layer, Takes}
use Rattle.sketch_levels.proofs.Taking.{takes_fed, takes_none}
use Rattle.sketch_levels.proofs.levels.feed_levels.Goals as goal

abbrev item : goal.After-feed → Item
item c = record { key = c.args.key.now; weight = c.args.weight }

-- the level before the call
old_is : (c : goal.After-feed) (d : Layer)
    → get_or c.loop-number.levels c.loop-number.number c.index-levels-number.result
    ≡ get_or c.args.levels.now c.loop-number.number d
old_is c d =
    get_or_default c.loop-number.levels c.loop-number.number c.index-levels-number.result d (omega arith)
    ∙ c.loop-number.invariant.rest c.loop-number.number d (omega arith)

live : (c : goal.After-feed) → is_live c.args.family.now c.loop-number.number c.args.key.now ≡ true
live c = subst (λ (seed : ℕ). is_live seed c.loop-number.number c.args.key.now ≡ true) (sym c.requires.family)
    (c.requires.known.live.live c.loop-number.number (omega arith))

here : (c : goal.After-feed) (d : Layer)
    → Takes c.args.family.now c.loop-number.number (item c)
    (get_or c.args.levels.now c.loop-number.number d) c.feed.new.self
here c d = takes_fed _ _ (item c) _ c.feed.new.self (live c)
    (λ setting items same is. c.feed.ensures.list setting items same (old_is c d ∙ is))
    (λ setting n shape. c.feed.ensures.shape setting n
    (subst (λ (l : Layer). IsLayer setting n l) (sym (old_is c d)) shape))

pub loop-number-preserved : goal.loop-number-preserved
loop-number-preserved c = record {
  fed = λ level d below. below_more
      (λ (k : ℕ). Takes c.args.family.now k (item c) (get_or c.args.levels.now k d)
      (get_or (set c.loop-number.levels c.loop-number.number c.feed.new.self) k d))
      c.loop-number.number
      (λ k under. rw (get_or-set_other c.loop-number.levels c.loop-number.number k c.feed.new.self d (λ e. omega arith))
      (c.loop-number.invariant.fed k d under))
      (rw (get_or-set_same c.loop-number.levels c.loop-number.number c.feed.new.self d (omega arith)) (here c d))
      level below;
  rest = λ level d above.
      get_or-set_other c.loop-number.levels c.loop-number.number level c.feed.new.self d (λ e. omega arith)
      ∙ c.loop-number.invariant.rest level d (omega arith);
}

pub feed-requires-clause-small : goal.feed-requires-clause-small
feed-requires-clause-small c =
    let d = c.index-levels-number.result in
    subst (λ (layer : Layer). AllUpTo (2 ^ 44) layer.sketch.counters)
    (sym (c.loop-number.invariant.rest c.loop-number.number d (omega arith)))
    (c.requires.small c.loop-number.number d (omega arith))

pub returns : goal.returns
returns c = record {
  each = λ level d within. elim (cases_lt level c.loop-number.number) [
    | inl below ↦ c.loop-number.invariant.fed level d below
    | inr above ↦ rw (c.loop-number.invariant.rest level d above)
        (takes_none _ _ _ _ (subst (λ (seed : ℕ). is_live seed level c.args.key.now ≡ false) (sym c.requires.family)
        (c.requires.known.live.dead level (omega (arith, above, within)) (omega (arith, above, within)))))
  ];
}
