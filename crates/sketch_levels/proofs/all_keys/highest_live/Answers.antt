use Rattle.std.proofs.Common.{◌≡◌, ◌+◌, sym, ◌∙◌, arith, inl, inr}
use Rattle.hash_family.proofs.Live.{dead_from, live_on}
use Rattle.std.proofs.lemmas.Bool.{cases_lt}
use Rattle.sketch_levels.proofs.Live.{live_at_0}
use Rattle.sketch_levels.proofs.all_keys.highest_live.Goals as goal

pub loop-level-init : goal.loop-level-init
loop-level-init c = λ below within. live_at_0 _ below _ (omega arith)

pub returns-then-not-sample : goal.returns-then-not-sample
returns-then-not-sample c = record {
  live = record {
    live = λ below within. c.loop-level.invariant below (omega (arith, within));
    dead = λ level above within.
        dead_from c.args.family.now c.loop-level.level level c.args.key.now (omega (arith, above))
        (sym c.sample.ensures.value ∙ c.if-not-sample.true);
  };
}

pub returns : goal.returns
returns c = record {
  live = record {
    live = λ below within. c.loop-level.invariant below (omega (arith, within));
    dead = λ level above within. absurd (omega (arith, above, within));
  };
}

pub loop-level-preserved : goal.loop-level-preserved
loop-level-preserved c = λ below within. elim (cases_lt c.loop-level.level below) [
  | inl above ↦
      let e : below ≡ c.loop-level.level + 1 = omega arith in
      rw e (live_on c.args.family.now c.loop-level.level c.args.key.now
      (c.loop-level.invariant c.loop-level.level (omega arith)) (sym c.sample.ensures.value ∙ c.if-not-sample.false))
  | inr under ↦ c.loop-level.invariant below under
]
