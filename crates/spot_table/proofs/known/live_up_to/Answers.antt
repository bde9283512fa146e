use Rattle.std.proofs.Common.{◌≡◌, ◌+◌, sym, ◌∙◌, arith, inl, inr}
use Rattle.hash_family.proofs.Live.{dead_from, is_live-none, live_on}
use Rattle.std.proofs.lemmas.Bool.{cases_lt}
use Rattle.spot_table.proofs.known.live_up_to.Goals as goal

pub loop-below-init : goal.loop-below-init
loop-below-init c = λ level within.
    let e : level ≡ 0 = omega arith in
    rw e (is_live-none c.args.family.now c.args.key.now)

pub returns-then-not-sample-clause-live : goal.returns-then-not-sample-clause-live
returns-then-not-sample-clause-live c = record {
  live = λ level below. c.loop-below.invariant level (omega (arith, below));
  dead = λ level above within.
      dead_from c.args.family.now c.loop-below.below level c.args.key.now (omega (arith, above))
      (sym c.sample.ensures.value ∙ c.if-not-sample.true);
}

pub returns-clause-live : goal.returns-clause-live
returns-clause-live c = record {
  live = λ level below. c.loop-below.invariant level (omega (arith, below));
  dead = λ level above within. absurd (omega (arith, above, within));
}

pub loop-below-preserved : goal.loop-below-preserved
loop-below-preserved c = λ level within. elim (cases_lt c.loop-below.below level) [
  | inl above ↦
      let e : level ≡ c.loop-below.below + 1 = omega arith in
      rw e (live_on c.args.family.now c.loop-below.below c.args.key.now
      (c.loop-below.invariant c.loop-below.below (omega arith)) (sym c.sample.ensures.value ∙ c.if-not-sample.false))
  | inr under ↦ c.loop-below.invariant level under
]
