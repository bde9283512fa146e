use Rattle.std.proofs.Common.{◌≤◌, ℕ, ℤ, List, length, sym, ◌∙◌, ap, subst, arith}
use Rattle.sketch_merge.specs.Merged.{View, counters_at, keys_at}
use Rattle.sketch_levels.proofs.Standing.{number-same, weight-same}
use Rattle.mon_central.specs.Central.{nonzero}
use Rattle.mon_central.proofs.Packets.{level_count_is, read_at}
use Rattle.mon_central.proofs.Views.{few_at, view_counters, view_keys}
use Rattle.mon_central.proofs.sketching.Sketched.level_count.Goals as goal

pub overflow_cast-result : goal.overflow_cast-result
overflow_cast-result c =
    let few : length c.keys.result.now ≤ 1048576 = subst (λ (keys : List (List ℕ)). length keys ≤ 1048576)
    (sym c.keys.ensures.value) (few_at 1048576 c.args.merged.now c.args.level c.requires.few) in
    omega (arith, few)

pub returns : goal.returns
returns c = record {
  value = λ setting items sketches view within.
      let level = c.args.level in
      let live = read_at c.args.self.now.live.items c.from.result level c.index-packets.result.now
      c.index-packets.ensures c.from.ensures c.requires.number ∙ sketches.feeds.live.each level c.requires.number
      ∙ number-same sketches.counted items setting.seed level sketches.count in
      let weight = read_at c.args.self.now.weights.items c.from-2.result level c.index-weight.result.now
      c.index-weight.ensures c.from-2.ensures c.requires.same ∙ sketches.feeds.weights.each level c.requires.same
      ∙ weight-same sketches.fed items sketches.weigh setting.seed level in
      level_count_is setting items level _ _ _ _ live weight
      (ap (λ (keys : List (List ℕ)). length keys) (c.keys.ensures.value ∙ ap (λ (v : View). keys_at v level) view
      ∙ view_keys setting items level within))
      (c.nonzero.ensures ∙ ap (λ (counters : List ℤ). nonzero counters)
      (c.counters.ensures.value ∙ ap (λ (v : View). counters_at v level) view
      ∙ view_counters setting items level within));
}
