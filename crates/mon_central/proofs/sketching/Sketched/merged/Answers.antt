use Rattle.std.proofs.Common.{◌≡◌, ℕ, ◌+◌, ◌*◌, ◌≤◌, ◌&&◌, Bool, true, false, List, length, map, All, sym, ◌∙◌, ap, subst}
use Rattle.std.specs.List.{range_with_len}
use Rattle.std.proofs.lemmas.List.Elements.{All-map}
use Rattle.hash_family.specs.Setting as sketch
use Rattle.sketch_levels.proofs.Standing.{weight_of-all}
use Rattle.sketch_merge.specs.Merged.{HaveUpTo}
use Rattle.mon_central.specs.Central.{levels_setting, drops}
use Rattle.mon_central.specs.Sketched.{any_mark}
use Rattle.mon_central.proofs.Packets.{drops_is, drops_same, not_some}
use Rattle.mon_central.proofs.Ranges.{if_ok_by_three, if_ok_by_five}
use Rattle.mon_central.proofs.Views.{counters_joined, counters_shaped, level_counters, view_is}
use Rattle.mon_central.proofs.sketching.Sketched.merged.Goals as goal
use Rattle.mon_central.proofs.sketching.Sketched.merged.Goals.{then-is_none, else-is_none}

pub returns-clause-value : goal.returns-clause-value
returns-clause-value c =
    let r = c.from_levels.result in
    let from = c.from_levels.ensures in
    let setting = c.args.setting.now in
    if_ok_by_five r (λ merged of_setting of_weight of_counters of_keys of_dropped items sketches.
    let fed = sketches.fed in
    let mark = any_mark (levels_setting setting) fed (setting.levels + 1) in
    let all = drops_is setting fed c.args.self.now.all sketches.feeds.noted in
    let number : c.params_of.result.levels ≡ setting.levels = ap (λ (s : sketch.Setting). s.levels)
    c.params_of.ensures in
    let size : setting.rows * setting.width ≡ c.params_of.result.rows * c.params_of.result.width = sym
    (ap (λ (s : sketch.Setting). s.rows * s.width) c.params_of.ensures) in
    let parts = map (level_counters setting items) (range_with_len 0 (setting.levels + 1)) in
    let shaped = subst (λ (n : ℕ). All (λ part. length part ≡ n) parts) size
    (counters_shaped setting items (setting.levels + 1)) in
    let dropped : c.if-is_none.dropped ≡ drops setting fed = elim c.if-is_none.branch [
      | then-is_none w ↦
          w.dropped-is ∙ w.any_dropped-dropped.ensures fed sketches.feeds.holds
          ∙ ap (λ (s : sketch.Setting). any_mark s fed (setting.levels + 1)) sketches.feeds.shape
          ∙ ap (λ (b : Bool). b && mark) (sym (not_some _ _ true c.is_none.ensures w.if-is_none.true))
          ∙ all
      | else-is_none w ↦
          w.dropped-is ∙ w.if-is_none.false
          ∙ ap (λ (b : Bool). b && mark) (sym (not_some _ _ false c.is_none.ensures w.if-is_none.false))
          ∙ all
    ] in
    view_is setting items merged
    (of_setting ∙ c.params_of.ensures)
    (of_weight ∙ c.weight-weight.ensures.value ∙ sketches.feeds.holds.weight ∙ weight_of-all fed items sketches.weigh)
    (of_counters parts shaped (counters_joined setting c.args.self.now items _ sketches c.in_ok-counters.ensures.value))
    (of_keys ∙ c.in_ok-keys.ensures.value items sketches)
    (of_dropped ∙ dropped ∙ drops_same setting fed items sketches.same))
    from.setting from.weight from.counters from.keys from.dropped

pub returns-clause-merged : goal.returns-clause-merged
returns-clause-merged c =
    let from = c.from_levels.ensures in
    if_ok_by_three c.from_levels.result (λ merged of_setting small of_keys. record {
      shape = of_setting ∙ c.params_of.ensures;
      light = small;
      few = subst (HaveUpTo 1048576) (sym
          of_keys) (record {
            each = All-map (λ (l : List (List ℕ)). length l ≤ 1048576) (λ l. l.items)
                c.in_ok-keys.keys.items c.in_ok-keys.ensures.few;
          });
    }) from.setting from.small from.keys
