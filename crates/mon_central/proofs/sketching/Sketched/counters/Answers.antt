use Rattle.std.proofs.Common.{◌≡◌, ◌+◌, ◌*◌, ◌++◌, ℕ, List, ℤ, unsigned_abs, ◌≤◌, length, rules, sym, ◌∙◌, ap, subst, length-append}
use Rattle.std.proofs.lemmas.List.Elements.{All-append}
use Rattle.count_sketch.specs.Counters.{AllUpTo}
use Rattle.sketch_levels.specs.Levels.{level_at}
use Rattle.mon_central.specs.Sketched.{counters_up_to}
use Rattle.mon_central.proofs.Ranges.{flat_map-range}
use Rattle.mon_central.proofs.sketching.Sketched.counters.Goals as goal

pub loop-level-preserved : goal.loop-level-preserved
loop-level-preserved c =
    let levels = c.args.self.now.levels in
    let level = c.loop-level.level in
    let before = c.loop-level.counters.items in
    let more = c.counters.result.now in
    let grown : c.extend_from_slice.new.self.items ≡ before ++ more = c.in-Ok.ensures.items in
    let size = levels.setting.rows * levels.setting.width in (
      grown
          ∙ ap (λ (xs : List ℤ). xs ++ more) c.loop-level.invariant.0
          ∙ ap (λ (xs : List ℤ). counters_up_to levels level ++ xs) c.counters.ensures.value
          ∙ sym (flat_map-range (λ l. (level_at levels l).sketch.counters) level),
      subst (AllUpTo levels.weight) (sym
          grown) (record {
            each = All-append (λ (value : ℤ). unsigned_abs value ≤ levels.weight) before more
                c.loop-level.invariant.1.each c.counters.ensures.bound.each;
          }),
      ap (λ (xs : List ℤ). length xs) grown ∙ length-append before more
          ∙ distributed level size (length before) (length more) c.loop-level.invariant.2 c.counters.ensures.shape,
    )
  where
    distributed : (level size front back : ℕ) → front ≡ level * size → back ≡ size → front + back ≡ (level + 1) * size
    distributed level size front back f b = search rules
