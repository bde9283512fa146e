use Rattle.std.proofs.Common.{◌≡◌, ℕ, ◌+◌, List, [], ◌∷◌, ◌++◌, map, sym, ◌∙◌, ap, arith}
use Rattle.std.specs.List.{range_with_len}
use Rattle.std.proofs.lemmas.List.FromFn.{map-range_with_len_more}
use Rattle.change_report.specs.declared.level_count.LevelCount.{LevelCount}
use Rattle.mon_central.specs.Central.{level_count}
use Rattle.mon_central.proofs.sketching.Sketched.level_counts.Goals as goal

pub loop-level-preserved : goal.loop-level-preserved
loop-level-preserved c = λ items sketches view.
    let setting = c.args.setting.now in
    let level = c.loop-level.level in
    let before = map (level_count setting items) (range_with_len 0 level) in
    c.in-Ok.ensures.items
    ∙ ap (λ (l : List LevelCount). l ++ c.level_count-count.result ∷ []) (c.loop-level.invariant items sketches view)
    ∙ ap (λ (x : LevelCount). before
    ++ x ∷ []) (c.level_count-count.ensures.value setting items sketches view (omega arith))
    ∙ sym (map-range_with_len_more (level_count setting items) 0 level level (omega arith))

pub returns : goal.returns
returns c = record {
  value = λ items sketches view.
      let all : c.loop-level.level ≡ c.args.setting.now.levels + 1 = omega arith in
      c.loop-level.invariant items sketches view ∙ ap (λ (n : ℕ). map (level_count c.args.setting.now items)
      (range_with_len 0 n)) all;
}
