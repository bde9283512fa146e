use Rattle.std.proofs.Common.{◌≡◌, ℕ, ◌+◌, length, length-append, ◌∙◌, ap, sym, subst, arith, List, ℤ, ◌++◌}
use Rattle.std.specs.List.{flat_map, range_with_len}
use Rattle.count_sketch.specs.Counters.{AllUpTo}
use Rattle.hash_family.specs.Setting.{Setting}
use Rattle.child_worker.specs.Replies.{all_counters, level_counters}
use Rattle.child_worker.proofs.Gathering.{flat_map_more, rows_more, up_to_both}
use Rattle.child_worker.proofs.reply.all_counters.Goals as goal

pub loop-level-preserved : goal.loop-level-preserved
loop-level-preserved c =
    let so_far = c.loop-level.invariant in
    let own = c.counters.ensures in
    let setting = c.args.levels.now.setting in
    let added = c.in-Ok.ensures.items in (
      λ items holds.
          let f = level_counters setting items in
          let sides : c.loop-level.counters.items ++ c.counters.result.now
          ≡ flat_map f (range_with_len 0 c.loop-level.level) ++ f c.loop-level.level =
          cc (so_far.0 items holds, own.list items holds) in
          added ∙ sides ∙ sym (flat_map_more f c.loop-level.level),
      ap length added
          ∙ rw length-append (omega (
            arith,
            so_far.1,
            own.shape,
            rows_more c.loop-level.level setting.rows setting.width,
          )),
      subst (λ (xs : List ℤ). AllUpTo c.args.levels.now.weight xs) (sym added) (up_to_both _ _ _ so_far.2 own.bound),
    )

pub returns-clause-list : goal.returns-clause-list
unfolding all_counters
returns-clause-list c = λ items holds.
    let f = level_counters c.args.levels.now.setting items in
    let all : c.loop-level.level ≡ c.args.levels.now.setting.levels + 1 =
    omega (
      arith,
      c.loop-level.auto.level-end,
      c.loop-level-test.false,
      ap (λ (s : Setting). s.levels) c.params.ensures.value,
    ) in
    c.from_vec.ensures ∙ c.loop-level.invariant.0 items holds
    ∙ ap (λ (n : ℕ). flat_map f (range_with_len 0 n)) all
