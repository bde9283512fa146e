use Rattle.std.proofs.Common.{◌≡◌, ℕ, ◌+◌, length, length-append, ◌∙◌, ap, sym, subst, arith, List, ◌++◌, ◌∷◌, [], map}
use Rattle.std.specs.List.{All, range_with_len}
use Rattle.std.proofs.lemmas.List.Elements.{All-push}
use Rattle.std.proofs.lemmas.List.FromFn.{map-range_with_len_more}
use Rattle.hash_family.specs.Setting.{Setting}
use Rattle.reply_format.specs.Reply.{IsHeap}
use Rattle.reply_format.specs.declared.heap.Heap.{Heap}
use Rattle.child_worker.specs.Replies.{all_heaps, level_heap}
use Rattle.child_worker.proofs.reply.all_heaps.Goals as goal

pub loop-level-preserved : goal.loop-level-preserved
loop-level-preserved c =
    let so_far = c.loop-level.invariant in
    let own = c.in_ok-heap.ensures in
    let setting = c.args.levels.now.setting in
    let added = c.in-Ok.ensures.ok in (
      λ items holds.
          let f = level_heap setting items in
          let sides : c.loop-level.heaps ++ c.in_ok-heap.heap ∷ []
          ≡ map f (range_with_len 0 c.loop-level.level) ++ f c.loop-level.level ∷ [] =
          cc (so_far.0 items holds, own.list items holds) in
          added ∙ sides ∙ sym (map-range_with_len_more f 0 c.loop-level.level c.loop-level.level (omega arith)),
      ap length added ∙ rw length-append (omega (arith, so_far.1)),
      λ items holds.
          subst (λ (xs : List Heap). All (IsHeap setting.heap) xs) (sym added)
          (All-push (IsHeap setting.heap) c.loop-level.heaps c.in_ok-heap.heap (so_far.2 items holds)
          (own.within items holds)),
    )

pub returns-clause-list : goal.returns-clause-list
unfolding all_heaps
returns-clause-list c = λ items holds.
    let f = level_heap c.args.levels.now.setting items in
    let all : c.loop-level.level ≡ c.args.levels.now.setting.levels + 1 =
    omega (
      arith,
      c.loop-level.auto.level-end,
      c.loop-level-test.false,
      ap (λ (s : Setting). s.levels) c.params.ensures.value,
    ) in
    c.loop-level.invariant.0 items holds ∙ ap (λ (n : ℕ). map f (range_with_len 0 n)) all
