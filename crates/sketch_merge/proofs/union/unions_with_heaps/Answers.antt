use Rattle.std.proofs.Common.{◌≡◌, ℕ, ◌++◌, [], ◌∷◌, List, Vec, Global, sym, ◌∙◌, ap, subst, arith, rules}
use Rattle.std.specs.Cmp.Lexicographic.{slice_cmp}
use Rattle.std.specs.List.Sorted.{IsStrictlySortedBy}
use Rattle.std.specs.Ordering.{nat_cmp}
use Rattle.reply_format.specs.declared.heap.Heap.{Heap}
use Rattle.sketch_merge.specs.Merged.{united}
use Rattle.sketch_merge.proofs.Zipped.{seen_all, seen_more, seen_whole}
use Rattle.sketch_merge.proofs.union.unions_with_heaps.Goals as goal

abbrev view : Vec (List ℕ) Global → List (List ℕ)
view level = level.items

abbrev heap_view : Heap → List (List ℕ)
heap_view heap = heap.keys

pub union-requires : goal.union-requires
union-requires c =
    subst (IsStrictlySortedBy (slice_cmp nat_cmp))
    (ap (λ (heap : Heap). heap.keys) c.index-heaps-i.is ∙ sym c.as_slice.ensures)
    (seen_all (IsStrictlySortedBy (slice_cmp nat_cmp)) heap_view c.args.heaps.now c.loop-i.i c.index-heaps-i.result
    (omega arith) c.index-heaps-i.is c.requires.ascending)

pub loop-i-preserved : goal.loop-i-preserved
loop-i-preserved c =
    let items : c.push.new.self.items ≡ c.loop-i.all.items ++ c.in_ok-level.level ∷ [] = search rules in
    let value : c.in_ok-level.level.items ≡ united c.index-levels-i.result.items c.index-heaps-i.result.keys =
    c.in_ok-level.ensures.value
    ∙ ap (λ (keys : List (List ℕ)). united keys c.as_slice.result.now) c.deref.ensures.value
    ∙ ap (united c.index-levels-i.result.items)
    (c.as_slice.ensures ∙ sym (ap (λ (heap : Heap). heap.keys) c.index-heaps-i.is)) in
    rw items (seen_more view heap_view united c.args.levels.now c.args.heaps.now c.loop-i.all.items c.loop-i.i
    c.index-levels-i.result c.index-heaps-i.result c.in_ok-level.level
    (omega arith) c.requires.number c.index-levels-i.is c.index-heaps-i.is value c.loop-i.invariant)

pub returns : goal.returns
returns c = record {
  value = seen_whole view heap_view united c.args.levels.now c.args.heaps.now c.loop-i.all.items c.loop-i.i
      (omega arith) c.requires.number c.loop-i.invariant;
}
