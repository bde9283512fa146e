use Rattle.std.proofs.Common.{◌≡◌, ℕ, ◌++◌, [], ◌∷◌, List, Vec, Global, sym, subst, arith, rules}
use Rattle.std.specs.Cmp.Lexicographic.{slice_cmp}
use Rattle.std.specs.List.Sorted.{IsStrictlySortedBy}
use Rattle.std.specs.Ordering.{nat_cmp}
use Rattle.sketch_merge.specs.Merged.{united}
use Rattle.sketch_merge.proofs.Zipped.{seen_all, seen_more, seen_whole}
use Rattle.sketch_merge.proofs.union.unions.Goals as goal

abbrev view : Vec (List ℕ) Global → List (List ℕ)
view level = level.items

pub union-requires : goal.union-requires
union-requires c =
    subst (IsStrictlySortedBy (slice_cmp nat_cmp)) (sym c.deref-in-loop-i.ensures.value)
    (seen_all (IsStrictlySortedBy (slice_cmp nat_cmp)) view c.args.others.now c.loop-i.i c.index-others-i.result
    (omega arith) c.index-others-i.is c.requires.ascending)

pub loop-i-preserved : goal.loop-i-preserved
loop-i-preserved c =
    let items : c.push.new.self.items ≡ c.loop-i.all.items ++ c.in_ok-level.level ∷ [] = search rules in
    let value : c.in_ok-level.level.items ≡ united c.index-levels-i.result.items c.index-others-i.result.items =
    rw (← c.deref.ensures.value, ← c.deref-in-loop-i.ensures.value) c.in_ok-level.ensures.value in
    rw items (seen_more view view united c.args.levels.now c.args.others.now c.loop-i.all.items c.loop-i.i
    c.index-levels-i.result c.index-others-i.result c.in_ok-level.level
    (omega arith) c.requires.number c.index-levels-i.is c.index-others-i.is value c.loop-i.invariant)

pub returns : goal.returns
returns c = record {
  value = seen_whole view view united c.args.levels.now c.args.others.now c.loop-i.all.items c.loop-i.i
      (omega arith) c.requires.number c.loop-i.invariant;
}
