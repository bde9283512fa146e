use Rattle.std.proofs.Common.{◌≡◌, ◌∷◌, ◌++◌, List, [], All, length, length-append, sym, ◌∙◌, ap, subst, rules, arith}
use Rattle.std.proofs.lemmas.List.Elements.{All-append, All-cons, All-nil}
use Rattle.count_sketch.specs.Counters.{AllUpTo}
use Rattle.hash_family.specs.Setting.{setting_of}
use Rattle.sketch_merge.specs.Merged.{HaveUpTo, View}
use Rattle.sketch_merge.specs.Merging.{merged_view}
use Rattle.replay_jobs.proofs.grouping.all_merged.Goals as goal

push_all : (P : View → Type 0) (views : List View) (view : View) → All P views → P view → All P (views ++ view ∷ [])
push_all P views view all here = All-append P views (view ∷ []) all (All-cons P view [] here (All-nil P))

pub loop-preserved : goal.loop-preserved
loop-preserved c =
    let views = c.loop.merged.items in
    let view = c.in_ok-none.none in
    let grown : c.push.new.self.items ≡ views ++ view ∷ [] = search rules in
    let size = ap length grown ∙ length-append views (view ∷ []) in (
      omega (arith, size, c.loop.invariant.0),
      subst (All (λ (v : View). v ≡ merged_view (setting_of c.args.params) 0 [])) (sym grown)
          (push_all (λ (v : View). v ≡ merged_view (setting_of c.args.params) 0 []) views view c.loop.invariant.1
          c.in_ok-none.ensures.value),
      subst (All (λ (v : View). All (AllUpTo v.weight) v.counters)) (sym grown)
          (push_all (λ (v : View). All (AllUpTo v.weight) v.counters) views view c.loop.invariant.2
          c.in_ok-none.ensures.small),
      subst (All (λ (v : View). HaveUpTo 0 v.keys)) (sym grown)
          (push_all (λ (v : View). HaveUpTo 0 v.keys) views view c.loop.invariant.3 c.in_ok-none.ensures.few),
    )
