use Rattle.std.proofs.Common.{◌≡◌, ◌≤◌, ◌+◌, ◌++◌, [], ◌∷◌, ℕ, List, All, length, map, Vec, Global, sym, ◌∙◌, ap, subst, arith, length-append}
use Rattle.std.specs.Cmp.Lexicographic.{slice_cmp}
use Rattle.std.specs.Ordering.{nat_cmp}
use Rattle.std.specs.List.Sorted.{IsStrictlySortedBy}
use Rattle.std.proofs.lemmas.List.{map-append}
use Rattle.std.proofs.lemmas.List.Elements.{All-push}
use Rattle.std.proofs.lemmas.List.FromFn.{map-range_with_len_more}
use Rattle.flow_keys.specs.declared.key.FlowKey.{FlowKey}
use Rattle.sketch_levels.specs.Items.{live_items}
use Rattle.mon_central.specs.Central.{kept_keys}
use Rattle.mon_central.specs.Sketched.{keys_up_to}
use Rattle.mon_central.proofs.sketching.Sketched.keys.Goals as goal

pub loop-level-preserved : goal.loop-level-preserved
loop-level-preserved c =
    let setting = c.args.setting.now in
    let level = c.loop-level.level in
    let before = c.loop-level.keys.items in
    let kept = c.in_ok-kept.kept in
    let items_of : Vec FlowKey Global → List (List ℕ) = λ l. l.items in
    let grown : c.push.new.self.items ≡ before ++ kept ∷ [] = c.in-Ok.ensures.items in (
      (λ items sketches.
          ap (λ (l : List (Vec FlowKey Global)). map items_of l) grown
          ∙ map-append items_of before (kept ∷ [])
          ∙ ap (λ (l : List (List (List ℕ))). l ++ kept.items ∷ []) (c.loop-level.invariant.0 items sketches)
          ∙ ap (λ (l : List (List ℕ)). keys_up_to setting items level ++ l ∷ [])
          (c.in_ok-kept.ensures.value items sketches)
          ∙ sym (map-range_with_len_more (λ l. kept_keys setting l (live_items setting.seed l items)) 0 level level
          (omega arith))),
      ap (λ (l : List (Vec FlowKey Global)). length l) grown ∙ length-append before (kept ∷ [])
          ∙ omega (arith, c.loop-level.invariant.1),
      subst (All (λ (l : Vec FlowKey Global). IsStrictlySortedBy (slice_cmp nat_cmp) l.items)) (sym grown)
          (All-push (λ (l : Vec FlowKey Global). IsStrictlySortedBy (slice_cmp nat_cmp) l.items) before kept
          c.loop-level.invariant.2 c.in_ok-kept.ensures.ascending),
      subst (All (λ (l : Vec FlowKey Global). length l.items ≤ 1048576)) (sym grown)
          (All-push (λ (l : Vec FlowKey Global). length l.items ≤ 1048576) before kept c.loop-level.invariant.3
          c.in_ok-kept.ensures.few),
    )

pub returns-clause-value : goal.returns-clause-value
returns-clause-value c = λ items sketches.
    let all : c.loop-level.level ≡ c.args.setting.now.levels + 1 = omega arith in
    c.loop-level.invariant.0 items sketches ∙ ap (λ (n : ℕ). keys_up_to c.args.setting.now items n) all
