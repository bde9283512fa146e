use Rattle.std.proofs.Common.{◌≡◌, ◌≤◌, ◌+◌, [], ℤ, ℕ, List, Vec, Global, length, map, pos, replicate, sym, ◌∙◌}
use Rattle.std.proofs.Common.{subst, false, arith}
use Rattle.std.proofs.lemmas.List.Elements.{All-replicate}
use Rattle.hash_family.specs.Setting.{setting_of}
use Rattle.count_sketch.specs.Counters.{AllUpTo}
use Rattle.reply_format.specs.Reply.{level_count}
use Rattle.sketch_merge.specs.Merged.{HaveUpTo}
use Rattle.sketch_merge.specs.Merging.{level_size}
use Rattle.sketch_merge.specs.Stored.{IsStored, stored_view}
use Rattle.sketch_merge.proofs.LevelLists.{bound-levels_of}
use Rattle.sketch_merge.proofs.Replies.{all_size, merged_nothing}
use Rattle.sketch_merge.proofs.Views.{IsStored-nothing, zeros_small}
use Rattle.sketch_merge.proofs.merged.Merged.new.Goals as goal

abbrev view : Vec (List ℕ) Global → List (List ℕ)
view level = level.items

zeros_are : (c : goal.In_ok-no_keys)
    → c.in_ok-zeros.field-0.items ≡ replicate (all_size (setting_of c.args.params)) (pos 0)
zeros_are c = rw (c.from-levels.ensures, c.from.ensures, c.from-2.ensures) at c.in_ok-zeros.ensures.value

no_keys_are : (c : goal.In_ok-no_keys)
    → map view c.in_ok-no_keys.field-0.items ≡ replicate (c.args.params.levels + 1) []
no_keys_are c = rw c.from-levels.ensures at c.in_ok-no_keys.ensures.value

pub invariant_of-result : goal.invariant_of-result
invariant_of-result c =
    let setting = setting_of c.args.params in
    subst (λ (counters : List ℤ). IsStored setting counters (map view c.in_ok-no_keys.field-0.items))
    (sym (zeros_are c))
    (subst (IsStored setting (replicate (all_size setting) (pos 0))) (sym (no_keys_are c))
    (IsStored-nothing setting c.args.params.within))

pub returns-clause-value : goal.returns-clause-value
returns-clause-value c =
    let setting = setting_of c.args.params in
    (λ i. stored_view setting (zeros_are c i) (no_keys_are c i) false 0) ∙ merged_nothing setting 0

pub returns-clause-small : goal.returns-clause-small
returns-clause-small c =
    let setting = setting_of c.args.params in
    bound-levels_of 0 (level_count setting) (level_size setting) c.in_ok-zeros.field-0.items
    (subst (AllUpTo 0) (sym (zeros_are c)) (zeros_small 0 (all_size setting)))

pub returns-clause-few : goal.returns-clause-few
returns-clause-few c =
    subst (HaveUpTo 0) (sym (no_keys_are c)) (record {
      each = All-replicate (λ (level : List (List ℕ)). length level ≤ 0) (c.args.params.levels + 1) [] (omega arith);
    })
