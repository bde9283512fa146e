use Rattle.std.proofs.Common.{◌≡◌, ℕ, ◌+◌, ◌<◌, [], List, Vec, Global, length, map, get_or, sym, ◌∙◌, ap, subst, arith}
use Rattle.std.specs.Cmp.Lexicographic.{slice_cmp}
use Rattle.std.specs.List.Sorted.{IsStrictlySortedBy}
use Rattle.std.specs.Ordering.{nat_cmp}
use Rattle.std.proofs.lemmas.List.{length-map}
use Rattle.sketch_merge.specs.Merged.{View, keys_at}
use Rattle.sketch_merge.proofs.Zipped.{seen_all, seen_at}
use Rattle.sketch_merge.proofs.merged.Merged.keys.Goals as goal

abbrev view : Vec (List ℕ) Global → List (List ℕ)
view level = level.items

within : (c : goal.After-deref) → c.from.result < length c.self.inside.keys.items
within c =
    let levels : length (map view c.self.inside.keys.items) ≡ c.args.self.now.setting.levels + 1 =
    c.self.invariant.key_levels ∙ ap (λ (v : View). v.setting.levels + 1) c.self.view_is in
    omega (arith, c.from.ensures, c.requires, length-map c.self.inside.keys.items view)

pub returns-clause-value : goal.returns-clause-value
unfolding keys_at
returns-clause-value c =
    let items = c.self.inside.keys.items in
    c.deref.ensures.value
    ∙ sym (seen_at view items c.from.result c.index.result.now [] (within c) c.index.ensures)
    ∙ ap (λ (place : ℕ). get_or (map view items) place []) c.from.ensures
    ∙ ap (λ (v : View). get_or v.keys c.args.level []) c.self.view_is

pub returns-clause-ascending : goal.returns-clause-ascending
returns-clause-ascending c =
    subst (IsStrictlySortedBy (slice_cmp nat_cmp)) (sym c.deref.ensures.value)
    (seen_all (IsStrictlySortedBy (slice_cmp nat_cmp)) view c.self.inside.keys.items c.from.result c.index.result.now
    (within c) c.index.ensures c.self.invariant.ascending)
