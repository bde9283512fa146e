use Rattle.std.proofs.Common.{◌≡◌, ◌^◌, ℕ, ℤ, ◌+◌, ◌*◌, ◌||◌, true, false, Bool, List, Vec, Global, map}
use Rattle.std.proofs.Common.{sym, ◌∙◌, ap, subst}
use Rattle.std.specs.List.{All}
use Rattle.std.specs.Simd.Lanes.{zip2}
use Rattle.hash_family.specs.Setting.{Setting, setting_of}
use Rattle.count_sketch.specs.Counters.{AllUpTo, minus}
use Rattle.sketch_merge.specs.Merged.{HaveUpTo, View, difference, united}
use Rattle.sketch_merge.specs.Stored.{IsStored, stored_view}
use Rattle.sketch_merge.proofs.LevelLists.{flat_bound-levels_of}
use Rattle.sketch_merge.proofs.Views.{HaveUpTo-united, IsStored-difference, difference_view}
use Rattle.sketch_merge.proofs.merged.Merged.minus.Goals as goal
use Rattle.sketch_merge.proofs.merged.Merged.minus.Goals.{then-self, else-self}

abbrev view : Vec (List ℕ) Global → List (List ℕ)
view level = level.items

-- a bound on each level's counters is one on those that are stored
stored_small : (setting : Setting) (counters : List ℤ) (keys : List (List (List ℕ))) (dropped : Bool) (weight : ℕ)
    (seen : View) → IsStored setting counters keys → stored_view setting counters keys dropped weight ≡ seen
    → All (AllUpTo (2 ^ 44)) seen.counters → AllUpTo (2 ^ 44) counters
stored_small setting counters keys dropped weight seen stored is small =
    flat_bound-levels_of (2 ^ 44) (setting.levels + 1) (setting.rows * setting.width) counters stored.number
    (subst (λ (v : View). All (AllUpTo (2 ^ 44)) v.counters) (sym is) small)

pub subtracted-requires-clause-small : goal.subtracted-requires-clause-small
subtracted-requires-clause-small c =
    let old = c.self.inside in
    subst (AllUpTo (2 ^ 44)) (sym c.deref.ensures.value)
    (stored_small (setting_of old.params) old.counters.items (map view old.keys.items) old.dropped old.weight
    c.args.self.now c.self.invariant c.self.view_is c.requires.small)

pub subtracted-requires-clause-other_small : goal.subtracted-requires-clause-other_small
subtracted-requires-clause-other_small c =
    let old = c.other.inside in
    subst (AllUpTo (2 ^ 44)) (sym c.deref-2.ensures.value)
    (stored_small (setting_of old.params) old.counters.items (map view old.keys.items) old.dropped old.weight
    c.args.other.now c.other.invariant c.other.view_is c.requires.other_small)

setting_is : (c : goal.Joined-self) → setting_of c.other.inside.params ≡ setting_of c.self.inside.params
setting_is c =
    ap (λ (v : View). v.setting) c.other.view_is ∙ sym c.requires.setting
    ∙ sym (ap (λ (v : View). v.setting) c.self.view_is)

counters_are : (c : goal.Joined-self)
    → c.in_ok-counters.counters.items ≡ minus c.self.inside.counters.items c.other.inside.counters.items
counters_are c = rw (c.deref.ensures.value, c.deref-2.ensures.value) at c.in_ok-counters.ensures.value

keys_are : (c : goal.Joined-self) → map view c.in_ok-keys.keys.items
    ≡ zip2 united (map view c.self.inside.keys.items) (map view c.other.inside.keys.items)
keys_are c = rw (c.deref-3.ensures.value, c.deref-4.ensures.value) at c.in_ok-keys.ensures.value

mark_is : (c : goal.Joined-self) → c.if-self.result ≡ (c.self.inside.dropped || c.other.inside.dropped)
mark_is c = elim c.if-self.branch [
  | then-self w ↦ let here : c.self.inside.dropped ≡ true = w.if-self.true in rw here (w.result-is ∙ here)
  | else-self w ↦ let not_here : c.self.inside.dropped ≡ false = w.if-self.false in rw not_here w.result-is
]

pub invariant_of-result : goal.invariant_of-result
invariant_of-result c =
    let old = c.self.inside in
    let other = c.other.inside in
    let setting : Setting = setting_of old.params in
    let other_stored : IsStored setting other.counters.items (map view other.keys.items) =
    subst (λ (s : Setting). IsStored s other.counters.items (map view other.keys.items)) (setting_is c)
    c.other.invariant in
    let small = stored_small setting old.counters.items (map view old.keys.items) old.dropped old.weight
    c.args.self.now c.self.invariant c.self.view_is c.requires.small in
    let other_small = stored_small (setting_of other.params) other.counters.items (map view other.keys.items)
    other.dropped other.weight c.args.other.now c.other.invariant c.other.view_is c.requires.other_small in
    subst (λ (counters : List ℤ). IsStored setting counters (map view c.in_ok-keys.keys.items)) (sym (counters_are c))
    (subst (IsStored setting (minus old.counters.items other.counters.items)) (sym (keys_are c))
    (IsStored-difference setting old.counters.items other.counters.items (map view old.keys.items)
    (map view other.keys.items) c.self.invariant other_stored small other_small))

pub returns-clause-value : goal.returns-clause-value
returns-clause-value c =
    let old = c.self.inside in
    let other = c.other.inside in
    let setting : Setting = setting_of old.params in
    let first : View = stored_view setting old.counters.items (map view old.keys.items) old.dropped old.weight in
    (λ i. stored_view setting (counters_are c i) (keys_are c i) (mark_is c i) old.weight)
    ∙ difference_view setting old.counters.items other.counters.items (map view old.keys.items)
    (map view other.keys.items) old.dropped other.dropped old.weight other.weight
    ∙ ap (λ (s : Setting). difference first
    (stored_view s other.counters.items (map view other.keys.items) other.dropped other.weight)) (sym (setting_is c))
    ∙ (λ i. difference (c.self.view_is i) (c.other.view_is i))

pub returns-clause-few : goal.returns-clause-few
returns-clause-few c = λ n m first second.
    subst (HaveUpTo (n + m)) (sym (keys_are c))
    (HaveUpTo-united n m (map view c.self.inside.keys.items) (map view c.other.inside.keys.items)
    (subst (λ (v : View). HaveUpTo n v.keys) (sym c.self.view_is) first)
    (subst (λ (v : View). HaveUpTo m v.keys) (sym c.other.view_is) second))
