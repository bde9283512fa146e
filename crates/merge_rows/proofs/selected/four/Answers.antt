use Rattle.std.proofs.Common.{ℕ, ℤ, List, [], ◌∷◌, refl, sym, subst}
use Rattle.std.specs.List.{IsDistinct}
use Rattle.recursive_sum.specs.Select.{HaveOwnKeys}
use Rattle.merge_rows.proofs.selected.four.Goals as goal

abbrev key : ℕ → List ℕ
key n = 6 ∷ n ∷ 0 ∷ 0 ∷ 0 ∷ 0 ∷ 0 ∷ 0 ∷ 0 ∷ 0 ∷ 17 ∷ []

own_four : (a b c d : ℤ) → HaveOwnKeys ((key 2, a) ∷ (key 1, b) ∷ (key 3, c) ∷ (key 4, d) ∷ [])
unfolding IsDistinct
own_four a b c d = record { distinct = ((refl, (refl, (refl, tt))), ((refl, (refl, tt)), ((refl, tt), (tt, tt)))) }

pub returns : goal.returns
returns g c =
    subst HaveOwnKeys (sym (rw c.expect.ensures at c.vec-pairs.ensures.items))
    (rw (c.key.ensures.value, c.key-2.ensures.value, c.key-3.ensures.value, c.key-4.ensures.value) (own_four _ _ _ _))
