-- Two lists that go on to the same one.
use Rattle.std.proofs.Common.{◌≡◌, ℕ, suc, ◌≤◌, ◌<◌, ◌⊎◌, inl, inr, List, [], ◌∷◌, ◌++◌, length, refl, sym, ◌∙◌, ap, arith}
use Rattle.std.specs.Prelude.{drop, slice_index_or}

-- one list goes on to another by so many members, which the lists behind them tell
pub record Continues {X : Type 0} (ms ns xs ys : List X) : Type 0 where
  pub more : List X
  pub later : ns ≡ ms ++ more
  pub rest : xs ≡ more ++ ys

pub continues : {X : Type 0} (ms ns xs ys : List X) → length ms ≤ length ns → ms ++ xs ≡ ns ++ ys
    → Continues ms ns xs ys
continues [] ns xs ys few is = record { more = ns; later = refl; rest = is }
continues (a ∷ ms) [] xs ys few is = grind (arith)
continues (a ∷ ms) (b ∷ ns) xs ys few is =
    let others = continues ms ns xs ys (omega (arith, few)) (ap (drop 1) is) in
    let heads : a ≡ b = ap (λ es. slice_index_or es 0 a) is in
    record {
      more = others.more;
      later = ap (λ e. e ∷ ns) (sym heads)
          ∙ ap (λ es. a ∷ es) others.later;
      rest = others.rest;
    }

one_more : (m n : ℕ) → (m ≤ n) ⊎ (n < m) → (suc m ≤ suc n) ⊎ (suc n < suc m)
one_more m n (inl few) = inl (omega (arith, few))
one_more m n (inr many) = inr (omega (arith, many))

pub shorter : {X : Type 0} (ms ns : List X) → (length ms ≤ length ns) ⊎ (length ns < length ms)
shorter [] ns = inl (omega arith)
shorter (a ∷ ms) [] = inr (omega arith)
shorter (a ∷ ms) (b ∷ ns) = one_more (length ms) (length ns) (shorter ms ns)
