-- Live keys, level by level.
use Rattle.std.proofs.Common.{◌≡◌, ℕ, ◌+◌, ◌-◌, ◌≤◌, zero, suc, true, false, ◌&&◌, List, refl, ◌∙◌, subst, arith}
use Rattle.std.proofs.Common.{add-one}
use Rattle.std.proofs.lemmas.Bool.{and_left, and_right, and_from}
use Rattle.hash_family.specs.Hash.{is_live, is_sampled}

pub is_live-none : (seed : ℕ) (key : List ℕ) → is_live seed 0 key ≡ true
unfolding is_live
is_live-none seed key = refl

is_live-suc : (seed level : ℕ) (key : List ℕ)
    → is_live seed (suc level) key ≡ (is_live seed level key && is_sampled seed (suc level) key)
unfolding is_live
is_live-suc seed level key = refl

-- a key that is live at a level is so at the next where that level samples it
pub live_on : (seed level : ℕ) (key : List ℕ) → is_live seed level key ≡ true → is_sampled seed (level + 1) key ≡ true
    → is_live seed (level + 1) key ≡ true
live_on seed level key live =
    rw add-one (λ sampled. is_live-suc seed level key ∙ and_from _ _ live sampled)

dead_on : (seed level more top : ℕ) (key : List ℕ) → top ≡ more + suc level → is_sampled seed (suc level) key ≡ false
    → is_live seed top key ≡ false
dead_on seed level zero top key is dropped =
    let e : suc level ≡ top = omega arith in
    subst (λ (n : ℕ). is_live seed n key ≡ false) e (is_live-suc seed level key ∙ and_right _ _ dropped)
dead_on seed level (suc more) top key is dropped =
    let e : suc (more + suc level) ≡ top = omega arith in
    subst (λ (n : ℕ). is_live seed n key ≡ false) e
    (is_live-suc seed (more + suc level) key
    ∙ and_left _ _ (dead_on seed level more (more + suc level) key refl dropped))

-- a key that a level doesn't sample is live at no level from there up
pub dead_from : (seed level top : ℕ) (key : List ℕ) → level + 1 ≤ top → is_sampled seed (level + 1) key ≡ false
    → is_live seed top key ≡ false
dead_from seed level top key within =
    rw add-one (dead_on seed level (top - (level + 1)) top key (omega arith))
