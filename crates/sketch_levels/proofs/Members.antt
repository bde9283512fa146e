-- Which keys are among the distinct ones of a list.
use Rattle.std.proofs.Common.{◌≡◌, ◌↔◌, ℕ, ◌||◌, ◌&&◌, Bool, true, inl, inr, List, [], ◌∷◌, map, refl, sym, ◌∙◌, ap}
use Rattle.std.specs.List.{Any, Contains, filter, list_any}
use Rattle.std.specs.Ordering.{is_eq}
use Rattle.std.specs.Cmp.{eq_by_cmp_equiv}
use Rattle.std.proofs.lemmas.Bool.{cases_Bool, and_from, and_parts}
use Rattle.std.proofs.lemmas.Cmp.{nat_list_cmp_total, tied_itself}
use Rattle.std.proofs.lemmas.List.Folds.{Any-from_list_any, list_any-from_Any}
use Rattle.std.proofs.lemmas.Map.Views.{Contains-from_any, list_any-from_Contains}
use Rattle.hash_family.specs.Hash.{is_live}
use Rattle.flow_keys.proofs.KeySets.{any-fold, same, same_is}
use Rattle.sketch_levels.specs.Items.{distinct}
use Rattle.sketch_levels.specs.Noted.{Note, live_keys}

any-distinct : (q : List ℕ) (keys : List (List ℕ)) → list_any (same q) (distinct keys) ≡ list_any (same q) keys
unfolding distinct
any-distinct q keys = any-fold q [] keys

-- a note of a key that is live at the level
abbrev names : ℕ → List ℕ → Note → Bool
names level q note = is_live note.seed level note.key && same q note.key

any-live : (level : ℕ) (q : List ℕ) (notes : List Note)
    → list_any (same q) (map (λ (n : Note). n.key) (filter (λ (n : Note). is_live n.seed level n.key) notes)) ≡ list_any
    (names level q) notes
any-live level q [] = refl
any-live level q (n ∷ notes) = elim (cases_Bool (is_live n.seed level n.key)) [
  | inl live ↦ rw live (ap (λ b. same q n.key || b) (any-live level q notes))
  | inr dead ↦ rw dead (any-live level q notes)
]

any-live_keys : (level : ℕ) (q : List ℕ) (notes : List Note)
    → list_any (same q) (live_keys level notes) ≡ list_any (names level q) notes
unfolding live_keys
any-live_keys level q notes = any-distinct q _ ∙ any-live level q notes

-- what each element that passes meets
any_weaker : {X : Type 0} (P Q : X → Type 0) (xs : List X) → ((x : X) → P x → Q x) → Any P xs → Any Q xs
any_weaker P Q xs f any = (any.0, any.1, any.2, any.3, f any.1 any.4)

pub own_key : (key : List ℕ) → same key key ≡ true
own_key key = ap is_eq (tied_itself nat_list_cmp_total key)

-- the keys of a level are those that a note names which is live there
pub live_keys-each : (level : ℕ) (notes : List Note) (key : List ℕ)
    → Contains (live_keys level notes) key ↔ Any
    (λ note. (note.key ≡ key) × (is_live note.seed level note.key ≡ true)) notes
live_keys-each level notes key =
    let Named : Note → Type 0 = λ note. (note.key ≡ key) × (is_live note.seed level note.key ≡ true) in (
      λ held.
          let found = sym (any-live_keys level key notes)
          ∙ list_any-from_Contains (eq_by_cmp_equiv nat_list_cmp_total) key (live_keys level notes) held in
          any_weaker (λ (n : Note). names level key n ≡ true) Named notes
          (λ n h. let parts = and_parts _ _ h in (sym (same_is key n.key parts.1), parts.0))
          (Any-from_list_any (names level key) notes found),
      λ named.
          Contains-from_any same_is key (live_keys level notes)
          (any-live_keys level key notes
          ∙ list_any-from_Any (names level key) notes
          (any_weaker Named (λ (n : Note). names level key n ≡ true) notes
          (λ n h. and_from _ _ h.1 (rw h.0 (own_key key))) named)),
    )
