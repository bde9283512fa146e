-- Lists that are seen through a function.
use Rattle.std.proofs.Common.{◌≡◌, ℕ, ◌+◌, Bool, not, ◌||◌, cond, List, [], ◌∷◌, map, refl, ap, ◌∙◌, ◌++◌, false, sym, String, Global, string_bytes, subst}
use Rattle.std.proofs.lemmas.List.{length-map, map-append}
use Rattle.std.specs.Prelude.{string_eq, bytes_eq}
use Rattle.indexmap.specs.IndexSet.{insert_key}
use Rattle.std.specs.Prelude.{position}
use Rattle.std.specs.List.{list_any, prefix_len}
use Rattle.toml.specs.View.{view, items_view}
use Rattle.toml.specs.declared.value.Value.{Value}
use Rattle.topology.specs.Fields.{list_of}

pub list_of-items_view : (values : List Value) → list_of (items_view values) ≡ map view values
list_of-items_view [] = refl
list_of-items_view (value ∷ values) = ap (λ more. view value ∷ more) (list_of-items_view values)

pub list_any-map : {A B : Type 0} (p : B → Bool) (f : A → B) (xs : List A)
    → list_any p (map f xs) ≡ list_any (λ x. p (f x)) xs
list_any-map p f [] = refl
list_any-map p f (x ∷ xs) = ap (λ b. p (f x) || b) (list_any-map p f xs)

pub prefix_len-map : {A B : Type 0} (p : B → Bool) (f : A → B) (xs : List A)
    → prefix_len p (map f xs) ≡ prefix_len (λ x. p (f x)) xs
prefix_len-map p f [] = refl
prefix_len-map p f (x ∷ xs) = ap (λ n. cond (p (f x)) (1 + n) 0) (prefix_len-map p f xs)

pub position-map : {A B : Type 0} (p : B → Bool) (f : A → B) (xs : List A)
    → position p (map f xs) ≡ position (λ x. p (f x)) xs
position-map p f xs = rw (prefix_len-map (λ x. not (p x)) f xs, length-map xs f)

pub ruleset seen_lists = (list_of-items_view, list_any-map, position-map)

-- a text that is new goes behind the texts of a set
pub texts-insert_key : (keys : List (String Global)) (name : String Global) (text : List ℕ)
    → string_bytes name ≡ text → list_any (bytes_eq text) (map string_bytes keys) ≡ false
    → map string_bytes (insert_key string_eq keys name) ≡ map string_bytes keys ++ text ∷ []
texts-insert_key keys name text same new =
    let here : list_any (bytes_eq (string_bytes name)) (map string_bytes keys) ≡ false = subst
    (λ (t : List ℕ). list_any (bytes_eq t) (map string_bytes keys) ≡ false) (sym same) new in
    let absent : list_any (string_eq name) keys ≡ false = sym
    (list_any-map (bytes_eq (string_bytes name)) string_bytes keys) ∙ here in
    ap (λ taken. map string_bytes (cond taken keys (keys ++ name ∷ []))) absent
    ∙ map-append string_bytes keys (name ∷ [])
    ∙ ap (λ t. map string_bytes keys ++ t ∷ []) same
