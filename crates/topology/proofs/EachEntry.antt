-- Entries that are read one after the other.
use Rattle.std.proofs.Common.{◌≡◌, ℕ, ◌+◌, ◌<◌, List, [], ◌∷◌, ◌++◌, map, take, length, get_or, ap, sym, ◌∙◌}
use Rattle.std.proofs.lemmas.List.{length-map, map-append, take_more, get_or-map}
use Rattle.toml.specs.Data.{Data}
use Rattle.toml.specs.View.{view}
use Rattle.toml.specs.declared.value.Value.{Value}
use Rattle.topology.specs.Paths.{path_fault, path_fault_in}
use Rattle.topology.specs.Via.{number_of, hop_fault, hop_fault_in}
use Rattle.topology.specs.Switches.{no_entry, name_of, switch_fault, switch_fault_in}

-- the entry of a number
pub entry_at : (values : List Value) (k : ℕ) (value : Value) → k < length values → value ≡ get_or values k value
    → get_or (map view values) k no_entry ≡ view value
entry_at values k value below same = get_or-map view values k value no_entry below ∙ ap view (sym same)

-- one more entry
pub mapped_more : {B : Type 0} (f : Data → B) (values : List Value) (k : ℕ) (value : Value) → k < length values
    → value ≡ get_or values k value
    → map f (take (k + 1) (map view values)) ≡ map f (take k (map view values)) ++ f (view value) ∷ []
mapped_more f values k value below same =
    let within : k < length (map view values) = rw (length-map values view) below in
    ap (map f) (take_more (map view values) k no_entry within)
    ∙ map-append f (take k (map view values)) (get_or (map view values) k no_entry ∷ [])
    ∙ ap (λ x. map f (take k (map view values)) ++ f x ∷ []) (entry_at values k value below same)

-- what is wrong with a switch, by its number
pub switch_fault_here : (values : List Value) (k : ℕ) (value : Value) (names : List (List ℕ)) → k < length values
    → value ≡ get_or values k value
    → names ≡ map name_of (take k (map view values))
    → switch_fault_in (map view values) k ≡ switch_fault names k (view value)
unfolding switch_fault_in
switch_fault_here values k value names below same named = rw (entry_at values k value below same, named)

-- what is wrong with an element of a via, by its number
pub hop_fault_here : (switches : List (List ℕ)) (path : ℕ) (values : List Value) (k : ℕ) (value : Value)
    (earlier : List ℕ) → k < length values → value ≡ get_or values k value
    → earlier ≡ map (number_of switches) (take k (map view values))
    → hop_fault_in switches path (map view values) k ≡ hop_fault switches path earlier (view value)
unfolding hop_fault_in
hop_fault_here switches path values k value earlier below same numbered =
    rw (entry_at values k value below same, numbered)

-- what is wrong with a path, by its number
pub path_fault_here : (switches : List (List ℕ)) (values : List Value) (k : ℕ) (value : Value)
    (names : List (List ℕ)) → k < length values → value ≡ get_or values k value
    → names ≡ map name_of (take k (map view values))
    → path_fault_in switches (map view values) k ≡ path_fault switches names k (view value)
unfolding path_fault_in
path_fault_here switches values k value names below same named = rw (entry_at values k value below same, named)
