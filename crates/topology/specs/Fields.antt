-- The values of an entry, and what can be wrong with one.
use Rattle.std.specs.Prelude.{ℕ, ◌-◌, ◌^◌, min, Bool, not, ◌&&◌, nat_le, List, [], ◌∷◌, length, position, Option, Some, None, is_none, is_some, unwrap_or, option_map, option_and_then, ℤ, pos, int_le, nat_abs}
use Rattle.topology.specs.declared.fault.Entry.{Entry}
use Rattle.topology.specs.declared.fault.TopologyFault.{TopologyFault}
use Rattle.topology.specs.declared.fault.TopologyFault.TheVariants as fault
use Rattle.topology.specs.declared.fault.What.TheVariants as what
use Rattle.topology.specs.declared.place.Place.{Place}
use Rattle.topology.specs.Faults.{when, first_fault}
use Rattle.topology.specs.Place.{key_of, missing, wrong_kind, out_of_range, at_place}
use Rattle.toml.specs.Data.{Data, Items, no_items, item, get, as_str, as_integer, as_array, as_table}

-- the elements of an array
abbrev pub list_of : Items → List Data
list_of no_items = []
list_of (item d ds) = d ∷ list_of ds

-- the text at a key, and none where no text is there
abbrev pub text_at : List ℕ → Data → List ℕ
text_at key entry = unwrap_or (option_and_then as_str (get key entry)) []

-- the integer at a key, and 0 where none is there
abbrev pub integer_at : List ℕ → Data → ℤ
integer_at key entry = unwrap_or (option_and_then as_integer (get key entry)) (pos 0)

-- the number at a key
abbrev pub number_at : List ℕ → Data → ℕ
number_at key entry = nat_abs (integer_at key entry)

-- the elements of the array at a key, and none where no array is there
abbrev pub elements_at : List ℕ → Data → List Data
elements_at key entry = list_of (unwrap_or (option_and_then as_array (get key entry)) no_items)

-- that the value is missing, or of another kind than is read
abbrev pub value_fault : {A : Type 0} → (Data → Option A) → Place → Option Data → Option TopologyFault
value_fault read place None = Some (missing place)
value_fault read place (Some value) = when (is_none (read value)) (wrong_kind place)

abbrev pub kind_fault : {A : Type 0} → (Data → Option A) → Place → Data → Option TopologyFault
kind_fault read place entry = value_fault read place (get (key_of place) entry)

-- an integer is at least the one number and at most the other
abbrev pub is_between : ℕ → ℕ → ℤ → Bool
is_between least most z = int_le (pos least) z && int_le z (pos most)

-- what is wrong with a number that has these limits
abbrev pub number_fault : ℕ → ℕ → Place → Data → Option TopologyFault
number_fault least most place entry =
    first_fault (
    kind_fault as_integer place entry
    ∷ when (not (is_between least most (integer_at (key_of place) entry))) (out_of_range place)
    ∷ [])

-- a count in 32 bits, with the greatest number for more
abbrev pub shown : ℕ → ℕ
shown n = min n (2 ^ 32 - 1)

-- that a list is empty, or longer than it can be
abbrev pub count_fault : ℕ → Place → ℕ → Option TopologyFault
count_fault most place found =
    when (not (nat_le 1 found && nat_le found most)) (fault.Count place.entry place.index place.what (shown found))

-- the place of a list itself
abbrev pub list_place : Entry → Place
list_place e = at_place e 0 what.List

abbrev pub is_no_table : Data → Bool
is_no_table element = not (is_some (as_table element))

-- that an element is no table, with the number of the first
abbrev pub element_fault : Entry → List Data → Option TopologyFault
element_fault e elements = option_map (λ k. fault.WrongKind e (shown k) what.List) (position is_no_table elements)

-- the entries of a list
abbrev pub entries_of : Entry → Data → List Data
entries_of e root = elements_at (key_of (list_place e)) root

-- what is wrong with a list of at most so many entries
abbrev pub list_fault : ℕ → Entry → Data → Option TopologyFault
list_fault most e root =
    first_fault (
    kind_fault as_array (list_place e) root
    ∷ element_fault e (entries_of e root)
    ∷ count_fault most (list_place e) (length (entries_of e root))
    ∷ [])
