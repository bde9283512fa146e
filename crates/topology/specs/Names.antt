-- The names of entries.
use Rattle.std.specs.Prelude.{ℕ, Bool, not, ◌&&◌, ◌||◌, ◌==◌, nat_le, List, [], ◌∷◌, length, bytes_eq, Option}
use Rattle.std.specs.List.{list_all, list_any}
use Rattle.topology.specs.declared.fault.TopologyFault.{TopologyFault}
use Rattle.topology.specs.declared.fault.TopologyFault.TheVariants as fault
use Rattle.topology.specs.declared.place.Place.{Place}
use Rattle.topology.specs.Faults.{when, first_fault}
use Rattle.topology.specs.Fields.{kind_fault, text_at}
use Rattle.topology.specs.Place.{key_of}
use Rattle.toml.specs.Data.{Data, as_str}

-- a to z, 0 to 9, _ or -
abbrev pub is_name_byte : ℕ → Bool
is_name_byte b = (nat_le 97 b && nat_le b 122) || (nat_le 48 b && nat_le b 57) || b == 95 || b == 45

-- 1 to 32 such bytes
abbrev pub is_name : List ℕ → Bool
is_name name = nat_le 1 (length name) && nat_le (length name) 32 && list_all is_name_byte name

-- the name is among these
abbrev pub is_among : List (List ℕ) → List ℕ → Bool
is_among names name = list_any (bytes_eq name) names

-- what is wrong with the name of an entry behind entries with these names
abbrev pub name_fault : List (List ℕ) → Place → Data → Option TopologyFault
name_fault earlier place entry =
    first_fault (
    kind_fault as_str place entry
    ∷ when (not (is_name (text_at (key_of place) entry))) (fault.BadName place.entry place.index)
    ∷ when (is_among earlier (text_at (key_of place) entry)) (fault.TwiceNamed place.entry place.index)
    ∷ [])
