-- A file with nothing wrong is within all limits.
use Rattle.std.proofs.Common.{◌≡◌, ◌≢◌, ℕ, zero, suc, ◌+◌, ◌<◌, ◌≤◌, ◌==◌, Bool, true, false, not, List, [], ◌∷◌, map, take, length, slice_index, Option, Some, None, Ok, codes, refl, sym, ap, subst, ◌∙◌, arith, rules}
use Rattle.std.specs.Prelude.{All, AllPairs, bytes_eq, is_none, nat_abs, unwrap_or, slice_index_or, ℤ}
use Rattle.std.specs.List.{list_any}
use Rattle.std.proofs.lemmas.Bool.{false≢true}
use Rattle.std.proofs.lemmas.Bool.Decides.{nat_tests}
use Rattle.std.proofs.lemmas.List.{get_or-map, get_or-take, length-map, length-take-le}
use Rattle.std.proofs.lemmas.List.Quantifiers.{position-Some}
use Rattle.std.proofs.lemmas.Slice.Eq.{bytes_eq-Decides}
use borrow.Author.Tests.{eq-eqb}
use Rattle.toml.specs.Data.{Data}
use Rattle.topology.specs.Accepted.{AreNames, HasOneFamily, IsAccepted, IsPath, IsSwitch}
use Rattle.topology.specs.Faults.{first_from, or_else, when}
use Rattle.topology.specs.Fields.{count_fault, entries_of, integer_at, is_between, list_fault, list_place, number_at, number_fault, text_at}
use Rattle.topology.specs.Names.{is_among, is_name, name_fault}
use Rattle.topology.specs.Paths.{ends_fault, ends_of, most_paths, need_fault, need_of, path_fault, path_fault_in, paths_fault, paths_of, prefix_at}
use Rattle.topology.specs.Place.{at_place, key_of}
use Rattle.topology.specs.Switches.{most_16, most_32, most_switches, name_of, no_entry, site_of, switch_fault, switch_fault_in, switches_fault, switches_of}
use Rattle.topology.specs.Topology.{Topo, answer, document_fault, file_fault, root_of, switch_names_of, topo_of, topology_of}
use Rattle.topology.specs.Via.{hop_fault, hop_fault_in, hops_of, most_via, number_of, switch_of, text_of, via_fault, via_of, via_place}
use Rattle.topology.specs.declared.fault.Entry.{Entry}
use Rattle.topology.specs.declared.fault.Entry.TheVariants as entry
use Rattle.topology.specs.declared.fault.TopologyFault.{TopologyFault}
use Rattle.topology.specs.declared.fault.What.TheVariants as what
use Rattle.topology.specs.declared.place.Place.{Place}

-- ---- tests that give no fault

none_first : (a b : Option TopologyFault) → or_else a b ≡ None → a ≡ None
none_first None b none = refl
none_first (Some fault) b none = none

none_second : (a b : Option TopologyFault) → or_else a b ≡ None → b ≡ None
none_second None b none = none
none_second (Some fault) b none = cc

not_when : (test : Bool) (fault : TopologyFault) → when test fault ≡ None → test ≡ false
not_when true fault none = cc
not_when false fault none = refl

not_not : (b : Bool) → not b ≡ false → b ≡ true
not_not true none = refl
not_not false none = sym none

none_each : (test : ℕ → Option TopologyFault) (start count : ℕ) → first_from test start count ≡ None
    → (k : ℕ) → k < count → test (start + k) ≡ None
unfolding first_from
none_each test start zero none k below = absurd (omega (arith, below))
none_each test start (suc count) none zero below =
    subst (λ n. test n ≡ None) (omega arith) (none_first (test start) (first_from test (start + 1) count) none)
none_each test start (suc count) none (suc k) below =
    subst (λ n. test n ≡ None) (omega arith)
    (none_each test (start + 1) count (none_second (test start) (first_from test (start + 1) count) none) k
    (omega (arith, below)))

-- ---- lists

all_mapped : {B : Type 0} (P : B → Type 0) (f : Data → B) (xs : List Data)
    → ((k : ℕ) → k < length xs → P (f (slice_index_or xs k no_entry)))
    → All P (map f xs)
all_mapped P f xs each k d below =
    let within : k < length xs = omega (arith, below, length-map xs f) in
    subst P (sym (get_or-map f xs k no_entry d within)) (each k within)

-- each is another than those before it
distinct_mapped : {B : Type 0} (f : Data → B) (xs : List Data)
    → ((j : ℕ) → j < length xs → (i : ℕ) → i < j → f (slice_index_or xs i no_entry) ≢ f (slice_index_or xs j no_entry))
    → AllPairs (λ a b. a ≢ b) (map f xs)
distinct_mapped f xs each i j d before below =
    let within : j < length xs = omega (arith, below, length-map xs f) in
    let earlier : i < length xs = omega (arith, before, within) in
    λ same. each j within i before
    (sym (get_or-map f xs i no_entry d earlier) ∙ same ∙ get_or-map f xs j no_entry d within)

none_of : {X : Type 0} (p : X → Bool) (xs : List X) → list_any p xs ≡ false → All (λ x. p x ≡ false) xs
none_of p [] none k d below = absurd (omega (arith, below))
none_of p (x ∷ xs) none zero d below = grind (arith, nat_tests)
none_of p (x ∷ xs) none (suc k) d below =
    none_of p xs (let rest : list_any p xs ≡ false = grind (arith, nat_tests) in rest) k d (omega (arith, below))

-- an earlier member of a mapped list is among those in front
front_at : {B : Type 0} (f : Data → B) (xs : List Data) (i j : ℕ) (d : B) → j < length xs → i < j
    → slice_index_or (map f (take j xs)) i d ≡ f (slice_index_or xs i no_entry)
front_at f xs i j d below before =
    get_or-map f (take j xs) i no_entry d (omega (arith, before, length-take-le j xs (omega (arith, below))))
    ∙ ap f (get_or-take j xs i no_entry before)

front_within : {B : Type 0} (f : Data → B) (xs : List Data) (i j : ℕ) → j < length xs → i < j
    → i < length (map f (take j xs))
front_within f xs i j below before =
    omega (arith, before, length-take-le j xs (omega (arith, below)), length-map (take j xs) f)

-- ---- names

-- what a name is, behind names in front
record IsNew (earlier : List (List ℕ)) (name : List ℕ) : Type 0 where
  valid : is_name name ≡ true
  other : is_among earlier name ≡ false

name_right : (earlier : List (List ℕ)) (place : Place) (entry : Data) → name_fault earlier place entry ≡ None
    → IsNew earlier (text_at (key_of place) entry)
name_right earlier place entry none =
    let behind = none_second _ _ none in record {
      valid = not_not _ (not_when _ _ (none_first _ _ behind));
      other = not_when _ _ (none_first _ _ (none_second _ _ behind));
    }

are_names : (entries : List Data)
    → ((k : ℕ) → k < length entries
    → IsNew (map name_of (take k entries)) (name_of (slice_index_or entries k no_entry)))
    → AreNames (map name_of entries)
are_names entries each = record {
  each = all_mapped (λ name. is_name name ≡ true) name_of entries (λ k below. (each k below).valid);
  distinct = distinct_mapped name_of entries (λ j below i before same.
      let mine = name_of (slice_index_or entries j no_entry) in
      let apart = none_of (bytes_eq mine) (map name_of (take j entries)) (each j below).other i []
      (front_within name_of entries i j below before) in
      let equal = (bytes_eq-Decides mine (slice_index_or (map name_of (take j entries)) i [])).1
      (sym (front_at name_of entries i j [] below before ∙ same)) in
      false≢true (sym apart ∙ equal));
}

-- ---- numbers

between_right : (least most : ℕ) (z : ℤ) → is_between least most z ≡ true → (least ≤ nat_abs z) × (nat_abs z ≤ most)
between_right least most z holds = (grind (arith, nat_tests), grind (arith, nat_tests))

number_right : (least most : ℕ) (place : Place) (entry : Data) → number_fault least most place entry ≡ None
    → (least ≤ number_at (key_of place) entry) × (number_at (key_of place) entry ≤ most)
number_right least most place entry none =
    between_right least most (integer_at (key_of place) entry)
    (not_not _ (not_when _ _ (none_first _ _ (none_second _ _ none))))

count_right : (most : ℕ) (place : Place) (found : ℕ) → count_fault most place found ≡ None
    → (1 ≤ found) × (found ≤ most)
count_right most place found none =
    let holds = not_not _ (not_when _ _ none) in (grind (arith, nat_tests), grind (arith, nat_tests))

list_right : (most : ℕ) (e : Entry) (root : Data) → list_fault most e root ≡ None
    → (1 ≤ length (entries_of e root)) × (length (entries_of e root) ≤ most)
list_right most e root none =
    count_right most (list_place e) (length (entries_of e root))
    (none_first _ _ (none_second _ _ (none_second _ _ none)))

-- ---- switches

record IsSwitchEntry (earlier : List (List ℕ)) (switch : Data) : Type 0 where
  name : IsNew earlier (name_of switch)
  numbers : IsSwitch (site_of switch)

switch_right : (earlier : List (List ℕ)) (k : ℕ) (switch : Data) → switch_fault earlier k switch ≡ None
    → IsSwitchEntry earlier switch
unfolding switch_fault name_of site_of
switch_right earlier k switch none =
    let second = none_second _ _ none in
    let third = none_second _ _ second in
    let fourth = none_second _ _ third in
    record {
      name = name_right earlier (at_place entry.Switch k what.Name) switch (none_first _ _ none);
      numbers = record {
        capacity = (number_right 0 most_32 (at_place entry.Switch k what.Capacity) switch (none_first _ _ second)).1;
        opening = (number_right 0 most_32 (at_place entry.Switch k what.Opening) switch (none_first _ _ third)).1;
        unit = (number_right 0 most_16 (at_place entry.Switch k what.Unit) switch (none_first _ _ fourth)).1;
      };
    }

-- the two lists, and each of their entries
record AreEntries (most : ℕ) (P : ℕ → Data → Type 0) (entries : List Data) : Type 0 where
  some : 1 ≤ length entries
  few : length entries ≤ most
  each : (k : ℕ) → k < length entries → P k (slice_index_or entries k no_entry)

are_switches : (root : Data) → switches_fault root ≡ None
    → AreEntries most_switches (λ k switch. IsSwitchEntry (map name_of (take k (switches_of root))) switch)
    (switches_of root)
unfolding switches_fault switch_fault_in
are_switches root none =
    let count = list_right most_switches entry.Switch root (none_first _ _ none) in
    let tests = none_first _ _ (none_second _ _ none) in
    record {
      some = count.0;
      few = count.1;
      each = λ k below. switch_right _ k _
          (subst (λ n. switch_fault_in (switches_of root) n ≡ None) (omega arith)
          (none_each (switch_fault_in (switches_of root)) 0 _ tests k below));
    }

-- ---- paths

ends_right : (k : ℕ) (path : Data) → ends_fault k path ≡ None → HasOneFamily (ends_of path)
unfolding ends_fault ends_of
ends_right k path none =
    let test : ((prefix_at (codes "from") path).family == (prefix_at (codes "to") path).family) ≡ true =
    not_not _ (not_when _ _ (none_first _ _ (none_second _ _ (none_second _ _ none)))) in grind (arith, nat_tests)

-- what an element of a via is, behind the numbers in front
record IsHop (switches : List (List ℕ)) (earlier : List ℕ) (number : ℕ) : Type 0 where
  known : number < length switches
  other : list_any (λ before. before == number) earlier ≡ false

known_number : (switches : List (List ℕ)) (name : List ℕ) (o : Option ℕ) → switch_of switches name ≡ o
    → is_none o ≡ false
    → unwrap_or o 0 < length switches
known_number switches name None is some = cc
known_number switches name (Some number) is some = (position-Some (bytes_eq name) switches number [] is).0

hop_right : (switches : List (List ℕ)) (k : ℕ) (earlier : List ℕ) (element : Data)
    → hop_fault switches k earlier element ≡ None
    → IsHop switches earlier (number_of switches element)
unfolding hop_fault number_of
hop_right switches k earlier element none = record {
  known =
      known_number switches (text_of element) (switch_of switches (text_of element)) refl
      (not_when _ _ (none_first _ _ none));
  other = not_when _ _ (none_first _ _ (none_second _ _ none));
}

record IsVia (switches : List (List ℕ)) (via : List ℕ) : Type 0 where
  some : 1 ≤ length via
  few : length via ≤ most_via
  known : All (λ site. site < length switches) via
  distinct : AllPairs (λ a b. a ≢ b) via

hops_right : (switches : List (List ℕ)) (k : ℕ) (path : Data) → via_fault switches k path ≡ None
    → AreEntries most_via (λ j element.
    IsHop switches (map (number_of switches) (take j (hops_of path))) (number_of switches element))
    (hops_of path)
unfolding via_fault hop_fault_in
hops_right switches k path none =
    let third = none_second _ _ (none_second _ _ none) in
    let count = count_right most_via (via_place k) (length (hops_of path)) (none_first _ _ third) in
    let tests = none_first _ _ (none_second _ _ third) in
    record {
      some = count.0;
      few = count.1;
      each = λ j below. hop_right switches k _ _
          (subst (λ n. hop_fault_in switches k (hops_of path) n ≡ None) (omega arith)
          (none_each (hop_fault_in switches k (hops_of path)) 0 _ tests j below));
    }

via_right : (switches : List (List ℕ)) (k : ℕ) (path : Data) → via_fault switches k path ≡ None
    → IsVia switches (via_of switches path)
unfolding via_of
via_right switches k path none =
    let are = hops_right switches k path none in
    let hops = hops_of path in
    let number = number_of switches in
    let size = length-map hops number in
    record {
      some = omega (arith, are.some, size);
      few = omega (arith, are.few, size);
      known = all_mapped (λ site. site < length switches) number hops (λ j below. (are.each j below).known);
      distinct = distinct_mapped number hops (λ j below i before same.
          let mine = number (slice_index_or hops j no_entry) in
          let apart = none_of (λ other. other == mine) (map number (take j hops)) (are.each j below).other i 0
          (front_within number hops i j below before) in
          let equal = eq-eqb (slice_index (map number (take j hops)) i) mine (front_at number hops i j 0 below before
          ∙ same) in
          false≢true (sym apart ∙ equal));
    }

need_right : (switches : List (List ℕ)) (k : ℕ) (path : Data) → need_fault switches k path ≡ None
    → IsPath (length switches) (need_of switches path)
unfolding need_fault need_of
need_right switches k path none =
    let load = number_right 1 most_16 (at_place entry.Path k what.Load) path (none_first _ _ none) in
    let via = via_right switches k path (none_first _ _ (none_second _ _ none)) in
    record {
      within = record { loaded = load.0; some = via.some; few = via.few; known = via.known; distinct = via.distinct };
      fits = load.1;
    }

record IsPathEntry (switches earlier : List (List ℕ)) (path : Data) : Type 0 where
  name : IsNew earlier (name_of path)
  ends : HasOneFamily (ends_of path)
  need : IsPath (length switches) (need_of switches path)

path_right : (switches earlier : List (List ℕ)) (k : ℕ) (path : Data) → path_fault switches earlier k path ≡ None
    → IsPathEntry switches earlier path
unfolding path_fault name_of
path_right switches earlier k path none =
    let second = none_second _ _ none in record {
      name = name_right earlier (at_place entry.Path k what.Name) path (none_first _ _ none);
      ends = ends_right k path (none_first _ _ second);
      need = need_right switches k path (none_first _ _ (none_second _ _ second));
    }

are_paths : (switches : List (List ℕ)) (root : Data) → paths_fault switches root ≡ None
    → AreEntries most_paths (λ k path. IsPathEntry switches (map name_of (take k (paths_of root))) path) (paths_of root)
unfolding paths_fault path_fault_in
are_paths switches root none =
    let count = list_right most_paths entry.Path root (none_first _ _ none) in
    let tests = none_first _ _ (none_second _ _ none) in
    record {
      some = count.0;
      few = count.1;
      each = λ k below. path_right switches _ k _
          (subst (λ n. path_fault_in switches (paths_of root) n ≡ None) (omega arith)
          (none_each (path_fault_in switches (paths_of root)) 0 _ tests k below));
    }

-- ---- files

accepted_document : (root : Data) → document_fault root ≡ None → IsAccepted (topo_of root)
unfolding document_fault topo_of
accepted_document root none =
    let names = switch_names_of root in
    let switches = are_switches root (none_first _ _ none) in
    let paths = are_paths names root (none_first _ _ (none_second _ _ none)) in
    let named = length-map (switches_of root) name_of in
    let titled = length-map (paths_of root) name_of in
    record {
      some_switches = omega (arith, switches.some, named);
      few_switches = omega (arith, switches.few, named);
      some_paths = omega (arith, paths.some, titled);
      few_paths = omega (arith, paths.few, titled);
      switch_names = are_names (switches_of root) (λ k below. (switches.each k below).name);
      path_names = are_names (paths_of root) (λ k below. (paths.each k below).name);
      sites = length-map (switches_of root) site_of ∙ sym named;
      needs = length-map (paths_of root) (need_of names) ∙ sym titled;
      ends = length-map (paths_of root) ends_of ∙ sym titled;
      each_site = all_mapped IsSwitch site_of (switches_of root) (λ k below. (switches.each k below).numbers);
      each_need =
          all_mapped (IsPath (length names)) (need_of names) (paths_of root) (λ k below. (paths.each k below).need);
      each_end = all_mapped HasOneFamily ends_of (paths_of root) (λ k below. (paths.each k below).ends);
    }

accepted_by : (o : Option TopologyFault) (made topo : Topo) → answer o made ≡ Ok topo → (o ≡ None) × (made ≡ topo)
accepted_by None made topo is = (refl, search rules)
accepted_by (Some fault) made topo is = cc

pub accepted : (bytes : List ℕ) (topo : Topo) → topology_of bytes ≡ Ok topo → IsAccepted topo
unfolding topology_of file_fault
accepted bytes topo is =
    let read = accepted_by (file_fault bytes) (topo_of (root_of bytes)) topo is in
    subst IsAccepted read.1
    (accepted_document (root_of bytes) (none_first _ _ (none_second _ _ (none_second _ _ read.0))))
