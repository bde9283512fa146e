-- A topology, as clauses see it, and the file that spells it.
use Rattle.std.specs.Prelude.{ℕ, ◌≡◌, nat_lt, List, [], ◌∷◌, map, length, position, Option, Some, None, is_none, unwrap_or, Result, Ok, Err, if◌then◌else◌}
use Rattle.std.specs.Str.{is_utf8}
use Rattle.bound_certificate.specs.Problem.{Problem}
use Rattle.topology.specs.declared.ends.Ends.{Ends}
use Rattle.topology.specs.declared.fault.TopologyFault.{TopologyFault}
use Rattle.topology.specs.declared.fault.TopologyFault.TheVariants as fault
use Rattle.topology.specs.Faults.{when, first_fault}
use Rattle.topology.specs.Paths.{ends_of, need_of, paths_of, paths_fault}
use Rattle.topology.specs.Takes.{takes}
use Rattle.topology.specs.Switches.{name_of, site_of, switches_of, switches_fault}
use Rattle.toml.specs.Data.{Data, table, Members, no_members}
use Rattle.toml.specs.Parse.{parse_document}

-- the switches and the paths by their numbers: their names, the prefixes of each path, and the problem to place the paths
pub record Topo : Type 0 where
  pub switch_names : List (List ℕ)
  pub path_names : List (List ℕ)
  pub ends : List Ends
  pub problem : Problem

-- the topology of these parts
abbrev pub seen : List (List ℕ) → List (List ℕ) → List Ends → Problem → Topo
seen switches paths between placed =
    record { switch_names = switches; path_names = paths; ends = between; problem = placed }

-- the most bytes that a file can have
abbrev pub most_bytes : ℕ
most_bytes = 1048576

-- the document that the bytes spell in TOML
unfoldable pub document_of : List ℕ → Option Members
document_of bytes = if is_utf8 bytes then parse_document bytes else None

-- the same as a value, and an empty table where there is none
unfoldable pub root_of : List ℕ → Data
root_of bytes = table (unwrap_or (document_of bytes) no_members)

-- the names of the switches
abbrev pub switch_names_of : Data → List (List ℕ)
switch_names_of root = map name_of (switches_of root)

-- the topology of a document with nothing wrong
unfoldable pub topo_of : Data → Topo
topo_of root = record {
  switch_names = switch_names_of root;
  path_names = map name_of (paths_of root);
  ends = map ends_of (paths_of root);
  problem =
      record { sites = map site_of (switches_of root); needs = map (need_of (switch_names_of root)) (paths_of root) };
}

-- what is wrong with a document: with its switches, else with its paths
unfoldable pub document_fault : Data → Option TopologyFault
document_fault root =
    first_fault (
    switches_fault root
    ∷ paths_fault (switch_names_of root) root
    ∷ [])

-- what is wrong with a file: the first of these
unfoldable pub file_fault : List ℕ → Option TopologyFault
file_fault bytes =
    first_fault (
    when (nat_lt most_bytes (length bytes)) fault.TooLong
    ∷ when (is_none (document_of bytes)) fault.NotToml
    ∷ document_fault (root_of bytes)
    ∷ [])

-- what is answered: the fault, else the topology
abbrev pub answer : Option TopologyFault → Topo → Result Topo TopologyFault
answer None topo = Ok topo
answer (Some found) topo = Err found

-- the topology that a file spells, or the first fault
unfoldable pub topology_of : List ℕ → Result Topo TopologyFault
topology_of bytes = answer (file_fault bytes) (topo_of (root_of bytes))

-- the first path in file order that takes the key
unfoldable pub route_of : Topo → List ℕ → Option ℕ
route_of topo key = position (takes key) topo.ends

-- there are as many sites as switches, and as many needs and pairs of prefixes as paths
pub record HasEqualCounts (topo : Topo) : Type 0 where
  pub sites : length topo.problem.sites ≡ length topo.switch_names
  pub needs : length topo.problem.needs ≡ length topo.path_names
  pub ends : length topo.ends ≡ length topo.path_names
