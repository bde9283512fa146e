-- What every file that is accepted spells.
use Rattle.std.specs.Prelude.{◌≡◌, ◌≢◌, ℕ, ◌≤◌, true, List, length, All, AllPairs}
use Rattle.bound_certificate.specs.Limits.{IsNeed}
use Rattle.bound_certificate.specs.declared.need.Need.{Need}
use Rattle.bound_certificate.specs.declared.site.Site.{Site}
use Rattle.topology.specs.declared.ends.Ends.{Ends}
use Rattle.topology.specs.Names.{is_name}
use Rattle.topology.specs.Paths.{most_paths}
use Rattle.topology.specs.Switches.{most_16, most_32, most_switches}
use Rattle.topology.specs.Topology.{Topo}

-- names of 1 to 32 of their bytes each, no name twice
pub record AreNames (names : List (List ℕ)) : Type 0 where
  pub each : All (λ name. is_name name ≡ true) names
  pub distinct : AllPairs (λ a b. a ≢ b) names

-- the numbers of a switch, of 32, 32 and 16 bits
pub record IsSwitch (site : Site) : Type 0 where
  pub capacity : site.capacity ≤ most_32
  pub opening : site.opening ≤ most_32
  pub unit : site.unit ≤ most_16

-- a load of 1 to 65,535, and a via of 1 to 8 different switches, each one of so many
pub record IsPath (switches : ℕ) (need : Need) : Type 0 where
  pub within : IsNeed switches need
  pub fits : need.load ≤ most_16

-- the sources and the destinations of a path are of one family
abbrev pub HasOneFamily : Ends → Type 0
HasOneFamily ends = ends.from.family ≡ ends.to.family

-- 1 to 32 switches and 1 to 64 paths, each within its limits
pub record IsAccepted (topo : Topo) : Type 0 where
  pub some_switches : 1 ≤ length topo.switch_names
  pub few_switches : length topo.switch_names ≤ most_switches
  pub some_paths : 1 ≤ length topo.path_names
  pub few_paths : length topo.path_names ≤ most_paths
  pub switch_names : AreNames topo.switch_names
  pub path_names : AreNames topo.path_names
  pub sites : length topo.problem.sites ≡ length topo.switch_names
  pub needs : length topo.problem.needs ≡ length topo.path_names
  pub ends : length topo.ends ≡ length topo.path_names
  pub each_site : All IsSwitch topo.problem.sites
  pub each_need : All (IsPath (length topo.switch_names)) topo.problem.needs
  pub each_end : All HasOneFamily topo.ends
