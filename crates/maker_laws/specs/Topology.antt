-- The topology that the made text spells.
use Rattle.std.specs.Prelude.{ℕ, ◌+◌, ◌*◌, ◌%◌, ◌^◌, List, [], ◌∷◌, ◌++◌, codes, decimal, map}
use Rattle.std.specs.List.{range_with_len}
use Rattle.bound_certificate.specs.declared.need.Need.{Need}
use Rattle.bound_certificate.specs.declared.site.Site.{Site}
use Rattle.flow_keys.specs.Prefix.{Seen}
use Rattle.topology.specs.Topology.{Topo}
use Rattle.topology.specs.declared.ends.Ends.{Ends}

-- switches s0, s1, .. and paths p0, p1, ..
abbrev pub switch_name : ℕ → List ℕ
switch_name switch = codes "s" ++ decimal switch

abbrev pub path_name : ℕ → List ℕ
path_name path = codes "p" ++ decimal path

-- the numbers of a switch
abbrev pub made_site : ℕ → Site
made_site switch = record { capacity = 400; opening = 100 + 10 * switch; unit = 1 + switch % 3 }

-- the load of a path, and the three switches that can serve it
abbrev pub made_need : ℕ → Need
made_need path = record {
  load = 20 + 7 * path % 41;
  via = path % 12 ∷ (path + 1) % 12 ∷ (path + 5) % 12 ∷ [];
}

-- the network 10.n.0.0/16
abbrev pub network_of : ℕ → Seen
network_of n = record { family = 4; words = (10 * 2 ^ 24 + n * 2 ^ 16) ∷ 0 ∷ 0 ∷ 0 ∷ []; bits = 16 }

-- a path's sources and destinations
abbrev pub made_ends : ℕ → Ends
made_ends path = record { from = network_of path; to = network_of (100 + path) }

-- twelve switches and thirty paths
unfoldable pub made_topology : Topo
made_topology = record {
  switch_names = map switch_name (range_with_len 0 12);
  path_names = map path_name (range_with_len 0 30);
  ends = map made_ends (range_with_len 0 30);
  problem = record { sites = map made_site (range_with_len 0 12); needs = map made_need (range_with_len 0 30) };
}
