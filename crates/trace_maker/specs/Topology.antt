-- The text of a topology of twelve switches and of thirty paths.
use Rattle.std.specs.Prelude.{ℕ, ◌+◌, ◌*◌, ◌%◌, List, ◌++◌, codes, decimal}
use Rattle.std.specs.List.{flat_map, range_with_len}

-- switch s0, s1, ..: its capacity, the cost of opening it, and its cost for a unit of load
unfoldable pub switch_text : ℕ → List ℕ
switch_text switch =
    codes "[[switch]]\nname = \"s" ++ (decimal switch
    ++ (codes "\"\ncapacity = 400\nopen = " ++ (decimal (100 + 10 * switch)
    ++ (codes "\nunit = " ++ (decimal (1 + switch % 3) ++ codes "\n")))))

-- the networks of a path: 10.0, 10.1, .. and 10.100, 10.101, ..
unfoldable pub network_lines : ℕ → List ℕ
network_lines path =
    codes "from = \"10." ++ (decimal path
    ++ (codes ".0.0/16\"\nto = \"10." ++ (decimal (100 + path) ++ codes ".0.0/16\"\n")))

-- its load, and the switches that can serve it
unfoldable pub service_lines : ℕ → List ℕ
service_lines path =
    codes "load = " ++ (decimal (20 + 7 * path % 41)
    ++ (codes "\nvia = [\"s" ++ (decimal (path % 12)
    ++ (codes "\", \"s" ++ (decimal ((path + 1) % 12)
    ++ (codes "\", \"s" ++ (decimal ((path + 5) % 12) ++ codes "\"]\n")))))))

-- path p0, p1, ..: its networks, its load, and its switches
unfoldable pub path_text : ℕ → List ℕ
path_text path =
    codes "[[path]]\nname = \"p" ++ (decimal path ++ (codes "\"\n" ++ (network_lines path ++ service_lines path)))

-- so many switches, and so many paths
abbrev pub switches_text : ℕ → List ℕ
switches_text number = flat_map switch_text (range_with_len 0 number)

abbrev pub paths_text : ℕ → List ℕ
paths_text number = flat_map path_text (range_with_len 0 number)

unfoldable pub generated_topology : List ℕ
generated_topology = switches_text 12 ++ paths_text 30
