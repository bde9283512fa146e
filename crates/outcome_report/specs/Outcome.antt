-- The text of what a search found: its numbers, the placement where there is one, and its tree.
use Rattle.std.specs.Prelude.{ℕ, List, [], ◌++◌, ℤ, Option, None, Some, IsTrue, codes, decimal, slice_index, slice_index_or}
use Rattle.std.specs.Fmt.{signed_decimal}
use Rattle.std.specs.List.{flat_map, range_with_len}
use Rattle.bound_certificate.specs.Outcome.{tree_of}
use Rattle.bound_certificate.specs.Placement.{cost, fits, given}
use Rattle.bound_certificate.specs.Problem.{Problem, capacity, need_count, site_count}
use Rattle.bound_certificate.specs.declared.outcome.Outcome.{Outcome}
use Rattle.bound_certificate.specs.declared.outcome.Outcome.TheVariants.{Placed, Infeasible, Spent}
use Rattle.bound_certificate.specs.declared.verdict.Verdict.{Verdict}
use Rattle.certificate_text.specs.Text.{text_of}
use Rattle.topology.specs.Topology.{Topo}

-- a placement that was found fits
abbrev pub FitsWherePlaced : Problem → Outcome → Type 0
FitsWherePlaced problem (Placed placement tree) = IsTrue (fits problem placement.sites)
FitsWherePlaced problem (Infeasible tree) = Unit {0}
FitsWherePlaced problem (Spent tree) = Unit {0}

-- the name of a switch
abbrev pub switch_name : Topo → ℕ → List ℕ
switch_name topo switch = slice_index_or topo.switch_names switch []

-- the line of a path, with the switch to which it is given
unfoldable pub path_line : Topo → List ℕ → ℕ → List ℕ
path_line topo placement path =
    codes "path " ++ (slice_index_or topo.path_names path []
    ++ (codes " " ++ (switch_name topo (slice_index placement path) ++ codes "\n")))

-- the line of a switch, with the loads given to it
unfoldable pub switch_line : Topo → List ℕ → ℕ → List ℕ
switch_line topo placement switch =
    codes "switch " ++ (switch_name topo switch
    ++ (codes " load " ++ (decimal (given topo.problem placement switch)
    ++ (codes " capacity " ++ (decimal (capacity topo.problem switch) ++ codes "\n")))))

-- the lines of all paths and of all switches, in file order
abbrev pub path_lines : Topo → List ℕ → List ℕ
path_lines topo placement = flat_map (path_line topo placement) (range_with_len 0 (need_count topo.problem))

abbrev pub switch_lines : Topo → List ℕ → List ℕ
switch_lines topo placement = flat_map (switch_line topo placement) (range_with_len 0 (site_count topo.problem))

-- the line of a bound, where there is one
abbrev pub bound_line : Option ℤ → List ℕ
bound_line None = []
bound_line (Some bound) = codes "bound " ++ (signed_decimal bound ++ codes "\n")

-- the line of the number of Branch nodes
abbrev pub branches_line : ℕ → List ℕ
branches_line branches = codes "branches " ++ (decimal branches ++ codes "\n")

-- the lines of an outcome with its verdict
abbrev pub found_lines : Topo → Outcome → Verdict → List ℕ
found_lines topo (Placed placement tree) verdict =
    codes "outcome placed\ncost " ++ (decimal (cost topo.problem placement.sites)
    ++ (codes "\n" ++ (bound_line verdict.bound ++ (branches_line verdict.branches
    ++ (path_lines topo placement.sites ++ switch_lines topo placement.sites)))))
found_lines topo (Infeasible tree) verdict = codes "outcome infeasible\n" ++ branches_line verdict.branches
found_lines topo (Spent tree) verdict =
    codes "outcome spent\n" ++ (bound_line verdict.bound ++ branches_line verdict.branches)

-- the whole text of a search with so many nodes
unfoldable pub outcome_text : Topo → ℕ → Outcome → Verdict → List ℕ
outcome_text topo nodes outcome verdict =
    codes "univmon place 1\nnodes " ++ (decimal nodes
    ++ (codes "\n" ++ (found_lines topo outcome verdict ++ text_of (tree_of outcome))))
