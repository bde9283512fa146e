-- The fields of a job in their order, each with its size and its test. A field is judged by what stands before it.
use Rattle.std.specs.Prelude.{ℕ, ◌+◌, ◌-◌, ◌%◌, ◌==◌, ◌&&◌, not, nat_le, nat_lt, Bool, List, [], ◌∷◌, ◌++◌, slice_index, Result, Ok, Err, if◌then◌else◌}
use Rattle.std.specs.List.{list_any}
use Rattle.byteorder.specs.Endian.{little_number}
use Rattle.byte_format.specs.Format.{Format}
use Rattle.byte_format.specs.Keys.{key_size, key_words}
use Rattle.flow_keys.specs.Key.{is_valid}
use Rattle.hash_family.specs.Limits.{is_rows, is_width}
use Rattle.job_format.specs.Job.{frame_limit, item_limit, weight_limit}
use Rattle.job_format.specs.declared.fault.JobFault.{JobFault}
use Rattle.job_format.specs.declared.fault.JobFault.TheVariants as faults
use Rattle.job_format.specs.declared.place.HeadNumbers.{HeadNumbers}
use Rattle.job_format.specs.declared.place.HeadStep.{HeadStep}
use Rattle.job_format.specs.declared.place.HeadStep.TheVariants as steps
use Rattle.job_format.specs.declared.place.Kind.{Kind}
use Rattle.job_format.specs.declared.place.Kind.TheVariants as kinds
use Rattle.job_format.specs.declared.place.Place.{Place}
use Rattle.job_format.specs.declared.place.Place.TheVariants.{Head, Count, Key, Weight, ReplayEnd, Solve, SolveEnd}
use Rattle.job_format.specs.declared.place.SolveNumbers.{SolveNumbers}
use Rattle.job_format.specs.declared.place.SolveStep.{SolveStep}
use Rattle.job_format.specs.declared.place.SolveStep.TheVariants as solves
use Rattle.job_format.specs.declared.place.Tally.{Tally}

-- a field that is right leads on; one that isn't is this fault
abbrev pub if_right : Bool → JobFault → Place → Result Place JobFault
if_right right fault place = if right then Ok place else Err fault

-- magic 4, version 1, kind 1, number 4; levels 1, rows 1, width 2, heap 2, seed 8
abbrev pub head_size : HeadStep → ℕ
head_size steps.Magic = 4
head_size steps.Version = 1
head_size steps.Kind = 1
head_size steps.Number = 4
head_size steps.Levels = 1
head_size steps.Rows = 1
head_size steps.Width = 2
head_size steps.Heap = 2
head_size steps.Seed = 8

-- nodes 2, number of sites 1, a site 10, number of needs 1, a load 2, length of a via 1, a site of it 1
abbrev pub solve_size : SolveStep → ℕ
solve_size solves.Nodes = 2
solve_size solves.Sites = 1
solve_size solves.Site = 10
solve_size solves.Needs = 1
solve_size solves.Load = 2
solve_size solves.Hops = 1
solve_size solves.Hop = 1

-- UMJB
abbrev pub is_magic : List ℕ → Bool
is_magic b =
    slice_index b 0 == 0x55 && slice_index b 1 == 0x4d && slice_index b 2 == 0x4a && slice_index b 3 == 0x42

-- nothing was read of a solve job but its number
abbrev pub solve_start : ℕ → SolveNumbers
solve_start job = record {
  job = job;
  nodes = 0;
  sites = 0;
  sites_left = 0;
  needs_left = 0;
  load = 0;
  via = [];
  hops_left = 0;
}

-- behind the number of a job
abbrev pub behind_number : HeadNumbers → Kind → Place
behind_number h kinds.Replay = Head steps.Levels h
behind_number h kinds.Solve = Solve solves.Nodes (solve_start h.job)

abbrev pub kind_at : ℕ → Kind
kind_at byte = if byte == 0 then kinds.Replay else kinds.Solve

abbrev pub judge_head : HeadStep → HeadNumbers → List ℕ → Result Place JobFault
judge_head steps.Magic h b = if_right (is_magic b) faults.Magic (Head steps.Version h)
judge_head steps.Version h b = if_right (slice_index b 0 == 1) faults.Version (Head steps.Kind h)
judge_head steps.Kind h b =
    if_right (nat_le (slice_index b 0) 1) faults.Shape
    (Head steps.Number (record h { kind = kind_at (slice_index b 0) }))
judge_head steps.Number h b = Ok (behind_number (record h { job = little_number 4 b }) h.kind)
judge_head steps.Levels h b =
    if_right (nat_le (slice_index b 0) 16) faults.Shape (Head steps.Rows (record h { levels = slice_index b 0 }))
judge_head steps.Rows h b =
    if_right (is_rows (slice_index b 0)) faults.Shape (Head steps.Width (record h { rows = slice_index b 0 }))
judge_head steps.Width h b =
    if_right (is_width (little_number 2 b)) faults.Shape (Head steps.Heap (record h { width = little_number 2 b }))
judge_head steps.Heap h b =
    if_right (nat_le 1 (little_number 2 b) && nat_le (little_number 2 b) 1024) faults.Shape
    (Head steps.Seed (record h { heap = little_number 2 b }))
judge_head steps.Seed h b = Ok (Count (record h { seed = little_number 8 b }) (record { items = 0; weight = 0 }))

-- a count that isn't 0 stands behind full frames alone, and behind fewer items than a job may have
abbrev pub may_follow : Tally → ℕ → Bool
may_follow tally count = nat_le count frame_limit && tally.items % frame_limit == 0 && nat_lt tally.items item_limit

abbrev pub with_frame : Tally → ℕ → Tally
with_frame tally count = record { items = tally.items + count; weight = tally.weight }

abbrev pub with_weight : Tally → ℕ → Tally
with_weight tally weight = record { items = tally.items; weight = tally.weight + weight }

-- a count of 0 ends the job
abbrev pub judge_count : HeadNumbers → Tally → List ℕ → Result Place JobFault
judge_count h tally b =
    if little_number 2 b == 0 then Ok (ReplayEnd h tally)
    else if_right (may_follow tally (little_number 2 b)) faults.Shape
    (Key h (with_frame tally (little_number 2 b)) (little_number 2 b))

abbrev pub judge_key : HeadNumbers → Tally → ℕ → List ℕ → Result Place JobFault
judge_key h tally left b = if_right (is_valid (key_words b)) faults.Shape (Weight h tally left (key_words b))

abbrev pub behind_item : HeadNumbers → Tally → ℕ → Place
behind_item h tally left = if nat_le left 1 then Count h tally else Key h tally (left - 1)

abbrev pub judge_weight : HeadNumbers → Tally → ℕ → List ℕ → Result Place JobFault
judge_weight h tally left b =
    if_right (nat_le (tally.weight + little_number 4 b) weight_limit) faults.Shape
    (behind_item h (with_weight tally (little_number 4 b)) left)

-- whether a via names a site
unfoldable pub has_site : List ℕ → ℕ → Bool
has_site via site = list_any (λ s. s == site) via

abbrev pub behind_site : SolveNumbers → Place
behind_site n =
    if nat_le n.sites_left 1 then Solve solves.Needs (record n { sites_left = 0 })
    else Solve solves.Site (record n { sites_left = n.sites_left - 1 })

abbrev pub behind_need : SolveNumbers → Place
behind_need n =
    if nat_le n.needs_left 1 then SolveEnd (record n { needs_left = 0 })
    else Solve solves.Load (record n { needs_left = n.needs_left - 1 })

abbrev pub behind_hop : SolveNumbers → ℕ → Place
behind_hop n site =
    if nat_le n.hops_left 1 then behind_need (record n { load = 0; via = []; hops_left = 0 })
    else Solve solves.Hop (record n { via = n.via ++ site ∷ []; hops_left = n.hops_left - 1 })

-- a number from 1 up to a limit
abbrev pub is_counted : ℕ → ℕ → Bool
is_counted limit n = nat_le 1 n && nat_le n limit

abbrev pub judge_solve : SolveStep → SolveNumbers → List ℕ → Result Place JobFault
judge_solve solves.Nodes n b =
    if_right (is_counted 4096 (little_number 2 b)) faults.Shape
    (Solve solves.Sites (record n { nodes = little_number 2 b }))
judge_solve solves.Sites n b =
    if_right (is_counted 32 (slice_index b 0)) faults.Shape
    (Solve solves.Site (record n { sites = slice_index b 0; sites_left = slice_index b 0 }))
judge_solve solves.Site n b = Ok (behind_site n)
judge_solve solves.Needs n b =
    if_right (is_counted 64 (slice_index b 0)) faults.Shape
    (Solve solves.Load (record n { needs_left = slice_index b 0 }))
judge_solve solves.Load n b =
    if_right (nat_le 1 (little_number 2 b)) faults.Shape (Solve solves.Hops (record n { load = little_number 2 b }))
judge_solve solves.Hops n b =
    if_right (is_counted 8 (slice_index b 0)) faults.Shape
    (Solve solves.Hop (record n { via = []; hops_left = slice_index b 0 }))
judge_solve solves.Hop n b =
    if_right (nat_lt (slice_index b 0) n.sites && not (has_site n.via (slice_index b 0))) faults.Shape
    (behind_hop n (slice_index b 0))

-- how many bytes stand at a place. Behind a whole job none may stand, and one is judged as what is too much.
abbrev pub place_size : Place → ℕ
place_size (Head step h) = head_size step
place_size (Count h tally) = 2
place_size (Key h tally left) = key_size
place_size (Weight h tally left key) = 4
place_size (ReplayEnd h tally) = 1
place_size (Solve step n) = solve_size step
place_size (SolveEnd n) = 1

unfoldable pub judge_place : Place → List ℕ → Result Place JobFault
judge_place (Head step h) b = judge_head step h b
judge_place (Count h tally) b = judge_count h tally b
judge_place (Key h tally left) b = judge_key h tally left b
judge_place (Weight h tally left key) b = judge_weight h tally left b
judge_place (ReplayEnd h tally) b = Err faults.Extra
judge_place (Solve step n) b = judge_solve step n b
judge_place (SolveEnd n) b = Err faults.Extra

abbrev pub job_format : Format Place JobFault
job_format = record { size = place_size; judge = judge_place }

-- where a job begins
abbrev pub no_numbers : HeadNumbers
no_numbers = record { kind = kinds.Replay; job = 0; levels = 0; rows = 0; width = 0; heap = 0; seed = 0 }

abbrev pub job_start : Place
job_start = Head steps.Magic no_numbers
