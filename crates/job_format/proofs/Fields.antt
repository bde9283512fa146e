-- The fields of a job.
use Rattle.std.proofs.Common.{◌<◌, arith}
use Rattle.byte_format.proofs.Formats.{TakesBytes}
use Rattle.job_format.specs.Places.{head_size, job_format, place_size, solve_size}
use Rattle.job_format.specs.declared.place.HeadStep.{HeadStep}
use Rattle.job_format.specs.declared.place.HeadStep.TheVariants as steps
use Rattle.job_format.specs.declared.place.Place.{Place}
use Rattle.job_format.specs.declared.place.Place.TheVariants.{Head, Count, Key, Weight, ReplayEnd, Solve, SolveEnd}
use Rattle.job_format.specs.declared.place.SolveStep.{SolveStep}
use Rattle.job_format.specs.declared.place.SolveStep.TheVariants as solves

head_some : (step : HeadStep) → 0 < head_size step
head_some steps.Magic = omega arith
head_some steps.Version = omega arith
head_some steps.Kind = omega arith
head_some steps.Number = omega arith
head_some steps.Levels = omega arith
head_some steps.Rows = omega arith
head_some steps.Width = omega arith
head_some steps.Heap = omega arith
head_some steps.Seed = omega arith

solve_some : (step : SolveStep) → 0 < solve_size step
solve_some solves.Nodes = omega arith
solve_some solves.Sites = omega arith
solve_some solves.Site = omega arith
solve_some solves.Needs = omega arith
solve_some solves.Load = omega arith
solve_some solves.Hops = omega arith
solve_some solves.Hop = omega arith

place_some : (place : Place) → 0 < place_size place
place_some (Head step h) = head_some step
place_some (Count h tally) = omega arith
place_some (Key h tally left) = omega arith
place_some (Weight h tally left key) = omega arith
place_some (ReplayEnd h tally) = omega arith
place_some (Solve step n) = solve_some step
place_some (SolveEnd n) = omega arith

-- each field has at least one byte
pub job_takes : TakesBytes job_format
job_takes = record { some = place_some }
