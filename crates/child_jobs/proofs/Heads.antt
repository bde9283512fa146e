-- A head that is there stays.
use Rattle.std.proofs.Common.{◌≡◌, ℕ, ◌+◌, ◌-◌, ◌==◌, nat_le, Bool, true, false, List, [], ◌∷◌, ◌++◌, slice_index, IfOk, if◌then◌else◌, Some, Result, Ok, subst}
use Rattle.byteorder.specs.Endian.{little_number}
use Rattle.byte_format.specs.Keys.{key_words}
use Rattle.flow_keys.specs.Key.{is_valid}
use Rattle.job_format.specs.Places.{behind_hop, behind_item, behind_need, behind_site, if_right, judge_place, judge_solve, may_follow, with_frame, with_weight}
use Rattle.job_format.specs.Job.{weight_limit}
use Rattle.job_format.specs.declared.fault.JobFault.{JobFault}
use Rattle.job_format.specs.declared.fault.JobFault.TheVariants as faults
use Rattle.job_format.specs.declared.place.HeadNumbers.{HeadNumbers}
use Rattle.job_format.specs.declared.place.Place.{Place}
use Rattle.job_format.specs.declared.place.Place.TheVariants.{Head as AtHead, Count, Key, Weight, ReplayEnd, Solve, SolveEnd}
use Rattle.job_format.specs.declared.place.SolveNumbers.{SolveNumbers}
use Rattle.job_format.specs.declared.place.SolveStep.{SolveStep}
use Rattle.job_format.specs.declared.place.SolveStep.TheVariants as solves
use Rattle.job_format.specs.declared.place.Tally.{Tally}
use Rattle.child_jobs.specs.Heads.{Head, head_at}
use Rattle.child_jobs.proofs.Rooms.{right_if}

module _ (head : Head) where
  Knows : Place → Type 0
  Knows p = head_at p ≡ Some head

  count_knows : (is_last test : Bool) (h : HeadNumbers) (tally old : Tally) (count : ℕ) → Knows (Count h old)
      → IfOk (if is_last then Ok (ReplayEnd h old) else if_right test faults.Shape (Key h tally count)) Knows
  unfolding Knows
  count_knows true test h tally old count here = here
  count_knows false test h tally old count here = right_if Knows test faults.Shape (Key h tally count) (λ yes. here)

  knows_if : (test : Bool) (p q : Place) → Knows p → Knows q → Knows (if test then p else q)
  knows_if true p q one other = one
  knows_if false p q one other = other

  need_knows : (n : SolveNumbers) → Knows (SolveEnd n) → Knows (behind_need n)
  unfolding Knows
  need_knows n here =
      knows_if (nat_le n.needs_left 1) (SolveEnd (record n { needs_left = 0 }))
      (Solve solves.Load (record n { needs_left = n.needs_left - 1 })) here here

  site_knows : (n : SolveNumbers) → Knows (SolveEnd n) → Knows (behind_site n)
  unfolding Knows
  site_knows n here =
      knows_if (nat_le n.sites_left 1) (Solve solves.Needs (record n { sites_left = 0 }))
      (Solve solves.Site (record n { sites_left = n.sites_left - 1 })) here here

  hop_knows : (n : SolveNumbers) (site : ℕ) → Knows (SolveEnd n) → Knows (behind_hop n site)
  unfolding Knows
  hop_knows n site here =
      let last : SolveNumbers = record n { load = 0; via = []; hops_left = 0 } in
      knows_if (nat_le n.hops_left 1) (behind_need last)
      (Solve solves.Hop (record n { via = n.via ++ site ∷ []; hops_left = n.hops_left - 1 })) (need_knows last here)
      here

  step_knows : (step : SolveStep) (n : SolveNumbers) (b : List ℕ) → Knows (Solve step n)
      → IfOk (judge_solve step n b) Knows
  unfolding Knows
  step_knows solves.Nodes n b here = right_if Knows _ _ _ (λ yes. here)
  step_knows solves.Sites n b here = right_if Knows _ _ _ (λ yes. here)
  step_knows solves.Site n b here = site_knows n here
  step_knows solves.Needs n b here = right_if Knows _ _ _ (λ yes. here)
  step_knows solves.Load n b here = right_if Knows _ _ _ (λ yes. here)
  step_knows solves.Hops n b here = right_if Knows _ _ _ (λ yes. here)
  step_knows solves.Hop n b here =
      right_if Knows _ _ _ (λ yes. hop_knows n (slice_index b 0) here)

  knows_on : (p : Place) (b : List ℕ) → Knows p → IfOk (judge_place p b) Knows
  unfolding Knows judge_place
  knows_on (AtHead step h) b here = absurd (cc)
  knows_on (Count h tally) b here =
      count_knows (little_number 2 b == 0) (may_follow tally (little_number 2 b)) h
      (with_frame tally (little_number 2 b)) tally (little_number 2 b) here
  knows_on (Key h tally left) b here =
      right_if Knows (is_valid (key_words b)) faults.Shape (Weight h tally left (key_words b)) (λ yes. here)
  knows_on (Weight h tally left key) b here =
      right_if Knows (nat_le (tally.weight + little_number 4 b) weight_limit) faults.Shape
      (behind_item h (with_weight tally (little_number 4 b)) left)
      (λ yes. knows_if (nat_le left 1) (Count h (with_weight tally (little_number 4 b)))
      (Key h (with_weight tally (little_number 4 b)) (left - 1)) here here)
  knows_on (ReplayEnd h tally) b here = tt
  knows_on (Solve step n) b here = step_knows step n b here
  knows_on (SolveEnd n) b here = tt

-- so it is where a field led
pub head_stays : (p q : Place) (b : List ℕ) → judge_place p b ≡ Ok q → (head : Head) → head_at p ≡ Some head
    → head_at q ≡ Some head
unfolding Knows
head_stays p q b is head here =
    subst (λ (r : Result Place JobFault). IfOk r (λ t. head_at t ≡ Some head)) is (knows_on head p b here)
