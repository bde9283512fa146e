-- What clauses see of jobs.
use Rattle.std.specs.Prelude.{◌≡◌, ℕ, ◌==◌, ◌||◌, Bool, true, false, List, Option, Some, Result, Ok, Err, slice_set}
use Rattle.mon_io.specs.declared.fault.Memory.{Memory}

-- a place for each job, which is empty or holds bytes
abbrev pub Places : Type 0
Places = List (Option (List ℕ))

-- the lists that an object stands for
abbrev pub Standing : Type 1
Standing = Places → Type 0

-- how many jobs there are, the pieces of each, and which bytes are good replies to it
pub record Work : Type 0 where
  pub count : ℕ
  pub pieces : ℕ → List (List ℕ)
  pub is_good : ℕ → List ℕ → Bool

-- the work, which never changes, and which jobs have taken a reply
pub record JobsState : Type 0 where
  pub work : Work
  pub has_taken : ℕ → Bool

-- the job has taken these bytes; no other job's mark changed
pub record TookOne (job : ℕ) (bytes : List ℕ) (old new : JobsState) (stood stands : Standing) : Type 0 where
  pub good : old.work.is_good job bytes ≡ true
  pub work : new.work ≡ old.work
  pub marks : (j : ℕ) → new.has_taken j ≡ (j == job || old.has_taken j)
  pub list : (places : Places) → stood places → stands (slice_set places job (Some bytes))

-- nothing changed
pub record Stays (old new : JobsState) (stood stands : Standing) : Type 0 where
  pub state : new ≡ old
  pub list : (places : Places) → stood places → stands places

-- what a take did: true exactly where the bytes are good
abbrev pub Took : ℕ → List ℕ → JobsState → JobsState → Standing → Standing → Result Bool Memory → Type 0
Took job bytes old new stood stands (Ok true) = TookOne job bytes old new stood stands
Took job bytes old new stood stands (Ok false) = (old.work.is_good job bytes ≡ false) × Stays old new stood stands
Took job bytes old new stood stands (Err _) = Stays old new stood stands
