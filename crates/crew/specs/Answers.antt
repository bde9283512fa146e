-- What clauses see of what answers a job.
use Rattle.std.specs.Prelude.{ℕ, Bool, List}

-- whether it is told which bytes are answers, and the count of faults
pub record AnswerState : Type 0 where
  pub is_told : Bool
  pub faults : ℕ

-- the same bytes are answers to each job, and the same jobs have none
pub record SameAnswers (old new : List ℕ → List ℕ → Type 0) (refused refuses : List ℕ → Type 0) : Type 0 where
  pub forth : (job bytes : List ℕ) → old job bytes → new job bytes
  pub back : (job bytes : List ℕ) → new job bytes → old job bytes
  pub none : (job : List ℕ) → refused job → refuses job
  pub only : (job : List ℕ) → refuses job → refused job
