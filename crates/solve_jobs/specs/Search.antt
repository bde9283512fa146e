-- What the one job of a search promises of replies.
use Rattle.std.specs.Prelude.{◌≡◌, ◌↔◌, ℕ, true, List, [], ◌∷◌, Option, Some, None}
use Rattle.bound_certificate.specs.Problem.{Problem}
use Rattle.bound_certificate.specs.declared.outcome.Outcome.{Outcome}
use Rattle.replay_supervisor.specs.Jobs.{Places, Work}
use Rattle.solve_jobs.specs.Replies.{IsReplyWith, IsRightReply}

-- good replies are those to job 0 whose outcome is right for this problem and so many nodes
abbrev pub Judges : Work → Problem → ℕ → Type 0
Judges work problem nodes =
    (job : ℕ) (bytes : List ℕ) → (work.is_good job bytes ≡ true) ↔ ((job ≡ 0) × IsRightReply problem nodes bytes)

-- the one place is empty where there is no outcome, else it holds bytes that spell it, and it is right
abbrev pub Holds : Problem → ℕ → Option Outcome → Places → Type 0
Holds problem nodes None places = places ≡ None ∷ []
Holds problem nodes (Some outcome) places =
    (bytes : List ℕ) × (places ≡ Some bytes ∷ []) × IsReplyWith problem nodes outcome bytes
