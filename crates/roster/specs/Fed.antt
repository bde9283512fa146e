-- What was fed to each ticket.
use Rattle.std.specs.Prelude.{ℕ, List, [], Vec, map, slice_index_or}
use Rattle.std.specs.declared.alloc.Global.{Global}

-- what clauses see: the bytes by ticket, and for how many tickets there is room
pub record FedState : Type 0 where
  pub jobs : List (List ℕ)
  pub room : ℕ

-- the bytes of each vector
unfoldable pub bytes_of : List (Vec ℕ Global) → List (List ℕ)
bytes_of jobs = map (λ job. job.items) jobs

-- the bytes that a ticket was fed, none past the end
unfoldable pub fed_to : List (List ℕ) → ℕ → List ℕ
fed_to jobs ticket = slice_index_or jobs ticket []
