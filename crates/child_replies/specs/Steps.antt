-- How reading goes on: from a place and the bytes there to a place and the bytes that are left, or to where it stops.
use Rattle.std.specs.Prelude.{◌≡◌, ◌⊎◌, ℕ, Bool, List, [], Option, Some, None, if◌then◌else◌}
use Rattle.byte_format.specs.Format.{Reached, At, Broken, reached}
use Rattle.reply_format.specs.Outcomes.{Place as SolvePlace, is_tree, solve_format}
use Rattle.reply_format.specs.Places.{Place, replay_format}
use Rattle.reply_format.specs.Read.{is_end}
use Rattle.reply_format.specs.Reply.{ReplayHead}
use Rattle.reply_format.specs.declared.fault.ReplyFault.{ReplyFault}
use Rattle.reply_format.specs.declared.fault.ReplyFault.TheVariants.{Short, Memory}

-- the fault that bytes come to, the one told where they end before the whole stands, and none of the whole
abbrev pub stop_of : {S F : Type 0} → (S → Bool) → F → Reached S F → Option F
stop_of whole short (Broken fault) = Some fault
stop_of whole short (At place part) = if whole place then None else Some short

module _ (head : ReplayHead) where
  -- the fields of a replay reply from one place to another stand at the front of bytes, and these are left
  abbrev pub Moves : Place → List ℕ → Place → List ℕ → Type 0
  Moves from bytes to rest = reached (replay_format head) (At from []) bytes
      ≡ reached (replay_format head) (At to []) rest

  -- the bytes come to this fault, or end too soon
  abbrev pub Stops : Place → List ℕ → ReplyFault → Type 0
  Stops from bytes fault = stop_of is_end Short (reached (replay_format head) (At from []) bytes) ≡ Some fault

  -- the same, or memory ran out
  abbrev pub MayStop : Place → List ℕ → ReplyFault → Type 0
  MayStop from bytes fault = (fault ≡ Memory) ⊎ Stops from bytes fault

-- the same of the fields of a solve reply up to its tree
module _ (number : ℕ) where
  abbrev pub SolveMoves : SolvePlace → List ℕ → SolvePlace → List ℕ → Type 0
  SolveMoves from bytes to rest = reached (solve_format number) (At from []) bytes
      ≡ reached (solve_format number) (At to []) rest

  abbrev pub SolveStops : SolvePlace → List ℕ → ReplyFault → Type 0
  SolveStops from bytes fault = stop_of is_tree Short (reached (solve_format number) (At from []) bytes) ≡ Some fault

  abbrev pub SolveMayStop : SolvePlace → List ℕ → ReplyFault → Type 0
  SolveMayStop from bytes fault = (fault ≡ Memory) ⊎ SolveStops from bytes fault
