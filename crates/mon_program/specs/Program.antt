-- The words of the program, and what it answers.
use Rattle.std.specs.Prelude.{◌≡◌, ◌⊎◌, ℕ, ◌&&◌, nat_le, Bool, true, List, [], length, drop, slice_index_or, bytes_eq, codes, if◌then◌else◌}
use Rattle.mon_call.specs.CrewCall.{CrewCall}
use Rattle.mon_call.specs.declared.status.Status.{Status}
use Rattle.mon_call.specs.declared.status.Status.TheVariants.{Memory}
use Rattle.mon_command.specs.Asked.{asked_of}
use Rattle.mon_command.specs.Outcome.{CrewOutcome}

-- whether the first of at least two words says that the second names the children's program
abbrev pub has_worker : List (List ℕ) → Bool
has_worker words = nat_le 2 (length words) && bytes_eq (slice_index_or words 0 []) (codes "--worker")

-- the words behind these two, where they are there
abbrev pub behind_worker : List (List ℕ) → List (List ℕ)
behind_worker words = if has_worker words then drop 2 words else words

-- nothing is known of which inputs were picked
abbrev pub AnyNames : List (List ℕ) → Type 0
AnyNames names = Unit {0}

-- What a call answers to the other words over some inputs and sink and over a crew that had started nobody, or want of
-- memory.
abbrev pub IsProgram : List (List ℕ) → Status → Type 0
IsProgram words status =
    (status ≡ Memory) ⊎ ((c : CrewCall) × (c.crew.issued ≡ 0)
    × CrewOutcome AnyNames AnyNames (asked_of true (behind_worker words)) c status)
