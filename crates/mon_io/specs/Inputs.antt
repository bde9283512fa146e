-- What clauses see of inputs, and what a read takes off them.
use Rattle.std.specs.Prelude.{◌≡◌, ◌⊎◌, ℕ, ◌+◌, ◌<◌, ◌≤◌, List, [], ◌++◌, length, take, Option, IfSome, Result, Ok, Err, MatchResult}
use Rattle.std.specs.Io.KnownBytes.{prepend_known}
use Rattle.mon_io.specs.declared.contents.ReadStop.{ReadStop}
use Rattle.mon_io.specs.declared.contents.ReadStop.TheVariants.{Fault, TooLong, Memory}

-- Bytes that aren't told are None, and so are the contents of a name that isn't there.
pub record InputState : Type 0 where
  pub contents : List ℕ → Option (List ℕ)
  pub rest : Option (List ℕ)
  pub faults : ℕ

-- Of each list of names that stood for what an object had picked before, that list with these names behind it stands
-- for what it has picked after.
abbrev pub Picked : (List (List ℕ) → Type 0) → (List (List ℕ) → Type 0) → List (List ℕ) → Type 0
Picked before after names = (earlier : List (List ℕ)) → before earlier → after (earlier ++ names)

-- each list of names that stood for it before stands for it after: nothing more was picked
abbrev pub PickedNothing : (List (List ℕ) → Type 0) → (List (List ℕ) → Type 0) → Type 0
PickedNothing before after = (earlier : List (List ℕ)) → before earlier → after earlier

-- every list of names stands for what was picked, of an object that doesn't say
abbrev pub PickedAny : {S : Type 0} → S → List (List ℕ) → Type 0
PickedAny inputs names = Unit {0}

-- front was taken off the old rest
pub record Took (old new : Option (List ℕ)) (front : List ℕ) : Type 0 where
  pub taken : old ≡ prepend_known front new

-- the new rest is a suffix of the old one
abbrev pub IsRestOf : Option (List ℕ) → Option (List ℕ) → Type 0
IsRestOf old new = (front : List ℕ) × Took old new front

-- what is left is a suffix of the contents, or what was left before
abbrev pub IsLeft : Option (List ℕ) → Option (List ℕ) → Option (List ℕ) → Type 0
IsLeft contents before now = (now ≡ before) ⊎ IsRestOf contents now

-- no told byte is left
abbrev pub IsOver : Option (List ℕ) → Type 0
IsOver told = IfSome told (λ bytes. bytes ≡ [])

-- a read took the bytes that it gave, none of them only at the end or with no room, and nothing where it failed
abbrev pub Reads : {E : Type 0} → Option (List ℕ) → Option (List ℕ) → Result ℕ E → List ℕ → Type 0
Reads old new result buf = MatchResult result
    (λ n. Took old new (take n buf) × (n ≡ 0 → 0 < length buf → IsOver new))
    (λ _. new ≡ old)

-- at most this many bytes of the contents were taken, or the rest is as it was
abbrev pub TookAtMost : ℕ → Option (List ℕ) → Option (List ℕ) → Option (List ℕ) → Type 0
TookAtMost limit contents before now =
    (now ≡ before) ⊎ ((front : List ℕ) × (length front ≤ limit) × Took contents now front)

-- How a reading of the whole contents ended: it is too long exactly where more bytes than the limit were taken.
abbrev pub ReadsContents : {V : Type 0} → (V → List ℕ) → ℕ → Option (List ℕ) → Option (List ℕ) → Option (List ℕ)
    → Result V ReadStop → Type 0
ReadsContents bytes_of limit contents before now (Ok bytes) =
    Took contents now (bytes_of bytes) × IsOver now × (length (bytes_of bytes) ≤ limit)
ReadsContents bytes_of limit contents before now (Err TooLong) =
    (front : List ℕ) × (length front ≡ limit + 1) × Took contents now front
ReadsContents bytes_of limit contents before now (Err Fault) = TookAtMost limit contents before now
ReadsContents bytes_of limit contents before now (Err Memory) = TookAtMost limit contents before now
