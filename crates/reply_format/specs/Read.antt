-- What bytes are read as, where a reply is expected: that reply, or the first breach.
use Rattle.std.specs.Prelude.{◌≡◌, ◌<◌, ◌^◌, ◌⊎◌, ℕ, Bool, true, false, List, [], ◌∷◌, ◌++◌, length, Result, Ok, Err}
use Rattle.bound_certificate.specs.declared.tree.Tree.{Tree}
use Rattle.byte_format.specs.Format.{Breaks, EndsInside}
use Rattle.certificate_text.specs.ReadBytes.{ReadsBytes}
use Rattle.certificate_text.specs.declared.fault.TreeBytesFault.{TreeBytesFault}
use Rattle.certificate_text.specs.declared.fault.TreeBytesFault.TheVariants as trees
use Rattle.reply_format.specs.Outcomes.{Found, Place as SolvePlace, is_tree, solve_format}
use Rattle.reply_format.specs.Outcomes as solves
use Rattle.reply_format.specs.Places.{Body, Place as ReplayPlace, replay_format}
use Rattle.reply_format.specs.Places as replays
use Rattle.reply_format.specs.Reply.{Answers, Expect, ExpectReplay, ExpectSolve, IsVersion, IsWritten, ReplayHead, Reply, SpellsReply, front_bytes, reply_of}
use Rattle.reply_format.specs.declared.fault.ReplyFault.{ReplyFault}
use Rattle.reply_format.specs.declared.fault.ReplyFault.TheVariants.{Short, Magic, Version, Job, Shape, Totals, CounterRange, HeapOrder, HeapLength, Extra, Memory, CounterPlace}
use Rattle.reply_format.specs.declared.reply.Reply.{Reply as ReplyEnum}

-- whether a replay reply is whole
abbrev pub is_end : ReplayPlace → Bool
is_end replays.Magic = false
is_end replays.Version = false
is_end (replays.Kind v) = false
is_end (replays.Number v) = false
is_end (replays.Levels v) = false
is_end (replays.Rows v) = false
is_end (replays.Width v) = false
is_end (replays.HeapSize v) = false
is_end (replays.Items v) = false
is_end (replays.Weight v) = false
is_end (replays.Counter cs) = false
is_end (replays.RowCount cs) = false
is_end (replays.Bucket cs from left) = false
is_end (replays.Value cs from left) = false
is_end (replays.HeapLength cs heaps) = false
is_end (replays.HeapKey cs heaps heap left) = false
is_end (replays.End body) = true

-- bytes end inside a replay reply: fields that stand, and then fewer bytes than stand next
pub record IsShortReplay (head : ReplayHead) (bytes : List ℕ) : Type 0 where
  pub place : ReplayPlace
  pub part : List ℕ
  pub ends : EndsInside (replay_format head) replays.Magic bytes place part
  pub inside : is_end place ≡ false

-- the first breach of a replay reply's bytes, in their order; want of memory is none
abbrev pub BreaksReplay : ReplayHead → List ℕ → ReplyFault → Type 0
BreaksReplay head bytes Short = IsShortReplay head bytes
BreaksReplay head bytes Magic = Breaks (replay_format head) replays.Magic bytes Magic
BreaksReplay head bytes Version = Breaks (replay_format head) replays.Magic bytes Version
BreaksReplay head bytes Job = Breaks (replay_format head) replays.Magic bytes Job
BreaksReplay head bytes Shape = Breaks (replay_format head) replays.Magic bytes Shape
BreaksReplay head bytes Totals = Breaks (replay_format head) replays.Magic bytes Totals
BreaksReplay head bytes CounterRange = Breaks (replay_format head) replays.Magic bytes CounterRange
BreaksReplay head bytes HeapOrder = Breaks (replay_format head) replays.Magic bytes HeapOrder
BreaksReplay head bytes HeapLength = Breaks (replay_format head) replays.Magic bytes HeapLength
BreaksReplay head bytes Extra = Breaks (replay_format head) replays.Magic bytes Extra
BreaksReplay head bytes Memory = ⊥
BreaksReplay head bytes CounterPlace = Breaks (replay_format head) replays.Magic bytes CounterPlace

-- an outcome but for its tree, and its bytes
abbrev pub IsFound : Found → Type 0
IsFound (solves.Placed sites) = IsWritten sites
IsFound solves.Infeasible = Unit {0}
IsFound solves.Spent = Unit {0}

abbrev pub found_bytes : Found → List ℕ
found_bytes (solves.Placed sites) = 0 ∷ length sites ∷ sites
found_bytes solves.Infeasible = 1 ∷ []
found_bytes solves.Spent = 2 ∷ []

-- bytes begin with all that stands before the tree of a solve reply, whose number fits its field, and this is the
-- rest, of which P holds
pub record HasRest (number : ℕ) (bytes : List ℕ) (P : List ℕ → Type 0) : Type 0 where
  pub fits : number < 2 ^ 32
  pub version : ℕ
  pub known : IsVersion version
  pub found : Found
  pub written : IsFound found
  pub rest : List ℕ
  pub parts : bytes ≡ front_bytes version 1 number ++ (found_bytes found ++ rest)
  pub says : P rest

-- bytes end inside a solve reply before its tree
pub record IsShortSolve (number : ℕ) (bytes : List ℕ) : Type 0 where
  pub place : SolvePlace
  pub part : List ℕ
  pub ends : EndsInside (solve_format number) solves.Magic bytes place part
  pub inside : is_tree place ≡ false

-- bytes that are read as no tree, and bytes that go on behind one
abbrev pub IsNoTree : TreeBytesFault → List ℕ → Type 0
IsNoTree fault rest = ReadsBytes rest (Err fault)

abbrev pub GoesOn : List ℕ → Type 0
GoesOn rest = (tree : Tree) × (taken : ℕ) × ReadsBytes rest (Ok (tree, taken)) × (taken < length rest)

-- the first breach of a solve reply's bytes, in their order; want of memory is none
abbrev pub BreaksSolve : ℕ → List ℕ → ReplyFault → Type 0
BreaksSolve number bytes Short = IsShortSolve number bytes ⊎ HasRest number bytes (IsNoTree trees.Short)
BreaksSolve number bytes Magic = Breaks (solve_format number) solves.Magic bytes Magic
BreaksSolve number bytes Version = Breaks (solve_format number) solves.Magic bytes Version
BreaksSolve number bytes Job = Breaks (solve_format number) solves.Magic bytes Job
BreaksSolve number bytes Shape =
    Breaks (solve_format number) solves.Magic bytes Shape ⊎ HasRest number bytes (IsNoTree trees.Shape)
BreaksSolve number bytes Totals = ⊥
BreaksSolve number bytes CounterRange = ⊥
BreaksSolve number bytes HeapOrder = ⊥
BreaksSolve number bytes HeapLength = ⊥
BreaksSolve number bytes Extra = HasRest number bytes GoesOn
BreaksSolve number bytes Memory = ⊥
BreaksSolve number bytes CounterPlace = ⊥

abbrev pub BreaksReply : Expect → List ℕ → ReplyFault → Type 0
BreaksReply (ExpectReplay head) bytes fault = BreaksReplay head bytes fault
BreaksReply (ExpectSolve number) bytes fault = BreaksSolve number bytes fault

-- what bytes are read as: a reply to what is expected, which they spell, or the first breach
abbrev pub ReadsReply : Expect → List ℕ → Result Reply ReplyFault → Type 0
ReadsReply expect bytes (Ok reply) = Answers expect reply × SpellsReply reply bytes
ReadsReply expect bytes (Err fault) = BreaksReply expect bytes fault

-- as a value of the code
abbrev pub read_as : Result ReplyEnum ReplyFault → Result Reply ReplyFault
read_as (Ok reply) = Ok (reply_of reply)
read_as (Err fault) = Err fault
