-- How bytes are read as one of the things that bytes spell, whatever follows it.
use Rattle.std.specs.Prelude.{◌≡◌, ◌<◌, ◌≤◌, ℕ, List, ◌++◌, length, drop, map, sum, Result, Ok, Err}
use Rattle.std.specs.List.{AllByRecursion}
use Rattle.certificate_text.specs.declared.fault.TreeBytesFault.{TreeBytesFault}
use Rattle.certificate_text.specs.declared.fault.TreeBytesFault.TheVariants.{Short, Shape, Memory}

-- the bytes of one that may stand there are at the front, and so many they are
pub record Stands {X : Type 0} (May : X → Type 0) (spell : X → List ℕ) (bytes : List ℕ) (thing : X)
    (taken : ℕ) : Type 0 where
  pub may : May thing
  pub size : taken ≡ length (spell thing)
  pub parts : bytes ≡ spell thing ++ drop taken bytes

-- the bytes end inside those of one that may stand there
pub record IsCut {X : Type 0} (May : X → Type 0) (spell : X → List ℕ) (bytes : List ℕ) : Type 0 where
  pub thing : X
  pub rest : List ℕ
  pub may : May thing
  pub some : 0 < length rest
  pub parts : spell thing ≡ bytes ++ rest

-- none that may stand there agrees with the bytes as far as both go
abbrev pub IsNone : {X : Type 0} → (X → Type 0) → (X → List ℕ) → List ℕ → Type 0
IsNone {X} May spell bytes =
    (thing : X) (more rest : List ℕ) → May thing → bytes ++ more ≡ spell thing ++ rest → ⊥

-- what bytes are not read for; want of memory says nothing of them
abbrev pub Fails : {X : Type 0} → (X → Type 0) → (X → List ℕ) → List ℕ → TreeBytesFault → Type 0
Fails May spell bytes Short = IsCut May spell bytes
Fails May spell bytes Shape = IsNone May spell bytes
Fails May spell bytes Memory = Unit {0}

abbrev pub Reads : {X : Type 0} → (X → Type 0) → (X → List ℕ) → List ℕ → Result (X × ℕ) TreeBytesFault → Type 0
Reads May spell bytes (Ok read) = Stands May spell bytes read.0 read.1
Reads May spell bytes (Err fault) = Fails May spell bytes fault

-- a number from least to most
pub record Between (least most number : ℕ) : Type 0 where
  pub low : least ≤ number
  pub high : number ≤ most

-- one thing within a budget, and so many within a budget
pub record One {X : Type 0} (May : X → Type 0) (cost : X → ℕ) (budget : ℕ) (thing : X) : Type 0 where
  pub may : May thing
  pub few : cost thing ≤ budget

pub record Several {X : Type 0} (May : X → Type 0) (cost : X → ℕ) (count budget : ℕ) (things : List X) : Type 0 where
  pub number : length things ≡ count
  pub each : AllByRecursion May things
  pub few : sum (map cost things) ≤ budget
