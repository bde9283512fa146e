-- The fields of a solve reply up to its tree, in their order, each with its size and its test.
use Rattle.std.specs.Prelude.{ℕ, ◌-◌, ◌==◌, ◌&&◌, ◌||◌, nat_le, nat_lt, Bool, true, false, List, [], ◌∷◌, ◌++◌, slice_index, Result, Ok, Err, if◌then◌else◌}
use Rattle.byteorder.specs.Endian.{little_number}
use Rattle.byte_format.specs.Format.{Format}
use Rattle.reply_format.specs.Places.{is_magic}
use Rattle.reply_format.specs.declared.fault.ReplyFault.{ReplyFault}
use Rattle.reply_format.specs.declared.fault.ReplyFault.TheVariants as faults

-- what an outcome is, but for its tree
pub data Found : Type 0 where
  Placed : List ℕ → Found
  Infeasible : Found
  Spent : Found

-- what stands next
pub data Place : Type 0 where
  Magic : Place
  Version : Place
  Kind : Place
  Number : Place
  Outcome : Place
  Count : Place  -- how many needs are placed
  Site : List ℕ → ℕ → Place  -- the sites so far, and so many are left
  Tree : Found → Place  -- the tree, which is read as a whole

abbrev pub if_right : Bool → ReplyFault → Place → Result Place ReplyFault
if_right right fault place = if right then Ok place else Err fault

-- 0 placed, 1 infeasible, 2 spent
abbrev pub behind_outcome : ℕ → Place
behind_outcome kind = if kind == 0 then Count else Tree (if kind == 1 then Infeasible else Spent)

abbrev pub behind_site : List ℕ → ℕ → Place
behind_site sites left = if nat_le left 1 then Tree (Placed sites) else Site sites (left - 1)

abbrev pub place_size : Place → ℕ
place_size Magic = 4
place_size Version = 1
place_size Kind = 1
place_size Number = 4
place_size Outcome = 1
place_size Count = 1
place_size (Site sites left) = 1
place_size (Tree found) = 1

-- bytes of the tree are passed over here
unfoldable pub judge_place : ℕ → Place → List ℕ → Result Place ReplyFault
judge_place number Magic b = if_right (is_magic b) faults.Magic Version
judge_place number Version b = if_right (slice_index b 0 == 1 || slice_index b 0 == 2) faults.Version Kind
judge_place number Kind b = if_right (slice_index b 0 == 1) faults.Job Number
judge_place number Number b = if_right (little_number 4 b == number) faults.Job Outcome
judge_place number Outcome b = if_right (nat_le (slice_index b 0) 2) faults.Shape (behind_outcome (slice_index b 0))
judge_place number Count b =
    if_right (nat_le 1 (slice_index b 0) && nat_le (slice_index b 0) 64) faults.Shape (Site [] (slice_index b 0))
judge_place number (Site sites left) b =
    if_right (nat_lt (slice_index b 0) 32) faults.Shape (behind_site (sites ++ slice_index b 0 ∷ []) left)
judge_place number (Tree found) b = Ok (Tree found)

-- the fields up to the tree of a reply to the solve job of a number
abbrev pub solve_format : ℕ → Format Place ReplyFault
solve_format number = record { size = place_size; judge = judge_place number }

abbrev pub is_tree : Place → Bool
is_tree Magic = false
is_tree Version = false
is_tree Kind = false
is_tree Number = false
is_tree Outcome = false
is_tree Count = false
is_tree (Site sites left) = false
is_tree (Tree found) = true
