-- Where the bytes of a solve reply come to a fault before its tree, or end before it.
use Rattle.std.proofs.Common.{◌≡◌, ◌==◌, ◌||◌, ◌&&◌, ℕ, List, [], get_or, false, inl, Err, subst}
use Rattle.std.specs.Prelude.{nat_le, nat_lt}
use Rattle.byteorder.specs.Endian.{little_number}
use Rattle.byte_format.specs.Format.{At, Broken, Breaks, EndsInside, reached}
use Rattle.byte_format.proofs.Formats.{Leads, leads}
use Rattle.reply_format.specs.Outcomes.{Place, judge_place, solve_format, is_tree, behind_outcome, behind_site}
use Rattle.reply_format.specs.Outcomes.{Magic, Version, Kind, Number, Outcome, Count, Site, Tree}
use Rattle.reply_format.specs.Outcomes as solves
use Rattle.reply_format.specs.Places.{is_magic}
use Rattle.reply_format.specs.Read.{BreaksSolve}
use Rattle.reply_format.specs.declared.fault.ReplyFault.{ReplyFault}
use Rattle.reply_format.specs.declared.fault.ReplyFault.TheVariants.{Short, Shape, Job}
use Rattle.reply_format.specs.declared.fault.ReplyFault.TheVariants as faults
use Rattle.reply_format.proofs.Judged.{wrong_only}
use Rattle.reply_format.proofs.SolveOn.{solve_takes}

-- the faults of the fields
data Tells : ReplyFault → Type 0 where
  TellsMagic : Tells faults.Magic
  TellsVersion : Tells faults.Version
  TellsJob : Tells faults.Job
  TellsShape : Tells faults.Shape

judged_tells : (number : ℕ) (place : Place) (b : List ℕ) (fault : ReplyFault) → judge_place number place b ≡ Err fault
    → Tells fault
unfolding judge_place
judged_tells number Magic b fault is = wrong_only Tells (is_magic b) faults.Magic Version fault TellsMagic is
judged_tells number Version b fault is =
    wrong_only Tells (get_or b 0 0 == 1 || get_or b 0 0 == 2) faults.Version Kind fault TellsVersion is
judged_tells number Kind b fault is = wrong_only Tells (get_or b 0 0 == 1) Job Number fault TellsJob is
judged_tells number Number b fault is = wrong_only Tells (little_number 4 b == number) Job Outcome fault TellsJob is
judged_tells number Outcome b fault is =
    wrong_only Tells (nat_le (get_or b 0 0) 2) Shape (behind_outcome (get_or b 0 0)) fault TellsShape is
judged_tells number Count b fault is =
    wrong_only Tells (nat_le 1 (get_or b 0 0) && nat_le (get_or b 0 0) 64) Shape (Site [] (get_or b 0 0)) fault
    TellsShape is
judged_tells number (Site sites left) b fault is =
    wrong_only Tells (nat_lt (get_or b 0 0) 32) Shape _ fault TellsShape is
judged_tells number (Tree found) b fault is = absurd (cc)

told : (number : ℕ) (bytes : List ℕ) (fault : ReplyFault) → Breaks (solve_format number) solves.Magic bytes fault
    → Tells fault → BreaksSolve number bytes fault
told number bytes fault breaks TellsMagic = breaks
told number bytes fault breaks TellsVersion = breaks
told number bytes fault breaks TellsJob = breaks
told number bytes fault breaks TellsShape = inl breaks

-- the fault of a field
pub solve_breach : (number : ℕ) (bytes : List ℕ) (fault : ReplyFault)
    → reached (solve_format number) (At solves.Magic []) bytes ≡ Broken fault → BreaksSolve number bytes fault
solve_breach number bytes fault is =
    let breaks : Breaks (solve_format number) solves.Magic bytes fault =
    subst (λ r. Leads (solve_format number) solves.Magic bytes r) is
    (leads (solve_format number) (solve_takes number) solves.Magic bytes) in
    told number bytes fault breaks (judged_tells number breaks.place breaks.field fault breaks.judged)

-- an end before the tree
pub solve_short : (number : ℕ) (place : Place) (bytes part : List ℕ)
    → reached (solve_format number) (At solves.Magic []) bytes ≡ At place part → is_tree place ≡ false
    → BreaksSolve number bytes Short
solve_short number place bytes part is inside =
    let ends : EndsInside (solve_format number) solves.Magic bytes place part =
    subst (λ r. Leads (solve_format number) solves.Magic bytes r) is
    (leads (solve_format number) (solve_takes number) solves.Magic bytes) in
    inl (record { place = place; part = part; ends = ends; inside = inside })
