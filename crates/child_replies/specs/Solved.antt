-- What stands before the tree of a solve reply.
use Rattle.std.specs.Prelude.{◌≡◌, ◌<◌, ℕ, List, ◌++◌, length, All}
use Rattle.bound_certificate.specs.declared.outcome.Outcome.{Outcome}
use Rattle.bound_certificate.specs.declared.outcome.Outcome.TheVariants as outcomes
use Rattle.bound_certificate.specs.declared.tree.Tree.{Tree}
use Rattle.certificate_text.specs.declared.fault.TreeBytesFault.{TreeBytesFault}
use Rattle.certificate_text.specs.declared.fault.TreeBytesFault.TheVariants as trees
use Rattle.child_replies.specs.declared.found.Found.{Found}
use Rattle.child_replies.specs.declared.found.Found.TheVariants.{Placed, Infeasible, Spent}
use Rattle.reply_format.specs.Outcomes.{Found as AnyFound}
use Rattle.reply_format.specs.Outcomes as solves
use Rattle.reply_format.specs.declared.fault.ReplyFault.{ReplyFault}
use Rattle.reply_format.specs.declared.fault.ReplyFault.TheVariants as faults
use Rattle.reply_format.specs.Reply.{IsVersion, front_bytes}

abbrev pub found_of : Found → AnyFound
found_of (Placed sites) = solves.Placed sites
found_of Infeasible = solves.Infeasible
found_of Spent = solves.Spent

-- the outcome with its tree
abbrev pub outcome_of : Found → Tree → Outcome
outcome_of (Placed sites) tree = outcomes.Placed (record { sites = sites }) tree
outcome_of Infeasible tree = outcomes.Infeasible tree
outcome_of Spent tree = outcomes.Spent tree

-- bytes begin with the front of the solve reply of this number, and this is the rest
pub record HasFront (number : ℕ) (bytes rest : List ℕ) : Type 0 where
  pub version : ℕ
  pub known : IsVersion version
  pub parts : bytes ≡ front_bytes version 1 number ++ rest

-- bytes begin with so many sites, and this is the rest
pub record HasSites (count : ℕ) (bytes sites rest : List ℕ) : Type 0 where
  pub parts : bytes ≡ sites ++ rest
  pub number : length sites ≡ count
  pub each : All (λ site. site < 32) sites

-- why there is no reply, where its tree is none
abbrev pub fault_of : TreeBytesFault → ReplyFault
fault_of trees.Short = faults.Short
fault_of trees.Shape = faults.Shape
fault_of trees.Memory = faults.Memory
