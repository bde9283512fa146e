-- An outcome in two parts: its tree, and all else.
use Rattle.std.proofs.Common.{◌≡◌, ◌++◌, refl}
use Rattle.bound_certificate.specs.Outcome.{tree_of}
use Rattle.bound_certificate.specs.declared.outcome.Outcome.{Outcome}
use Rattle.bound_certificate.specs.declared.outcome.Outcome.TheVariants as outcomes
use Rattle.bound_certificate.specs.declared.tree.Tree.{Tree}
use Rattle.certificate_text.specs.Bytes.{bytes_of}
use Rattle.reply_format.specs.Outcomes.{Found, Placed, Infeasible, Spent}
use Rattle.reply_format.specs.Read.{IsFound, found_bytes}
use Rattle.reply_format.specs.Reply.{HasWritten, outcome_bytes}

-- all but its tree, and both together
abbrev pub found_of : Outcome → Found
found_of (outcomes.Placed placement tree) = Placed placement.sites
found_of (outcomes.Infeasible tree) = Infeasible
found_of (outcomes.Spent tree) = Spent

abbrev pub outcome_of : Found → Tree → Outcome
outcome_of (Placed sites) tree = outcomes.Placed (record { sites = sites }) tree
outcome_of Infeasible tree = outcomes.Infeasible tree
outcome_of Spent tree = outcomes.Spent tree

pub outcome_parts : (outcome : Outcome) → outcome ≡ outcome_of (found_of outcome) (tree_of outcome)
outcome_parts (outcomes.Placed placement tree) = refl
outcome_parts (outcomes.Infeasible tree) = refl
outcome_parts (outcomes.Spent tree) = refl

pub outcome_spelled : (outcome : Outcome)
    → outcome_bytes outcome ≡ found_bytes (found_of outcome) ++ bytes_of (tree_of outcome)
outcome_spelled (outcomes.Placed placement tree) = refl
outcome_spelled (outcomes.Infeasible tree) = refl
outcome_spelled (outcomes.Spent tree) = refl

-- its limits, and those of all but its tree
pub found_written : (outcome : Outcome) → HasWritten outcome → IsFound (found_of outcome)
found_written (outcomes.Placed placement tree) written = written
found_written (outcomes.Infeasible tree) written = tt
found_written (outcomes.Spent tree) written = tt

pub of_written : (found : Found) (tree : Tree) → IsFound found → HasWritten (outcome_of found tree)
of_written (Placed sites) tree written = written
of_written Infeasible tree written = tt
of_written Spent tree written = tt

pub of_tree : (found : Found) (tree : Tree) → tree_of (outcome_of found tree) ≡ tree
of_tree (Placed sites) tree = refl
of_tree Infeasible tree = refl
of_tree Spent tree = refl

pub of_spelled : (found : Found) (tree : Tree)
    → outcome_bytes (outcome_of found tree) ≡ found_bytes found ++ bytes_of tree
of_spelled (Placed sites) tree = refl
of_spelled Infeasible tree = refl
of_spelled Spent tree = refl
