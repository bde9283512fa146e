use Rattle.std.proofs.Common.{ℕ, ℤ, List, ◌++◌, to_z, of_z, FitsSigned, ◌∙◌, ap, rules}
use Rattle.std.specs.Int.{w128}
use Rattle.std.proofs.lemmas.Int.{to_z-of_z}
use Rattle.change_report.specs.Change.{change_line, change_lines, changed_keys, changed_lines}
use Rattle.change_report.proofs.change_lines.change_text.Goals as goal

pub returns-in-Ok : goal.returns-in-Ok
unfolding change_lines
returns-in-Ok c =
    let fits : FitsSigned w128 c.in_ok-total.total = search rules in record {
      text = c.in-Ok.ensures.text
          ∙ ap (λ (pairs : List (List ℕ × ℤ)). change_line c.args.epoch
          (to_z w128 (of_z w128 c.in_ok-total.total)) ++ changed_lines pairs)
          (c.deref.ensures.value ∙ c.in_ok-total.ensures.keys)
          ∙ ap (λ (total : ℤ). change_line c.args.epoch total ++ changed_lines
          (changed_keys c.args.family.now c.args.per_mille c.args.before.now c.args.after.now))
          (to_z-of_z w128 c.in_ok-total.total fits ∙ c.in_ok-total.ensures.total);
    }
