use Rattle.std.proofs.Common.{◌≡◌, ℕ, ap, arith, sym, ◌∙◌}
use Rattle.std.specs.Prelude.{Some}
use Rattle.std.specs.BTreeMap.{insert_entry, is_at}
use Rattle.std.specs.Map.{lookup}
use Rattle.sketch_levels.proofs.Noting.{cmp, insert-back, is_some_above, none_above, takes_inserted, takes_noted}
use Rattle.sketch_levels.proofs.all_keys.note_in.Goals as goal

pub returns-then-noted-level-clause-taken : goal.returns-then-noted-level-clause-taken
returns-then-noted-level-clause-taken c = λ seed top is.
    rw c.in-Ok.ensures.entries
    (takes_inserted seed top c.args.key.now c.args.level c.args.highest.now.entries is c.in-Ok.ensures.was_ordered
    (λ n found. none_above c.in-Ok.before c.args.level n (omega (arith, c.unwrap_or-noted.ensures)) (c.in-Ok.ensures.old ∙ found)))

pub returns-in-Ok-insert-clause-taken : goal.returns-in-Ok-insert-clause-taken
returns-in-Ok-insert-clause-taken c = λ seed top is.
    let key = c.args.key.now in
    let entries = c.args.highest.now.entries in
    let noted = c.unwrap_or-noted.result in
    let found : lookup (is_at (cmp key)) entries ≡ Some noted =
    sym c.in-Ok.ensures.old
    ∙ is_some_above c.in-Ok.before c.args.level (omega (arith, c.unwrap_or-noted.ensures, c.if-noted-level.false))
    ∙ ap (λ (n : ℕ). Some n) (sym c.unwrap_or-noted.ensures) in
    let back : c.insert-2.new.self.entries ≡ entries =
    c.in-Ok-insert.ensures.entries
    ∙ ap (λ xs. insert_entry cmp xs key noted) c.in-Ok.ensures.entries
    ∙ insert-back c.args.level noted entries key c.in-Ok.ensures.was_ordered found in
    rw back
    (takes_noted seed top key c.args.level noted entries is c.in-Ok.ensures.was_ordered found (omega (arith, c.if-noted-level.false)))
