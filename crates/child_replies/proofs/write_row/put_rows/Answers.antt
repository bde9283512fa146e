use Rattle.std.proofs.Common.{◌∙◌, ◌++◌, List, ℕ, ℤ, ap, sym, append_assoc, append-nil}
use Rattle.child_replies.proofs.Entries.{sparse_more, sparse_none}
use Rattle.reply_format.specs.Reply.{row_bytes, sparse_bytes}
use Rattle.child_replies.proofs.write_row.put_rows.Goals as goal

pub loop-row-init : goal.loop-row-init
loop-row-init c =
    sym (append-nil c.args.out.now.items) ∙ ap (λ (l : List ℕ). c.args.out.now.items ++ l)
    (sym (sparse_none c.args.width c.args.counters.now))

pub loop-row-preserved : goal.loop-row-preserved
loop-row-preserved c =
    let row : List ℕ = row_bytes c.row_at.result.now in
    let before : List ℕ = sparse_bytes c.loop-row.row c.args.width c.args.counters.now in
    c.in_ok-put_row.ensures
    ∙ ap (λ (l : List ℕ). l ++ row) c.loop-row.invariant
    ∙ append_assoc c.args.out.now.items before row
    ∙ ap (λ (l : List ℤ). c.args.out.now.items ++ (before ++ row_bytes l)) c.row_at.ensures.row
    ∙ ap (λ (l : List ℕ). c.args.out.now.items ++ l) (sym (sparse_more c.loop-row.row c.args.width c.args.counters.now))
