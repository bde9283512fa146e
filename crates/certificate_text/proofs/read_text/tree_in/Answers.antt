-- What a text is read as, by where its reading ends.
use Rattle.std.proofs.Common.{inr, refl}
use Rattle.std.proofs.lemmas.Result.{err_from_is_err_and}
use Rattle.certificate_text.specs.declared.cursor.Cursor.{Cursor}
use Rattle.certificate_text.proofs.TextReading.{Begun, head_fails, nodes_fail, end_fails, tree_reads}
use Rattle.certificate_text.proofs.read_text.tree_in.Goals as goal

pub returns-in_err-pass_head : goal.returns-in_err-pass_head
returns-in_err-pass_head c =
    let told = err_from_is_err_and c.from_residual.result c.from_residual.ensures.1 in
    let start : Cursor = record { rest = c.args.text; number = 1; branches = 4096 } in
    let begun : Begun c.args.text.now start =
    record { short = c.if-text-gt67108864.false; whole = refl; first = refl; branches = refl } in
    rw (told.1, told.2) (inr (head_fails c.args.text.now start _ begun c.in_err-pass_head.ensures.err))

pub returns-in_err-tree : goal.returns-in_err-tree
returns-in_err-tree c =
    let told = err_from_is_err_and c.from_residual-in_err-tree.result c.from_residual-in_err-tree.ensures.1 in
    let start : Cursor = record { rest = c.args.text; number = 1; branches = 4096 } in
    let begun : Begun c.args.text.now start =
    record { short = c.if-text-gt67108864.false; whole = refl; first = refl; branches = refl } in
    rw (told.1, told.2) (nodes_fail c.args.text.now start c.pass_head.new.cursor _ begun c.in_ok-pass_head.ensures.ok
    c.in_err-tree.ensures.err)

pub returns-in_err-read_end : goal.returns-in_err-read_end
returns-in_err-read_end c =
    let told = err_from_is_err_and c.from_residual-in_err-read_end.result c.from_residual-in_err-read_end.ensures.1 in
    let start : Cursor = record { rest = c.args.text; number = 1; branches = 4096 } in
    let begun : Begun c.args.text.now start =
    record { short = c.if-text-gt67108864.false; whole = refl; first = refl; branches = refl } in
    rw (told.1, told.2)
    (inr (end_fails c.args.text.now start c.pass_head.new.cursor c.read_tree.new.cursor c.in_ok-tree.tree _ begun
    c.in_ok-pass_head.ensures.ok c.in_ok-tree.ensures.ok c.in_err-read_end.ensures.err))

pub returns : goal.returns
returns c =
    let start : Cursor = record { rest = c.args.text; number = 1; branches = 4096 } in
    let begun : Begun c.args.text.now start =
    record { short = c.if-text-gt67108864.false; whole = refl; first = refl; branches = refl } in
    inr (tree_reads c.args.text.now start c.pass_head.new.cursor c.read_tree.new.cursor c.in_ok-tree.tree begun
    c.in_ok-pass_head.ensures.ok c.in_ok-tree.ensures.ok c.in_ok-read_end.ensures.ok)
