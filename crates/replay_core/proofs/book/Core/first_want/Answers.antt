use Rattle.std.proofs.Common.{◌≡◌, true, false, Some, None, length, arith, sym, ◌∙◌, ap}
use Rattle.std.proofs.lemmas.Bool.{le-leb, lt-leb, lt-ltb, le-ltb}
use Rattle.replay_core.specs.Attempts.{wanted}
use Rattle.replay_core.specs.Book.{is_done}
use Rattle.replay_core.specs.Next.{next_of, are_all_done, first_spent}
use Rattle.replay_core.proofs.Inside.{book_of}
use Rattle.replay_core.proofs.Starts.{next-done, next-spent, next-stale, next-full, next-wanted}
use Rattle.replay_core.proofs.book.Core.first_want.Goals as goal

pub returns-then-are_all_done-clause-value : goal.returns-then-are_all_done-clause-value
returns-then-are_all_done-clause-value c =
    let b = book_of c.self.inside in
    let done : are_all_done b ≡ true = sym (rw c.deref.ensures.value at c.are_all_done.ensures.value)
    ∙ c.if-are_all_done.true in
    sym (next-done b done) ∙ ap next_of c.self.view_is

pub returns-in-Some-clause-value : goal.returns-in-Some-clause-value
returns-in-Some-clause-value c =
    let b = book_of c.self.inside in
    let done : are_all_done b ≡ false = sym (rw c.deref.ensures.value at c.are_all_done.ensures.value)
    ∙ c.if-are_all_done.false in
    let spent : first_spent b ≡ Some c.in-Some.job = sym (rw c.deref-2.ensures.value at c.in-Some.ensures.value) in
    sym (next-spent b c.in-Some.job done spent) ∙ ap next_of c.self.view_is

pub returns-then-self-ge4096-clause-value : goal.returns-then-self-ge4096-clause-value
returns-then-self-ge4096-clause-value c =
    let b = book_of c.self.inside in
    let done : are_all_done b ≡ false = sym (rw c.deref.ensures.value at c.are_all_done.ensures.value)
    ∙ c.if-are_all_done.false in
    let spent : first_spent b ≡ None = sym (rw c.deref-2.ensures.value at c.in_default.ensures.value) in
    sym (next-stale b done spent (le-leb 4096 b.stale c.if-self-ge4096.true)) ∙ ap next_of c.self.view_is

pub returns-then-len-self-clause-value : goal.returns-then-len-self-clause-value
returns-then-len-self-clause-value c =
    let b = book_of c.self.inside in
    let done : are_all_done b ≡ false = sym (rw c.deref.ensures.value at c.are_all_done.ensures.value)
    ∙ c.if-are_all_done.false in
    let spent : first_spent b ≡ None = sym (rw c.deref-2.ensures.value at c.in_default.ensures.value) in
    let full = le-ltb (length b.outs) b.window (omega
    (arith, c.len.ensures, c.if-len-self.true, c.self.inside.outs.ok)) in
    sym (next-full b done spent (lt-leb 4096 b.stale c.if-self-ge4096.false) full) ∙ ap next_of c.self.view_is

pub returns-in-Some-wanted-clause-value : goal.returns-in-Some-wanted-clause-value
returns-in-Some-wanted-clause-value c =
    let b = book_of c.self.inside in
    let done : are_all_done b ≡ false = sym (rw c.deref.ensures.value at c.are_all_done.ensures.value)
    ∙ c.if-are_all_done.false in
    let spent : first_spent b ≡ None = sym (rw c.deref-2.ensures.value at c.in_default.ensures.value) in
    let room = lt-ltb (length b.outs) b.window (omega
    (arith, c.len.ensures, c.if-len-self.false, c.self.inside.outs.ok)) in
    let want : wanted (length b.accounts) (is_done b) b.outs ≡ Some c.in-Some-wanted.job =
    sym (rw (c.deref-3.ensures.value, c.deref-4.ensures.value) at c.in-Some-wanted.ensures.value) in
    sym (next-wanted b _ done spent (lt-leb 4096 b.stale c.if-self-ge4096.false) room want) ∙ ap next_of c.self.view_is

pub returns-in-None-clause-value : goal.returns-in-None-clause-value
returns-in-None-clause-value c =
    let b = book_of c.self.inside in
    let done : are_all_done b ≡ false = sym (rw c.deref.ensures.value at c.are_all_done.ensures.value)
    ∙ c.if-are_all_done.false in
    let spent : first_spent b ≡ None = sym (rw c.deref-2.ensures.value at c.in_default.ensures.value) in
    let room = lt-ltb (length b.outs) b.window (omega
    (arith, c.len.ensures, c.if-len-self.false, c.self.inside.outs.ok)) in
    let want : wanted (length b.accounts) (is_done b) b.outs ≡ None =
    sym (rw (c.deref-3.ensures.value, c.deref-4.ensures.value) at c.in-None.ensures.value) in
    sym (next-wanted b _ done spent (lt-leb 4096 b.stale c.if-self-ge4096.false) room want) ∙ ap next_of c.self.view_is
