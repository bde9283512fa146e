use Rattle.std.proofs.Common.{◌≡◌, ℕ, List, [], take, sym, ◌∙◌, ap, subst, arith}
use Rattle.byte_format.specs.Format.{Broken, Reached, reached}
use Rattle.job_format.specs.Places.{job_format}
use Rattle.job_format.specs.declared.fault.JobFault.{JobFault}
use Rattle.job_format.specs.declared.place.Place.{Place}
use Rattle.child_jobs.specs.Reader.{Moves, state}
use Rattle.child_jobs.proofs.Moves.{moves_both, reached-nil}
use Rattle.child_jobs.proofs.Taken.{if_err, if_ok}
use Rattle.child_jobs.proofs.reader.JobReader.step.Goals as goal

pub returns-clause-moves : goal.returns-clause-moves
returns-clause-moves c =
    let old = c.args.self.now in
    let middle = c.take_items-taken.new.self in
    let piece : List ℕ = c.args.piece.now in
    let none : c.take_items-taken.result ≡ 0 = omega (arith, c.if-taken-gt0.false) in
    let stays : Moves old middle [] =
    subst (λ (n : ℕ). Moves old middle (take n piece)) none c.take_items-taken.ensures.moves in
    if_ok c.take_one.result (λ n. Moves middle c.take_one.new.self (take n piece))
    (λ n. Moves old c.take_one.new.self (take n piece))
    (λ n moves. moves_both old middle c.take_one.new.self [] (take n piece) stays
    (c.take_items-taken.ensures.within none) moves) c.take_one.ensures.moves

pub returns-clause-breach : goal.returns-clause-breach
returns-clause-breach c =
    let old = c.args.self.now in
    let middle = c.take_items-taken.new.self in
    let piece : List ℕ = c.args.piece.now in
    let none : c.take_items-taken.result ≡ 0 = omega (arith, c.if-taken-gt0.false) in
    let stays : Moves old middle [] =
    subst (λ (n : ℕ). Moves old middle (take n piece)) none c.take_items-taken.ensures.moves in
    if_err c.take_one.result (λ fault. reached job_format (state middle) piece ≡ Broken fault)
    (λ fault. reached job_format (state old) piece ≡ Broken fault)
    (λ fault broken. ap (λ (r : Reached Place JobFault). reached job_format r piece)
    (sym (stays.leads ∙ reached-nil (state old))) ∙ broken) c.take_one.ensures.breach
