use Rattle.std.proofs.Common.{◌≡◌, ◌+◌, take, ℕ, Err, sym, subst, ◌∙◌, arith}
use Rattle.job_format.specs.Places.{judge_place}
use Rattle.child_jobs.specs.Reader.{TakesField}
use Rattle.child_jobs.proofs.Moves.{field_breaks, field_moves, whole_put}
use Rattle.child_jobs.proofs.reader.JobReader.take_one.Goals as goal

pub returns-in-Ok-clause-moves : goal.returns-in-Ok-clause-moves
returns-in-Ok-clause-moves c =
    let old = c.args.self.now in
    let none : old.filled ≡ 0 = c.requires.start in
    let full : old.filled + c.place_size-size.result ≡ c.place_size-size.result = omega (arith, none) in
    field_moves old c.take_field.new.self c.requires.going c.requires.within
    (whole_put old.held c.args.piece.now none (omega (arith, c.if-piece-size.false))) c.place_size-size.ensures.some
    (full ∙ c.place_size-size.ensures.size)
    (subst (λ (n : ℕ). TakesField old c.take_field.new.self (take n c.args.piece.now)) (sym full)
    c.in-Ok.ensures.takes)

pub returns-in-Err-clause-breach : goal.returns-in-Err-clause-breach
returns-in-Err-clause-breach c =
    let old = c.args.self.now in
    let none : old.filled ≡ 0 = c.requires.start in
    let full : old.filled + c.place_size-size.result ≡ c.place_size-size.result = omega (arith, none) in
    field_breaks old c.in-Err.fault c.requires.going
    (whole_put old.held c.args.piece.now none (omega (arith, c.if-piece-size.false))) c.place_size-size.ensures.some
    (full ∙ c.place_size-size.ensures.size)
    (subst (λ (n : ℕ). judge_place old.place (take n c.args.piece.now) ≡ Err c.in-Err.fault) (sym full)
    c.in-Err.ensures.breach)
