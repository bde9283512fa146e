use Rattle.std.proofs.Common.{◌≡◌, ◌+◌, take, ℕ, Err, refl, sym, subst, ◌∙◌, arith}
use Rattle.job_format.specs.Places.{judge_place}
use Rattle.child_jobs.specs.Reader.{TakesField}
use Rattle.child_jobs.proofs.Moves.{IsPut, field_breaks, field_moves, part_moves}
use Rattle.child_jobs.proofs.reader.JobReader.take_part.Goals as goal

pub returns-then-self-count-clause-moves : goal.returns-then-self-count-clause-moves
returns-then-self-count-clause-moves c =
    let put : IsPut c.args.self.now.held c.put.new.held c.args.piece.now c.args.self.now.filled c.min-count.result =
    record { within = omega arith; fits = omega (arith, c.min-count.ensures); bytes = c.put.ensures.bytes } in
    part_moves c.args.self.now _ c.requires.going put c.requires.within
    (record { place = refl; stop = refl; items = refl; sites = refl; needs = refl }) refl
    (omega (arith, c.if-self-count.true, c.place_size-size.ensures.size))

pub returns-in-Ok-clause-moves : goal.returns-in-Ok-clause-moves
returns-in-Ok-clause-moves c =
    let old = c.args.self.now in
    let put : IsPut old.held c.put.new.held c.args.piece.now old.filled c.min-count.result =
    record { within = omega arith; fits = omega (arith, c.min-count.ensures); bytes = c.put.ensures.bytes } in
    let full : old.filled + c.min-count.result ≡ c.place_size-size.result =
    omega (arith, c.min-count.ensures, c.if-self-count.false) in
    field_moves old c.take_field.new.self c.requires.going c.requires.within put (omega arith)
    (full ∙ c.place_size-size.ensures.size)
    (subst (λ (n : ℕ). TakesField old c.take_field.new.self (take n c.put.new.held)) (sym full)
    c.in-Ok.ensures.takes)

pub returns-in-Err-clause-breach : goal.returns-in-Err-clause-breach
returns-in-Err-clause-breach c =
    let old = c.args.self.now in
    let put : IsPut old.held c.put.new.held c.args.piece.now old.filled c.min-count.result =
    record { within = omega arith; fits = omega (arith, c.min-count.ensures); bytes = c.put.ensures.bytes } in
    let full : old.filled + c.min-count.result ≡ c.place_size-size.result =
    omega (arith, c.min-count.ensures, c.if-self-count.false) in
    field_breaks old c.in-Err.fault c.requires.going put (omega arith) (full ∙ c.place_size-size.ensures.size)
    (subst (λ (n : ℕ). judge_place old.place (take n c.put.new.held) ≡ Err c.in-Err.fault) (sym full)
    c.in-Err.ensures.breach)
