use Rattle.std.proofs.Common.{◌≡◌, ℕ, List, ◌++◌, take, ◌∙◌, sym, ap}
use Rattle.byte_format.specs.Format.{Broken, Reached, reached}
use Rattle.job_format.specs.Places.{job_format}
use Rattle.job_format.specs.Read.{BreaksJob}
use Rattle.job_format.specs.declared.fault.JobFault.{JobFault}
use Rattle.job_format.specs.declared.item.Item.{Item}
use Rattle.job_format.specs.declared.place.Place.{Place}
use Rattle.child_jobs.specs.Reader.{HasTaken, Moves, lent, state}
use Rattle.child_jobs.proofs.Moves.{begun_moves}
use Rattle.child_jobs.proofs.Taken.{breach_in, if_err, if_ok, takes_on}
use Rattle.child_jobs.proofs.reader.JobReader.feed.Goals as goal

pub returns-clause-takes : goal.returns-clause-takes
returns-clause-takes c =
    if_ok c.take_on.result (λ n. Moves c.begin.new.self c.take_on.new.self (take n c.args.piece.now))
    (λ n. (bytes : List ℕ) (given : List Item) → HasTaken c.args.self.now bytes given
    → HasTaken c.take_on.new.self (bytes ++ take n c.args.piece.now) (given ++ lent c.take_on.new.self))
    (λ n moves bytes given taken. takes_on c.args.self.now c.take_on.new.self bytes c.args.piece.now given n taken
    (begun_moves c.args.self.now c.begin.new.self c.take_on.new.self (take n c.args.piece.now) c.begin.ensures.begins
    c.begin.ensures.ended moves) c.check_bytes.ensures)
    c.take_on.ensures.moves

pub returns-clause-breach : goal.returns-clause-breach
returns-clause-breach c =
    if_err c.take_on.result (λ fault. reached job_format (state c.begin.new.self) c.args.piece.now ≡ Broken fault)
    (λ fault. (bytes rest : List ℕ) (given : List Item) → HasTaken c.args.self.now bytes given
    → BreaksJob (bytes ++ (c.args.piece.now ++ rest)) fault)
    (λ fault broken bytes rest given taken. breach_in c.args.self.now bytes c.args.piece.now rest given fault taken
    (ap (λ (r : Reached Place JobFault). reached job_format r c.args.piece.now) (sym c.begin.ensures.begins.leads)
    ∙ broken))
    c.take_on.ensures.breach
