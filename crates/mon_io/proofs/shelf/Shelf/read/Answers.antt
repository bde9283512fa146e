use Rattle.std.proofs.Common.{List, ℕ, take, drop, ap, ◌∙◌}
use Rattle.mon_io.specs.Files.{Files, contents_at}
use Rattle.mon_io.proofs.Told.{took_front}
use Rattle.mon_io.proofs.shelf.Shelf.read.Goals as goal

pub returns-clause-taken : goal.returns-clause-taken
returns-clause-taken c =
    took_front (contents_at c.args.self.now.files.items c.args.self.now.picked)
    c.args.self.now.at c.copy_front-count.result _
    (c.copy_front-count.ensures.copied
    ∙ ap (λ (rest : List ℕ). take c.copy_front-count.result rest)
    (c.rest_of.ensures
    ∙ ap (λ (files : Files). drop c.args.self.now.at (contents_at files c.args.self.now.picked)) c.deref.ensures.value))
