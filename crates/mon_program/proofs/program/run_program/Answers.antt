use Rattle.std.proofs.Common.{map, string_bytes, sym, ◌∙◌}
use Rattle.mon_program.proofs.Words.{answered, behind_none, behind_pair}
use Rattle.mon_program.proofs.program.run_program.Goals as goal

pub returns-then-has_worker : goal.returns-then-has_worker
returns-then-has_worker g c = record {
  outcome = answered (map string_bytes c.args.words.now) _ _ c.run.result
      (behind_pair c.args.words.now (sym c.has_worker.ensures.value ∙ c.if-has_worker.true))
      c.new-crew.ensures.issued c.run.ensures.outcome;
}

pub returns : goal.returns
returns g c = record {
  outcome = answered (map string_bytes c.args.words.now) _ _ c.run_inline.result
      (behind_none (map string_bytes c.args.words.now) (sym c.has_worker.ensures.value ∙ c.if-has_worker.false))
      c.new-crew-else-has_worker.ensures.issued c.run_inline.ensures.outcome;
}
