use Rattle.std.proofs.Common.{refl}
use Rattle.crew.specs.Kept.{log_of}
use Rattle.scripted_crew.specs.Script.{deeds_of, script}
use Rattle.scripted_logs.proofs.Honest.{honest_log}
use Rattle.scripted_logs.proofs.entries.honest_entries.Goals as goal

pub returns-then-answers_alone-clause-follows : goal.returns-then-answers_alone-clause-follows
returns-then-answers_alone-clause-follows c =
    let crew = c.args.crew.now in (
      script crew.starts_fail.items crew.feeds_fail.items crew.seals_fail.items (deeds_of crew.acts.items),
      c.answers_alone.ensures.value.0 c.if-answers_alone.true,
      c.entries.ensures.scripted refl,
    )

pub returns-then-answers_alone-clause-honest : goal.returns-then-answers_alone-clause-honest
returns-then-answers_alone-clause-honest c =
    let crew = c.args.crew.now in
    honest_log
    (script crew.starts_fail.items crew.feeds_fail.items crew.seals_fail.items (deeds_of crew.acts.items))
    (c.answers_alone.ensures.value.0 c.if-answers_alone.true) (log_of c.entries.result.now)
    (c.entries.ensures.scripted refl)
