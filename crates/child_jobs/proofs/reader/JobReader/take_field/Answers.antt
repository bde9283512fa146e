use Rattle.std.proofs.Common.{sym, ◌∙◌}
use Rattle.child_jobs.proofs.Moves.{field_taken}
use Rattle.child_jobs.proofs.reader.JobReader.take_field.Goals as goal

pub returns-in-Ok-clause-takes : goal.returns-in-Ok-clause-takes
returns-in-Ok-clause-takes c =
    field_taken c.args.self.now c.go_on.new.self c.in-Ok.place c.item_at-item.result c.site_at-site.result
    c.need_at-need.result c.requires.going (record {
      judged = sym c.judge.ensures.value ∙ c.in-Ok.is;
      as_item = c.item_at-item.ensures.value;
      as_site = c.site_at-site.ensures.value;
      as_need = c.need_at-need.ensures.value;
    }) (record {
      at = c.go_on.ensures.place;
      filled = c.go_on.ensures.filled;
      stop = c.go_on.ensures.stop;
      items = c.go_on.ensures.items;
      sites = c.go_on.ensures.sites;
      needs = c.go_on.ensures.needs;
    })
