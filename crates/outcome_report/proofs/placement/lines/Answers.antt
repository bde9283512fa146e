use Rattle.outcome_report.proofs.Placed.{fits_choices}
use Rattle.outcome_report.proofs.placement.lines.Goals as goal

pub switches_text-requires : goal.switches_text-requires
switches_text-requires c = (fits_choices c.args.topology.now.problem c.args.sites.now c.requires).few
