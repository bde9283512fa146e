use Rattle.roster.proofs.Marks.{place_some, place_ticket_at}
use Rattle.roster.proofs.mark.place_of.Goals as goal

pub unwrap-requires : goal.unwrap-requires
unwrap-requires c = place_some _ _ c.find.result c.find.ensures.value c.requires.out

pub returns-clause-ticket : goal.returns-clause-ticket
returns-clause-ticket c = place_ticket_at _ _ _ c.find.result c.find.ensures.value c.unwrap.ensures c.requires.out
