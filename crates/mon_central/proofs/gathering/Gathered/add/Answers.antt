use Rattle.std.proofs.Common.{subst}
use Rattle.std.proofs.lemmas.Result.{on_ok_weaker}
use Rattle.sketch_levels.specs.Stands.{ones}
use Rattle.mon_central.specs.Sketched.{Gathers}
use Rattle.mon_central.specs.declared.gathering.Gathered.{Gathered}
use Rattle.mon_central.proofs.Packets.{fed_one}
use Rattle.mon_central.proofs.gathering.Gathered.add.Goals as goal

pub returns-in-Tallied : goal.returns-in-Tallied
returns-in-Tallied c = on_ok_weaker c.add.result (λ more setting items gathers.
    let told = subst (λ (g : Gathered). Gathers setting g items) c.in-Tallied.is gathers in
    (told.0, more items told.1)) c.add.ensures.items

pub returns-in-Fed : goal.returns-in-Fed
returns-in-Fed c = on_ok_weaker c.feed.result (λ feeds setting items gathers.
    let told = subst (λ (g : Gathered). Gathers setting g items) c.in-Fed.is gathers in (
      told.0,
      fed_one setting c.feed.new.self c.args.packet.now items c.from.result c.from.ensures
          (feeds setting items (ones items) told.1),
    )) c.feed.ensures
