use Rattle.std.proofs.Common.{refl}
use Rattle.calm_logs.proofs.Parts.{calm_within}
use Rattle.calm_replays.proofs.Measures.{measure_honest}
use Rattle.mon_command.proofs.Telling.{placed}
use Rattle.mon_place.proofs.Told.{place_ends}
use Rattle.mon_program.proofs.Calm.{told_calm}
use Rattle.mon_program.proofs.Measured.{measured_calm, measured_ends, told_inline}
use Rattle.mon_program.proofs.inline.run_inline.Goals as goal

pub returns-clause-calm : goal.returns-clause-calm
returns-clause-calm g c = λ topology solving topo work part fresh asked told log reads.
    let is = placed _ _ _ topology solving _ _ c.run-status.ensures.outcome asked in
    told_calm _ _ solving _ topo work part _ fresh c.entries-entries.ensures.value c.entries-entries.ensures.order
    (c.entries-entries.ensures.answered refl) is.limits told log reads is.answers

pub returns-clause-ends : goal.returns-clause-ends
returns-clause-ends g c = λ topology solving topo work part fresh asked told.
    let is = placed _ _ _ topology solving _ _ c.run-status.ensures.outcome asked in
    place_ends _ solving _ topo work part _ told
    (calm_within solving.restarts work part
    (told_calm _ _ solving _ topo work part _ fresh c.entries-entries.ensures.value c.entries-entries.ensures.order
    (c.entries-entries.ensures.answered refl) is.limits told.topology told.log told.reads is.answers))
    is.answers

pub returns-clause-measure_calm : goal.returns-clause-measure_calm
returns-clause-measure_calm g c = λ asked m topo header members part phase work entries fresh taken same told inside.
    measured_calm _ _ _ asked m _ _ _ c.run-status.ensures.outcome taken same
    (told_inline _ _ fresh c.entries-entries.ensures.value c.entries-entries.ensures.order
    (c.entries-entries.ensures.answered refl))
    topo header members part told phase work entries inside

pub returns-clause-measure_ends : goal.returns-clause-measure_ends
returns-clause-measure_ends g c = λ asked m topo header members part fresh taken same told.
    measured_ends _ _ _ asked m _ _ _ c.run-status.ensures.outcome taken same
    (told_inline _ _ fresh c.entries-entries.ensures.value c.entries-entries.ensures.order
    (c.entries-entries.ensures.answered refl))
    topo header members part told

pub returns-clause-honest : goal.returns-clause-honest
returns-clause-honest g c = λ before after contents setting solving fresh has.
    measure_honest contents setting solving _ _
    (told_inline _ _ fresh c.entries-entries.ensures.value c.entries-entries.ensures.order
    (c.entries-entries.ensures.answered refl))
    has
