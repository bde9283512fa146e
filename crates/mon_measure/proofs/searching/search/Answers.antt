use Rattle.std.proofs.Common.{◌≡◌, ℤ, Some, refl, sym, ◌∙◌, ap, subst, to_z, of_z}
use Rattle.std.proofs.lemmas.Int.{to_z-of_z}
use Rattle.std.specs.Int.{w128}
use Rattle.bound_certificate.specs.Problem.{Problem}
use Rattle.bound_certificate.specs.declared.verdict.Verdict.{Verdict}
use Rattle.measure_report.specs.Run.{form_of}
use Rattle.mon_call.specs.CrewCall.{crew_call_of}
use Rattle.mon_call.specs.declared.status.Status.{Status}
use Rattle.outcome_report.specs.Outcome.{outcome_text}
use Rattle.solve_phase.specs.Phase.{HasFound, Solves, verdict_on}
use Rattle.std.specs.Prelude.{Err}
use Rattle.measure_answers.proofs.Answered.{late_report, late_shares, search_given_up, unplaced}
use Rattle.measure_answers.proofs.Found.{reported}
use Rattle.measure_answers.specs.Measure.{MeasureAnswers}
use Rattle.measure_answers.specs.Reported.{shares_of}
use Rattle.mon_measure.proofs.Searches.{bound_placed, found_placed, no_placement, on_switches, traced}
use Rattle.mon_measure.proofs.searching.search.Goals as goal

pub returns-in-Err-clause-answers : goal.returns-in-Err-clause-answers
returns-in-Err-clause-answers g c = λ contents inputs later spells read.
    let m = c.args.measuring.now in
    let form = form_of m.brief in
    let before = g.S.Spawner.state c.args.crew.now in
    let after = g.S.Spawner.state c.solve.new.crew in
    let sink = g.K.Sink.state c.args.sink.now in
    let call = crew_call_of inputs later before after sink sink in
    let ends = subst (λ (p : Problem). Solves p m.solving before after (Err c.in-Err.stop)) c.problem.ensures.problem
    c.in-Err.ensures.solved in
    subst (λ (s : Status). MeasureAnswers form contents m.setting m.solving call s) (sym c.stop_status.ensures.value)
    (search_given_up form contents m.setting m.solving call (traced read) c.args.network.now c.in-Err.stop spells ends
    refl)

pub returns-in_default : goal.returns-in_default
returns-in_default g c =
    let m = c.args.measuring.now in
    let topo = c.args.network.now in
    let found = c.in-Ok.found in
    let before = g.S.Spawner.state c.args.crew.now in
    let after = g.S.Spawner.state c.solve.new.crew in
    let sink = g.K.Sink.state c.args.sink.now in
    let end = g.K.Sink.state c.report_outcome.new.sink in
    let text = outcome_text topo m.solving.nodes found.outcome found.verdict in
    let solved = subst (λ (p : Problem). HasFound p m.solving before after found.outcome
    × (found.verdict ≡ verdict_on p found.outcome)) c.problem.ensures.problem c.in-Ok.ensures.solved in record {
      answers = λ contents inputs later spells read.
          unplaced (form_of m.brief) contents m.setting m.solving (crew_call_of inputs later before after sink end)
          (traced read) found.outcome text c.report_outcome.result (no_placement found.outcome c.in_default.not-Placed)
          (record {
            has = record { topo = topo; spells = spells; found = solved.0 };
            lines = ap (λ (v : Verdict). outcome_text topo m.solving.nodes found.outcome v) solved.1;
          })
          c.report_outcome.ensures.reports;
      late = late_report text m.solving.nodes found.outcome sink end c.report_outcome.result
          c.report_outcome.ensures.reports;
      later = c.report_outcome.ensures.later;
    }

pub returns-clause-answers : goal.returns-clause-answers
returns-clause-answers g c = λ contents inputs later spells read.
    let m = c.args.measuring.now in
    let topo = c.args.network.now in
    let placement = c.in-Placed.placement in
    let tree = c.in-Placed.tree in
    let before = g.S.Spawner.state c.args.crew.now in
    let mid = g.S.Spawner.state c.solve.new.crew in
    let after = g.S.Spawner.state c.report_shares.new.crew in
    let sink = g.K.Sink.state c.args.sink.now in
    let end = g.K.Sink.state c.report_shares.new.sink in
    let same = c.problem.ensures.problem in
    let found = found_placed placement tree same c.in-Placed.is c.in-Ok.ensures.solved.0 in
    let told = to_z w128 (of_z w128 c.unwrap-bound.result) in
    let is = to_z-of_z w128 c.unwrap-bound.result (record { sfits = c.unwrap-bound.type_inv }) in
    let least = bound_placed placement tree same c.in-Placed.is c.in-Ok.ensures.solved.1 c.unwrap-bound.ensures
    ∙ ap (λ (z : ℤ). Some z) (sym is) in
    let call = crew_call_of inputs later before after sink end in
    let on = on_switches m.setting.division topo read.header read.members placement.sites c.requires.accepted
    found.finds.shows.placed in
    reported (form_of m.brief) contents m.setting m.solving call mid topo spells (traced read) placement tree
    told found least c.report_shares.result on
    (c.report_shares.ensures.reports (record {
      header = read.header;
      members = read.members;
      is_trace = tt;
      few = read.few;
      counts_are = read.counts_are;
      list = read.list;
    }))

pub returns-clause-late : goal.returns-clause-late
returns-clause-late g c =
    let m = c.args.measuring.now in
    let r = c.requires.read in
    late_shares (shares_of (form_of m.brief) m.setting m.solving c.args.network.now r.header r.members
    c.in-Placed.placement.sites (to_z w128 (of_z w128 c.unwrap-bound.result)))
    (g.S.Spawner.state c.solve.new.crew) (g.S.Spawner.state c.report_shares.new.crew)
    (g.K.Sink.state c.args.sink.now) (g.K.Sink.state c.report_shares.new.sink) c.report_shares.result
    (c.report_shares.ensures.reports r)
