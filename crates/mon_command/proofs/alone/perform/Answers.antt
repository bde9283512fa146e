use Rattle.std.proofs.Common.{◌≡◌, rules, subst}
use Rattle.mon_call.specs.Call.{Answers, call_of}
use Rattle.mon_generate.specs.Duty.{generate_duty}
use Rattle.mon_words.specs.Values.{Values}
use Rattle.mon_words.specs.declared.command.Command.TheVariants.{Generate}
use Rattle.mon_command.proofs.Asking.{made_in}
use Rattle.mon_command.proofs.alone.perform.Goals as goal

pub returns-in-Generate-clause-outcome : goal.returns-in-Generate-clause-outcome
returns-in-Generate-clause-outcome g c =
    let is : c.args.words.now.command ≡ Generate = search rules in
    let inputs = g.I.Inputs.state c.args.inputs.now in
    let sink = g.K.Sink.state c.args.sink.now in
    let sink_after = g.K.Sink.state c.generate.new.sink in
    made_in (g.I.Inputs.picks c.args.inputs.now) c.args.words.now inputs sink sink_after c.generate.result is
    (subst (λ (v : Values). Answers (generate_duty v.part v.seed v.packets v.flows) (call_of inputs inputs sink sink_after)
    c.generate.result) c.words.view_is (c.generate.ensures.answers inputs))
