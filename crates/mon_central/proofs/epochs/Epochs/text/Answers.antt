use Rattle.std.proofs.Common.{List, length, sym, ◌∙◌, ap, subst, arith}
use Rattle.routed_trace.specs.Routed.{routed_of}
use Rattle.mon_central.specs.Sketched.{Splits}
use Rattle.mon_central.specs.declared.gathering.Gathered.{Gathered}
use Rattle.mon_central.proofs.OneMore.{central_text_is}
use Rattle.mon_central.proofs.Ranges.{if_ok_weaker}
use Rattle.routed_trace.proofs.Records.{length-routed_of-le}
use Rattle.routed_trace.proofs.Weights.{routed_light}
use Rattle.mon_central.proofs.epochs.Epochs.text.Goals as goal

pub epochs_text-requires : goal.epochs_text-requires
epochs_text-requires c =
    let topology = c.requires.part.0 in
    let part = c.requires.part.1 in
    let routed = routed_of c.args.setting.now.division topology part.header part.members in record {
      range = c.requires.range;
      number = omega (
        arith,
        ap (λ (l : List Gathered). length l) c.deref_mut.ensures.value,
        part.divides.number_is,
        part.divides.counts_are.divided.few,
      );
      routed = routed;
      few = omega (arith, length-routed_of-le c.args.setting.now.division topology part.header part.members, part.few);
      light = routed_light c.args.setting.now.division topology part.header part.members part.few
          part.divides.counts_are.divided;
      splits = subst (λ (l : List Gathered). Splits c.args.setting.now l routed) (sym c.deref_mut.ensures.value)
          part.divides.splits;
    }

pub returns : goal.returns
returns c = if_ok_weaker c.text_of.result (λ text is topology header members divides.
    let routed = routed_of c.args.setting.now.division topology header members in
    let splits = subst (λ (l : List Gathered). Splits c.args.setting.now l routed) (sym c.deref_mut.ensures.value)
    divides.splits in
    is
    ∙ central_text_is c.args.setting.now topology header members _ _ _ _ _ divides.counts_are.packets
    divides.counts_are.keyed divides.counts_are.routed
    (ap (λ (l : List Gathered). length l) c.deref_mut.ensures.value ∙ divides.number_is)
    (c.deref.ensures ∙ c.in_ok-epochs.ensures.text routed splits)) c.text_of.ensures.text
