use Rattle.std.proofs.Common.{ℕ, List, Option, cond, is_some, refl, sym, ◌∙◌, ap, arith}
use Rattle.routed_trace.specs.Routed.{epoch_at}
use Rattle.routed_trace.proofs.Adding.{added, no_key, no_path, on_path, passed}
use Rattle.routed_trace.proofs.Records.{length-routed_of-le}
use Rattle.routed_trace.proofs.counts.TraceCounts.add.Goals as goal

pub returns-in_default-clause-adds : goal.returns-in_default-clause-adds
returns-in_default-clause-adds c = added (record {
  has_passed = passed _ _ c.unwrap_or-first.ensures c.epoch-epoch.ensures.value c.if-epoch-gt-LAST_EPOCH.false
      c.bytes_with-bytes.ensures.value c.if-bytes-gt-MOST_BYTES.false refl refl c.max-self.ensures;
  keyed = omega (arith, ap (λ (k : Option (List ℕ)). cond {A = ℕ} (is_some k) 1 0) c.in_default.is);
  routed = omega arith;
  found_is = no_key _ _ _ _ c.in_default.is;
})

pub returns-in_default-path_of-clause-adds : goal.returns-in_default-path_of-clause-adds
returns-in_default-path_of-clause-adds c = added (record {
  has_passed = passed _ _ c.unwrap_or-first.ensures c.epoch-epoch.ensures.value c.if-epoch-gt-LAST_EPOCH.false
      c.bytes_with-bytes.ensures.value c.if-bytes-gt-MOST_BYTES.false refl refl c.max-self.ensures;
  keyed = omega (arith, ap (λ (k : Option (List ℕ)). cond {A = ℕ} (is_some k) 1 0) c.in-Some.is);
  routed = omega arith;
  found_is = no_path _ _ _ _ _ c.in-Some.is (sym c.path_of.ensures.path ∙ c.in_default-path_of.is);
})

pub overflow_add-self-3 : goal.overflow_add-self-3
overflow_add-self-3 c =
    let part = c.requires.part in
    omega (
      arith,
      part.counts_are.routed,
      part.few,
      length-routed_of-le c.args.division.now c.args.topology.now
          part.header part.members,
    )

pub returns-clause-adds : goal.returns-clause-adds
returns-clause-adds c = added (record {
  has_passed = passed _ _ c.unwrap_or-first.ensures c.epoch-epoch.ensures.value c.if-epoch-gt-LAST_EPOCH.false
      c.bytes_with-bytes.ensures.value c.if-bytes-gt-MOST_BYTES.false refl refl c.max-self.ensures;
  keyed = omega (arith, ap (λ (k : Option (List ℕ)). cond {A = ℕ} (is_some k) 1 0) c.in-Some.is);
  routed = omega arith;
  found_is = on_path _ _ _ _ _ _ _ _ c.in-Some.is (sym c.path_of.ensures.path ∙ c.in-Some-path_of.is)
      (c.epoch-epoch.ensures.value ∙ ap (λ (f : ℕ). epoch_at c.args.division.now.seconds f
      c.args.packet.now.seconds) c.unwrap_or-first.ensures)
      c.weight.ensures.value;
})
