-- The sites and needs that were read are within the limits of a problem.
use Rattle.std.proofs.Common.{ℕ, ◌∙◌, All, ap, length, subst, sym}
use Rattle.std.proofs.lemmas.List.{length-map}
use Rattle.bound_certificate.specs.Limits.{IsNeed}
use Rattle.topology.proofs.topology.Topology.of_root.Goals as goal

pub new-requires : goal.new-requires
new-requires c =
    let named = simp length-map at (ap length c.in_ok-switches.ensures.names) in
    let sited = simp length-map at (ap length c.in_ok-switches.ensures.sites) in
    record {
      some_sites = c.in_ok-switches.ensures.some;
      few_sites = c.in_ok-switches.ensures.few;
      some_needs = c.in_ok-paths.ensures.some;
      few_needs = c.in_ok-paths.ensures.few;
      each =
          subst (λ (sites : ℕ). All (IsNeed sites) c.in_ok-paths.paths.needs.items) (named
          ∙ sym sited) c.in_ok-paths.ensures.each;
    }
