use Rattle.std.proofs.Common.{◌≡◌, ◌≤◌, ◌<◌, ℕ, List, length, slice_index_or, subst, sym, ap, arith, ◌∙◌}
use Rattle.std.specs.Prelude.{slice_index}
use Rattle.std.proofs.Math.Nat.{one-le-mul}
use Rattle.std.proofs.lemmas.Nat.{mul-le}
use Rattle.std.proofs.lemmas.Result.{IfOk-weaker}
use Rattle.bound_certificate.specs.Limits.{IsWithin}
use Rattle.bound_certificate.specs.Problem.{Problem, site_count}
use Rattle.flow_keys.specs.declared.routed.Routed.{Routed}
use Rattle.routed_trace.specs.Routed.{weight_of_routed}
use Rattle.mon_trace.proofs.Limits.{few_routed, light_routed, some_epochs, few_epochs}
use Rattle.mon_trace.proofs.Placed.{read_on_paths, read_on_sites}
use Rattle.mon_measure.proofs.Accepted.{equal_counts}
use Rattle.mon_measure.proofs.replaying.shares_jobs.Goals as goal

pub new-requires-clause-epochs_some : goal.new-requires-clause-epochs_some
new-requires-clause-epochs_some c = some_epochs c.requires.read

pub new-requires-clause-paths : goal.new-requires-clause-paths
new-requires-clause-paths c =
    subst (λ (l : List Routed). (k : ℕ) → (d : Routed) → k < length l → (slice_index_or l k d).path < length c.args.placement.now.sites)
    (sym c.deref.ensures.value)
    (read_on_paths c.args.placement.now.sites c.requires.read (equal_counts c.args.network.now c.requires.accepted) c.requires.fits)

pub new-requires-clause-placed : goal.new-requires-clause-placed
new-requires-clause-placed c =
    let sites : c.site_count-switches.result ≡ site_count c.args.network.now.problem =
    c.site_count-switches.ensures.value ∙ ap site_count c.problem.ensures.problem in
    let within = subst (λ (p : Problem). IsWithin p.sites p.needs) c.problem.ensures.problem
    c.site_count-switches.ensures.within in
    subst (λ (l : List Routed). (k : ℕ) → (d : Routed) → k < length l
    → slice_index c.args.placement.now.sites (slice_index_or l k d).path < c.site_count-switches.result)
    (sym c.deref.ensures.value)
    (subst (λ (n : ℕ). (k : ℕ) → (d : Routed) → k < length c.args.read.routed.items
    → slice_index c.args.placement.now.sites (slice_index_or c.args.read.routed.items k d).path < n) (sym sites)
    (read_on_sites c.args.placement.now.sites c.requires.read
    (equal_counts c.args.network.now c.requires.accepted) within c.requires.fits))

pub new-requires-clause-few : goal.new-requires-clause-few
new-requires-clause-few c = omega (arith, ap (λ (l : List Routed). length l) c.deref.ensures.value, few_routed c.requires.read)

pub new-requires-clause-light : goal.new-requires-clause-light
new-requires-clause-light c = omega (arith, ap weight_of_routed c.deref.ensures.value, light_routed c.requires.read)

pub returns-clause-some : goal.returns-clause-some
returns-clause-some c =
    IfOk-weaker c.new.result _ _ (λ jobs work. subst (λ (n : ℕ). 1 ≤ n) (sym work.count)
    (one-le-mul (some_epochs c.requires.read) (let sites = c.site_count-switches.ensures.value ∙ ap site_count c.problem.ensures.problem in
    omega (arith, sites, c.requires.accepted.sites, c.requires.accepted.some_switches)))) c.new.ensures.work

pub returns-clause-few : goal.returns-clause-few
returns-clause-few c =
    IfOk-weaker c.new.result _ _ (λ jobs work. subst (λ (n : ℕ). n ≤ 256) (sym work.count)
    (mul-le c.args.read.counts.epochs c.site_count-switches.result 8 32 (few_epochs c.requires.read)
    c.site_count-switches.ensures.few)) c.new.ensures.work
