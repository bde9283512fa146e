-- What is known of an accepted topology, and of numbers within their limits.
use Rattle.std.proofs.Common.{◌≡◌, ◌≤◌, ◌&&◌, ℕ, All, length, Bool, true, false, true≢false, IsTrue, sym, subst, arith}
use Rattle.std.proofs.lemmas.Bool.Decides.{nat_tests}
use Rattle.std.proofs.lemmas.List.Elements.{All-weaker}
use Rattle.std.specs.Prelude.{nat_le}
use Rattle.std.specs.Option.{option_map_or}
use Rattle.hash_family.specs.Limits.{is_rows, is_width}
use Rattle.mon_call.specs.Setting.{is_setting}
use Rattle.mon_call.specs.declared.setting.Setting.{Setting}
use Rattle.bound_certificate.specs.Limits.{IsNeed, IsWithin}
use Rattle.topology.specs.Accepted.{IsAccepted, IsPath}
use Rattle.topology.specs.Topology.{HasEqualCounts, Topo}

pub equal_counts : (topo : Topo) → IsAccepted topo → HasEqualCounts topo
equal_counts topo is = record { sites = is.sites; needs = is.needs; ends = is.ends }

pub is_within : (topo : Topo) → IsAccepted topo → IsWithin topo.problem.sites topo.problem.needs
is_within topo is = record {
  some_sites = omega (arith, is.sites, is.some_switches);
  few_sites = omega (arith, is.sites, is.few_switches);
  some_needs = omega (arith, is.needs, is.some_paths);
  few_needs = omega (arith, is.needs, is.few_paths);
  each = subst (λ (n : ℕ). All (IsNeed n) topo.problem.needs) (sym is.sites)
      (All-weaker (IsPath (length topo.switch_names)) (IsNeed (length topo.switch_names)) (λ need path. path.within)
      topo.problem.needs is.each_need);
}

second : (a b : Bool) → (a && b) ≡ true → b ≡ true
second true b e = e
second false b e = absurd (true≢false (sym e))

-- a heavy key has at most all of the weight
pub heavy_few : (setting : Setting) → IsTrue (is_setting setting) → setting.heavy ≤ 1000
heavy_few setting range =
    let last : nat_le setting.heavy 1000 ≡ true = second
    (nat_le setting.levels 16 && is_rows setting.rows && is_width setting.width && nat_le setting.heap 1024
    && option_map_or (nat_le 1) setting.division.seconds true && nat_le 1 setting.heavy) (nat_le setting.heavy 1000) range in
    grind (arith, nat_tests)
