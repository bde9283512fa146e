-- The first fault of tests that are numbered.
use Rattle.std.proofs.Common.{◌≡◌, ℕ, ◌+◌, ◌-◌, ◌<◌, ◌≤◌, suc, Option, Some, None, refl, arith, sym, ◌∙◌, ap}
use Rattle.topology.specs.Faults.{first_from, or_else}
use Rattle.topology.specs.declared.fault.TopologyFault.{TopologyFault}

first_from_suc : (test : ℕ → Option TopologyFault) (start count : ℕ)
    → first_from test start (suc count) ≡ or_else (test start) (first_from test (start + 1) count)
unfolding first_from
first_from_suc test start count = refl

-- the first test, and those after it
pub first_from_more : (test : ℕ → Option TopologyFault) (k count : ℕ) → k < count
    → first_from test k (count - k) ≡ or_else (test k) (first_from test (k + 1) (count - (k + 1)))
first_from_more test k count below =
    let counted : count - k ≡ suc (count - (k + 1)) = omega arith in
    rw counted (first_from_suc test k (count - (k + 1)))

-- a test that gives nothing
pub first_from_step : (test : ℕ → Option TopologyFault) (k count : ℕ) (whole : Option TopologyFault) → k < count
    → test k ≡ None
    → first_from test k (count - k) ≡ whole → first_from test (k + 1) (count - (k + 1)) ≡ whole
first_from_step test k count whole below right sofar =
    ap (λ found. or_else found (first_from test (k + 1) (count - (k + 1)))) (sym right)
    ∙ sym (first_from_more test k count below) ∙ sofar

-- a test that gives a fault
pub first_from_found : (test : ℕ
    → Option TopologyFault) (k count : ℕ) (whole : Option TopologyFault) (fault : TopologyFault) → k < count
    → test k ≡ Some fault
    → first_from test k (count - k) ≡ whole → whole ≡ Some fault
first_from_found test k count whole fault below wrong sofar =
    sym sofar ∙ first_from_more test k count below
    ∙ ap (λ found. or_else found (first_from test (k + 1) (count - (k + 1)))) wrong

-- past the last test
pub first_from_none : (test : ℕ → Option TopologyFault) (k count : ℕ) (whole : Option TopologyFault) → count ≤ k
    → first_from test k (count - k) ≡ whole → whole ≡ None
unfolding first_from
first_from_none test k count whole past sofar =
    let over : count - k ≡ 0 = omega arith in
    sym sofar ∙ rw over
