-- Of told contents only one thing is said: which topology they spell, or its first fault.
use Rattle.std.proofs.Common.{◌≡◌, ℕ, List, Option, Some, Ok, Err, IfSome, sym, ◌∙◌, subst}
use Rattle.topology.specs.Topology.{Topo, topology_of}
use Rattle.topology.specs.declared.fault.TopologyFault.{TopologyFault}
use Rattle.mon_call.specs.Told.{HasBytes}
use Rattle.mon_call.specs.Topology.{IsUnfit, SpellTopology}

-- a fact on told bytes, at these bytes
pub at_bytes : {contents : Option (List ℕ)} {bytes : List ℕ} (P : List ℕ → Type 0) → contents ≡ Some bytes
    → IfSome contents P → P bytes
at_bytes P is holds = subst (λ (told : Option (List ℕ)). IfSome told P) is holds

-- bytes that spell a topology have no fault
pub good_or_bad : (contents : Option (List ℕ)) (fault : TopologyFault)
    → HasBytes contents (λ bytes. (topology : Topo) × (topology_of bytes ≡ Ok topology))
    → IsUnfit contents fault → ⊥
good_or_bad contents fault told unfit =
    let bad = at_bytes (λ bytes. topology_of bytes ≡ Err fault) told.1 unfit in
    let good = told.2.1 in cc

-- and bytes with a fault spell none
pub bad_or_good : (contents : Option (List ℕ)) (fault : TopologyFault) (topo : Topo)
    → HasBytes contents (λ bytes. topology_of bytes ≡ Err fault)
    → SpellTopology contents topo → ⊥
bad_or_good contents fault topo told spelled =
    let good = at_bytes (λ bytes. topology_of bytes ≡ Ok topo) told.1 spelled in
    let bad = told.2 in cc

-- they have one fault
pub one_topology_fault : (contents : Option (List ℕ)) (fault other : TopologyFault)
    → HasBytes contents (λ bytes. topology_of bytes ≡ Err fault)
    → IsUnfit contents other → other ≡ fault
one_topology_fault contents fault other told unfit =
    let bad = at_bytes (λ bytes. topology_of bytes ≡ Err other) told.1 unfit in
    let is = told.2 in cc (sym bad ∙ is)
