-- How a topology is read.
use Rattle.std.specs.Prelude.{◌≡◌, ⊤, ℕ, List, Option, IfSome, Result, Ok, Err}
use Rattle.mon_io.specs.Faults.{Rose}
use Rattle.mon_io.specs.Inputs.{InputState, IsLeft, IsOver}
use Rattle.topology.specs.Topology.{Topo, topology_of}
use Rattle.topology.specs.declared.fault.TopologyFault.{TopologyFault}
use Rattle.mon_call.specs.declared.status.Input.TheVariants as inputs
use Rattle.mon_call.specs.declared.status.Status.{Status}
use Rattle.mon_call.specs.declared.status.Status.TheVariants.{ReadFault, Topology, Memory}

-- the topology that told contents spell
abbrev pub SpellTopology : Option (List ℕ) → Topo → Type 0
SpellTopology contents topo = IfSome contents (λ bytes. topology_of bytes ≡ Ok topo)

-- told contents spell no topology, by this first fault
abbrev pub IsUnfit : Option (List ℕ) → TopologyFault → Type 0
IsUnfit contents fault = IfSome contents (λ bytes. topology_of bytes ≡ Err fault)

-- How reading a topology ended: with that of the contents, at their end, or with the status of the call.
abbrev pub ReadsTopology : Option (List ℕ) → InputState → InputState → Result Topo Status → Type 0
ReadsTopology contents before now (Ok topo) = SpellTopology contents topo × IsOver now.rest
ReadsTopology contents before now (Err (ReadFault inputs.Topology)) =
    Rose before.faults now.faults × IsLeft contents before.rest now.rest
ReadsTopology contents before now (Err (Topology fault)) = IsUnfit contents fault
ReadsTopology contents before now (Err Memory) = ⊤
ReadsTopology contents before now (Err _) = ⊥
