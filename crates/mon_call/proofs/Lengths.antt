-- A file that is too long for a topology.
use Rattle.std.proofs.Common.{◌≡◌, ◌≤◌, ◌+◌, ℕ, List, ◌++◌, length, Option, Some, None, Err, IfSome, sym, subst, arith, length-append}
use Rattle.std.proofs.lemmas.Bool.Decides.{nat_tests}
use Rattle.mon_io.specs.Inputs.{Took}
use Rattle.topology.specs.Topology.{answer, file_fault, most_bytes, root_of, topo_of, topology_of}
use Rattle.topology.specs.declared.fault.TopologyFault.TheVariants as fault

-- more bytes than a file of a topology can have
pub too_long : (contents now : Option (List ℕ)) (front : List ℕ) → length front ≡ most_bytes + 1
    → Took contents now front → IfSome contents (λ bytes. topology_of bytes ≡ Err fault.TooLong)
unfolding topology_of file_fault
too_long contents None front size took = subst (λ (told : Option (List ℕ)). IfSome told
    (λ bytes. answer (file_fault bytes) (topo_of (root_of bytes)) ≡ Err fault.TooLong)) (sym took.taken) tt
too_long contents (Some rest) front size took =
    subst (λ (told : Option (List ℕ)). IfSome told (λ bytes. answer (file_fault bytes) (topo_of (root_of bytes)) ≡ Err
    fault.TooLong)) (sym took.taken) (grown (front ++ rest) (omega (arith, size, length-append front rest)))
  where
    grown : (bytes : List ℕ) → most_bytes + 1 ≤ length bytes
        → answer (file_fault bytes) (topo_of (root_of bytes)) ≡ Err fault.TooLong
    grown bytes more = grind (arith, nat_tests)
