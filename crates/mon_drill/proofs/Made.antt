-- The made topology and the made trace, as files by name.
use Rattle.std.proofs.Common.{◌≡◌, ◌∙◌, ap, codes, ℕ, List, Option, Some}
use Rattle.measure_answers.specs.Replayed.{contents_of}
use Rattle.mon_io.specs.Files.{Files, contents_or_empty}
use Rattle.mon_io.specs.Inputs.{InputState}
use Rattle.trace_maker.specs.Topology.{generated_topology}
use Rattle.trace_maker.specs.Trace.{generated_trace}
use Rattle.mon_drill.specs.Drill.{made_for}

-- a file of such inputs by its name
by_name : (inputs : InputState) (files : Files) (name bytes : List ℕ) → inputs.contents ≡ contents_or_empty files
    → contents_or_empty files name ≡ Some bytes → inputs.contents name ≡ Some bytes
by_name inputs files name bytes holds file =
    ap (λ (contents : List ℕ → Option (List ℕ)). contents name) holds ∙ file

-- what inputs with these files hold
pub made_are : (inputs : InputState) (files : Files) (seed packets flows : ℕ)
    → inputs.contents ≡ contents_or_empty files
    → contents_or_empty files (codes "topology") ≡ Some generated_topology
    → contents_or_empty files (codes "trace") ≡ Some (generated_trace seed packets flows)
    → contents_of inputs (codes "topology") (codes "trace") ≡ made_for seed packets flows
made_are inputs files seed packets flows holds topology trace = λ i. record {
  topology = by_name inputs files (codes "topology") generated_topology holds topology i;
  trace = by_name inputs files (codes "trace") (generated_trace seed packets flows) holds trace i;
}
