-- Two jobs byte by byte.
use Rattle.std.proofs.Common.{◌≡◌, ℕ, List, [], ◌∷◌, ◌++◌, refl}
use Rattle.byte_format.specs.Format.{At, Broken, onward, reached}
use Rattle.job_format.specs.Places.{has_site, job_format, job_start, judge_place}
use Rattle.job_format.specs.declared.fault.JobFault.TheVariants.{Extra}
use Rattle.job_format.specs.declared.place.Kind.TheVariants as kinds
use Rattle.job_format.specs.declared.place.Place.TheVariants.{ReplayEnd, SolveEnd}

-- no items: job 0, levels 0, rows 1, width 16, heap 1, seed 1
no_items : List ℕ
no_items =
    0x55 ∷ 0x4d ∷ 0x4a ∷ 0x42 ∷ 1 ∷ 0 ∷ 0 ∷ 0 ∷ 0 ∷ 0 ∷ 0 ∷ 1 ∷ 0x10 ∷ 0 ∷ 1 ∷ 0
    ∷ 1 ∷ 0 ∷ 0 ∷ 0 ∷ 0 ∷ 0 ∷ 0 ∷ 0 ∷ 0 ∷ 0 ∷ []

no_items_read : reached job_format (At job_start []) no_items
    ≡ At (ReplayEnd (record { kind = kinds.Replay; job = 0; levels = 0; rows = 1; width = 16; heap = 1; seed = 1 })
    (record { items = 0; weight = 0 })) []
unfolding no_items reached onward judge_place
no_items_read = refl

no_items_extra : reached job_format (At job_start []) (no_items ++ 0 ∷ []) ≡ Broken Extra
unfolding no_items reached onward judge_place
no_items_extra = refl

-- 1024 nodes, a site of capacity 8, and two needs of load 5 that it can serve
two_needs : List ℕ
two_needs =
    0x55 ∷ 0x4d ∷ 0x4a ∷ 0x42 ∷ 1 ∷ 1 ∷ 0 ∷ 0 ∷ 0 ∷ 0 ∷ 0 ∷ 4
    ∷ 1 ∷ 8 ∷ 0 ∷ 0 ∷ 0 ∷ 0 ∷ 0 ∷ 0 ∷ 0 ∷ 0 ∷ 0
    ∷ 2 ∷ 5 ∷ 0 ∷ 1 ∷ 0 ∷ 5 ∷ 0 ∷ 1 ∷ 0 ∷ []

two_needs_read : reached job_format (At job_start []) two_needs
    ≡ At (SolveEnd (record {
      job = 0;
      nodes = 1024;
      sites = 1;
      sites_left = 0;
      needs_left = 0;
      load = 0;
      via = [];
      hops_left = 0;
    })) []
unfolding two_needs reached onward judge_place has_site
two_needs_read = refl
