-- The only status that is shown of what `generate` reads.
use Rattle.std.proofs.Common.{◌≡◌, ℕ, refl}
use Rattle.mon_call.specs.Told.{IsTold, Shows}
use Rattle.mon_call.specs.declared.status.Status.{Status}
use Rattle.mon_call.specs.declared.status.Status.TheVariants.{Done}
use Rattle.mon_words.specs.declared.part.Part.{Part}
use Rattle.mon_generate.specs.Duty.{TellsGenerate, generate_duty}

only_done : (part : Part) (seed packets flows : ℕ) (status : Status)
    → Shows (generate_duty part seed packets flows) status → status ≡ Done
only_done part seed packets flows Done shows = refl
only_done part seed packets flows _ shows = absurd shows

pub generate_told : (part : Part) (seed packets flows : ℕ) (wanted : Status) → TellsGenerate wanted
    → IsTold (generate_duty part seed packets flows) wanted
generate_told part seed packets flows Done told =
    record { alone = λ status shows. only_done part seed packets flows status shows }
generate_told part seed packets flows _ told = absurd told
