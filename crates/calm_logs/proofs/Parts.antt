-- The parts of a calm log, and its limits.
use Rattle.std.proofs.Common.{◌≡◌, ℕ, ◌≤◌, Bool, true, false, cond, List, [], ◌∷◌, ◌++◌, refl, sym, ap, subst, arith}
use Rattle.crew.specs.Log.{Entry}
use Rattle.crew.specs.Log.Entry.{Started, StartFailed, Fed, FeedFailed, Sealed, Reply, Died, Stopped}
use Rattle.replay_core.specs.Book.{more, no_bad, total}
use Rattle.replay_core.specs.declared.bad.Bad.{Bad}
use Rattle.replay_core.specs.declared.bad.Kind.{Kind}
use Rattle.replay_core.specs.declared.bad.Kind.TheVariants as kinds
use Rattle.replay_supervisor.specs.Jobs.{Work}
use Rattle.replay_supervisor.specs.Reading.{Reading, bad_in, count_entry, read, stale_in}
use Rattle.solve_phase.specs.Told.{IsWithinLimits}
use Rattle.calm_logs.specs.Calm.{IsCalm}

-- nothing is stale or bad in no entry
pub none_calm : (work : Work) → IsCalm work []
unfolding stale_in bad_in
none_calm work = record { fresh = refl; none_bad = λ job known. refl }

-- one bad attempt more is not none
never_none : (kind : Kind) (bad : Bad) → more kind bad ≡ no_bad → ⊥
never_none kinds.Start bad is = let one = ap (λ (b : Bad). b.start) is in omega (arith, one)
never_none kinds.Feed bad is = let one = ap (λ (b : Bad). b.feed) is in omega (arith, one)
never_none kinds.Died bad is = let one = ap (λ (b : Bad). b.died) is in omega (arith, one)
never_none kinds.Reply bad is = let one = ap (λ (b : Bad). b.reply) is in omega (arith, one)

none_before : (b : Bool) (kind : Kind) (bad : Bad) → cond b (more kind bad) bad ≡ no_bad → bad ≡ no_bad
none_before true kind bad is = absurd (never_none kind bad is)
none_before false kind bad is = is

-- where no attempt is bad, none was before the last entry
count_none : (work : Work) (r : Reading) (entry : Entry) (job : ℕ) (bad : Bad) → count_entry work r entry job bad ≡ no_bad
    → bad ≡ no_bad
count_none work r (Started t) job bad is = is
count_none work r (StartFailed t) job bad is = none_before _ kinds.Start bad is
count_none work r (Fed t piece) job bad is = is
count_none work r (FeedFailed t) job bad is = none_before _ kinds.Feed bad is
count_none work r (Sealed t) job bad is = is
count_none work r (Reply t bytes) job bad is = none_before _ kinds.Reply bad is
count_none work r (Died t) job bad is = none_before _ kinds.Died bad is
count_none work r (Stopped t) job bad is = is

-- the earlier part of a calm log is calm
calm_before : (work : Work) (entry : Entry) (before : List Entry) → IsCalm work (entry ∷ before) → IsCalm work before
unfolding stale_in bad_in
calm_before work entry before calm = record {
  fresh = let none = calm.fresh in omega (arith, none);
  none_bad = λ job known.
      count_none work (read work before) entry job (bad_in work before job) (calm.none_bad job known);
}

pub calm_earlier : (work : Work) (later earlier : List Entry) → IsCalm work (later ++ earlier) → IsCalm work earlier
calm_earlier work [] earlier calm = calm
calm_earlier work (entry ∷ later) earlier calm =
    calm_earlier work later earlier (calm_before work entry (later ++ earlier) calm)

-- a calm log keeps every limit
pub calm_within : (restarts : ℕ) (work : Work) (part : List Entry) → IsCalm work part
    → IsWithinLimits restarts work part
calm_within restarts work part calm = record {
  few = λ job known. subst (λ (b : Bad). total b ≤ restarts) (sym (calm.none_bad job known)) (omega arith);
  fresh = omega (arith, calm.fresh);
}
