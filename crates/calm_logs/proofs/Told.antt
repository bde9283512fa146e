-- A part that is a crew's whole log, as the crew tells it.
use Rattle.std.proofs.Common.{ℕ, List, [], ◌++◌, append-nil, subst}
use Rattle.std.proofs.Math.Logic.{∥∥₁_elim}
use Rattle.std.proofs.Math.Nat.{ℕ_set}
use Rattle.crew.specs.Log.{AreAnswered, Entry}
use Rattle.inline_crew.specs.InOrder.{InOrder}
use Rattle.replay_supervisor.specs.Jobs.{Work}
use Rattle.calm_logs.specs.Calm.{IsCalm}

-- a part is calm in one way
pub calm_once : (work : Work) (part : List Entry) → IsProp (IsCalm work part)
calm_once work part = hlevel (ℕ_set)

-- What is told of a log that was empty before the part is told of the part.
pub calm_told : (answers : List ℕ → List ℕ → Type 0) (refuses : List ℕ → Type 0) (work : Work) (part : List Entry)
    → ∥ InOrder (part ++ []) ∥₁ → ∥ AreAnswered answers refuses (part ++ []) ∥₁
    → (InOrder part → AreAnswered answers refuses part → IsCalm work part) → IsCalm work part
calm_told answers refuses work part ordered answered calm =
    ∥∥₁_elim ordered (calm_once work part) (λ order. ∥∥₁_elim answered (calm_once work part) (λ answers_all.
    calm (subst (λ (log : List Entry). InOrder log) (append-nil part) order)
    (subst (λ (log : List Entry). AreAnswered answers refuses log) (append-nil part) answers_all)))
