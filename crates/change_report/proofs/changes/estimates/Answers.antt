use Rattle.std.proofs.Common.{◌≡◌, ◌≤◌, List, ℕ, ℤ, length, map, sym, ◌∙◌, ap, subst}
use Rattle.std.proofs.lemmas.List.{take_all}
use Rattle.recursive_sum.specs.Select.{HaveOwnKeys}
use Rattle.recursive_sum.specs.Sum.{estimate_at}
use Rattle.recursive_sum.proofs.Ranks.{paired_keys}
use Rattle.change_report.specs.Change.{estimate_pairs}
use Rattle.change_report.proofs.changes.estimates.Goals as goal

abbrev number : goal.After-loop-key → List ℕ → ℤ
number c key = estimate_at c.args.family.now c.args.merged.now 0 key

all : (c : goal.After-loop-key)
    → c.loop-key.pairs.items ≡ map (λ (key : List ℕ). (key, number c key)) c.keys-keys.result.now
all c =
    let ended : length c.keys-keys.result.now ≤ c.loop-key.key-index = c.loop-key-test.false in
    c.loop-key.invariant
    ∙ ap (map (λ (key : List ℕ). (key, number c key))) (take_all c.loop-key.key-index c.keys-keys.result.now ended)

pub returns-clause-value : goal.returns-clause-value
unfolding estimate_pairs
returns-clause-value c = all c ∙ ap (map (λ (key : List ℕ). (key, number c key))) c.keys-keys.ensures.value

pub returns-clause-distinct : goal.returns-clause-distinct
returns-clause-distinct c =
    subst HaveOwnKeys (sym (all c)) (paired_keys (number c) c.keys-keys.result.now c.keys-keys.ensures.ascending)
