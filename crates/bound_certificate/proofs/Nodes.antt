-- Nodes that are right, and their children.
use Rattle.std.proofs.Common.{◌≡◌, ◌≢◌, ℕ, zero, suc, ◌+◌, ◌≤◌, ◌<◌, true, false, cond, ◌==◌, List, [], ◌∷◌, ◌++◌, length, map, get_or, Option, None, Some, Result, Ok, Err, refl, sym, ◌∙◌, ap, subst, inl, inr, arith, length-append}
use Rattle.std.specs.Prelude.{not, sum, slice_index, IfOk, IfErr}
use Rattle.std.specs.List.{list_all}
use Rattle.std.specs.Option.{option_map, option_or}
use Rattle.std.proofs.lemmas.Bool.{eqb-true, eqb-false, eq-eqb, and_parts}
use Rattle.std.proofs.lemmas.List.{get_or_append_left, get_or_push}
use Rattle.std.proofs.lemmas.List.Folds.{list_any_at}
use Rattle.bound_certificate.specs.Sums.{has}
use Rattle.bound_certificate.specs.Problem.{Problem, need_count, via}
use Rattle.bound_certificate.specs.Placement.{AreChoices, is_chosen}
use Rattle.bound_certificate.specs.Node.{Part, BranchPart, OverPart, HallPart, DualPart, FullPart, is_over, is_crowded, later, branch_fault, node_fault}
use Rattle.bound_certificate.specs.Tree.{Visit, part_of, children_of, child_choices, below, visits, first_fault, part_verdict, joined, verdict_of}
use Rattle.bound_certificate.specs.Formed.{nodes, is_formed_at}
use Rattle.bound_certificate.specs.Checked.{Adds, IsTallied}
use Rattle.bound_certificate.specs.declared.tree.Tree.{Tree}
use Rattle.bound_certificate.specs.declared.tally.Tally.{Tally}
use Rattle.bound_certificate.specs.declared.verdict.TreeFault.{TreeFault}
use Rattle.bound_certificate.specs.declared.verdict.TreeWhy.{TreeWhy}
use Rattle.bound_certificate.specs.declared.verdict.TreeWhy.TheVariants.{IsOver, Depth, Children, Idle}
use Rattle.bound_certificate.proofs.Below.{below_or_last}
use Rattle.bound_certificate.proofs.Counted.{sum-cons, length-visits, length-below}
use Rattle.bound_certificate.proofs.Prices.{if_none, if_not}
use Rattle.bound_certificate.proofs.Trees.{visits-out, fan, nodes-out}
use Rattle.bound_certificate.proofs.Verdicts.{verdict_of-cons}

-- a Branch that is right stands above the last need, and has a child for each site of the next need's via
pub record IsBranching (p : Problem) (cs : List ℕ) (n : ℕ) : Type 0 where
  pub above : length cs ≢ need_count p
  pub size : n ≡ length (via p (length cs))
  pub busy : is_crowded p cs (later p (length cs)) ≡ false

pub branch_right : (p : Problem) (cs : List ℕ) (n : ℕ) → node_fault p cs (BranchPart n) ≡ None → IsBranching p cs n
unfolding node_fault branch_fault
branch_right p cs n right =
    let fits = n == length (via p (length cs)) in
    let crowded = is_crowded p cs (later p (length cs)) in
    let idle = cond crowded (Some Idle) None in
    let children = cond (not fits) (Some Children) idle in
    let over = if_none (is_over p cs) IsOver (cond (length cs == need_count p) (Some Depth) children) right in
    let depth = if_none (length cs == need_count p) Depth children over.1 in
    let size = if_none (not fits) Children idle depth.1 in
    let rest = if_none crowded Idle None size.1 in
    record {
      above = eqb-false (length cs) (need_count p) depth.0;
      size = eqb-true n (length (via p (length cs))) (if_not fits size.0);
      busy = rest.0;
    }

-- a part that is right has no more children than the next need has sites, and none below the last need
pub fan_right : (p : Problem) (cs : List ℕ) (part : Part) → AreChoices p cs → node_fault p cs part ≡ None
    → (0 < fan part → length cs < need_count p) × (fan part ≤ length (via p (length cs)))
unfolding fan
fan_right p cs (BranchPart n) are right =
    let branching = branch_right p cs n right in
    (λ some. grind (arith, branching.above, are.few), omega (arith, branching.size))
fan_right p cs OverPart are right = (λ some. absurd (omega arith), omega arith)
fan_right p cs (HallPart names) are right = (λ some. absurd (omega arith), omega arith)
fan_right p cs (DualPart lambda mu) are right = (λ some. absurd (omega arith), omega arith)
fan_right p cs FullPart are right = (λ some. absurd (omega arith), omega arith)

-- the first fault of a tree is the root's, or else that of the nodes below it
pub first_fault_here : (p : Problem) (tree : Tree) (cs : List ℕ) (number : ℕ) (why : TreeWhy)
    → node_fault p cs (part_of tree) ≡ Some why
    → first_fault p number (visits p tree cs) ≡ Some (record { node = number; why = why })
unfolding first_fault
first_fault_here p tree cs number why wrong =
    ap (first_fault p number) (visits-out p tree cs)
    ∙ ap (λ found. option_or (option_map (λ why. record { node = number; why = why }) found)
    (first_fault p (number + 1) (below p cs 0 (map (visits p) (children_of tree))))) wrong

pub first_fault_below : (p : Problem) (tree : Tree) (cs : List ℕ) (number : ℕ) → node_fault p cs (part_of tree) ≡ None
    → first_fault p number (visits p tree cs) ≡ first_fault p (number + 1)
    (below p cs 0 (map (visits p) (children_of tree)))
unfolding first_fault
first_fault_below p tree cs number right =
    ap (first_fault p number) (visits-out p tree cs)
    ∙ ap (λ found. option_or (option_map (λ why. record { node = number; why = why }) found)
    (first_fault p (number + 1) (below p cs 0 (map (visits p) (children_of tree))))) right

-- a node that is right, and what its children add to it
pub adds_tallied : (p : Problem) (tree : Tree) (cs : List ℕ) (number : ℕ) (own tally : Tally)
    → node_fault p cs (part_of tree) ≡ None → own.verdict ≡ part_verdict p cs (part_of tree) → own.nodes ≡ 1
    → Adds p number own (below p cs 0 (map (visits p) (children_of tree))) tally
    → IsTallied p number (visits p tree cs) tally
adds_tallied p tree cs number own tally right verdict one adds =
    let others = below p cs 0 (map (visits p) (children_of tree)) in
    let node : Visit = record { choices = cs; part = part_of tree } in
    record {
      faultless = first_fault_below p tree cs number right
          ∙ sym (ap (λ (k : ℕ). first_fault p (number + k) others) one) ∙ adds.faultless;
      verdict =
          adds.verdict ∙ ap (λ own. joined own (verdict_of p others)) verdict ∙ sym (verdict_of-cons p node others)
          ∙ sym (ap (verdict_of p) (visits-out p tree cs));
      nodes = omega (
        arith,
        adds.nodes,
        one,
        length-visits p tree cs,
        length-below p
            (children_of tree) cs 0,
        nodes-out tree,
      );
      few = adds.few;
    }

-- what holds of each answer
pub if_ok : {T E : Type 0} {P Q : T → Type 0} (r : Result T E) → ((x : T) → P x → Q x) → IfOk r P → IfOk r Q
if_ok (Ok x) from holds = from x holds
if_ok (Err e) from holds = tt

pub if_err : {T E : Type 0} {P Q : E → Type 0} (r : Result T E) → ((e : E) → P e → Q e) → IfErr r P → IfErr r Q
if_err (Ok x) from holds = tt
if_err (Err e) from holds = from e holds

-- a number at a place of a list stands in it
pub has-at : (xs : List ℕ) (n : ℕ) → n < length xs → has xs (slice_index xs n) ≡ true
unfolding has
has-at xs n within =
    list_any_at (λ y. y == slice_index xs n) xs n 0 within (eq-eqb (slice_index xs n) (slice_index xs n) refl)

-- one more choice, which stands in the next need's via
pub choices_push : (p : Problem) (cs : List ℕ) (s : ℕ) → AreChoices p cs → length cs < need_count p
    → has (via p (length cs)) s ≡ true → AreChoices p (cs ++ s ∷ [])
unfolding is_chosen
choices_push p cs s are above stands =
    let size : length (cs ++ s ∷ []) ≡ length cs + 1 = simp length-append in
    record {
      few = omega (arith, size);
      each = λ i below.
          let small : i < suc (length cs) = omega (arith, size) in
          elim (below_or_last i (length cs) small) [
            | inl lower ↦ ap (has (via p i)) (get_or_append_left cs (s ∷ []) 0 i lower) ∙ are.each i lower
            | inr last ↦
                subst (λ (k : ℕ). has (via p k) (get_or (cs ++ s ∷ []) k 0) ≡ true) (sym last)
                (ap (has (via p (length cs))) (get_or_push cs s 0 (length cs) refl) ∙ stands)
          ];
    }

pub choices_more : (p : Problem) (cs : List ℕ) (n : ℕ) → AreChoices p cs → length cs < need_count p
    → n < length (via p (length cs)) → AreChoices p (child_choices p cs n)
unfolding child_choices
choices_more p cs n are above within =
    choices_push p cs (slice_index (via p (length cs)) n) are above (has-at (via p (length cs)) n within)

pub length-child_choices : (p : Problem) (cs : List ℕ) (n : ℕ) → length (child_choices p cs n) ≡ length cs + 1
unfolding child_choices
length-child_choices p cs n = simp length-append (omega arith)

-- a child has fewer nodes than the children together
pub nodes_at : (ts : List Tree) (n : ℕ) (d : Tree) → n < length ts → nodes (get_or ts n d) ≤ sum (map nodes ts)
nodes_at [] n d within = absurd (omega arith)
nodes_at (t ∷ ts) zero d within = omega (arith, sum-cons (nodes t) (map nodes ts))
nodes_at (t ∷ ts) (suc n) d within = omega (arith, sum-cons (nodes t) (map nodes ts), nodes_at ts n d (omega arith))

-- and is formed where they all are
pub formed_child : (ts : List Tree) (n d : ℕ) (t : Tree) → list_all (λ child. child d) (map is_formed_at ts) ≡ true
    → n < length ts → is_formed_at (get_or ts n t) d ≡ true
formed_child [] n d t formed within = absurd (omega arith)
formed_child (child ∷ ts) zero d t formed within =
    (and_parts (is_formed_at child d) (list_all (λ child. child d) (map is_formed_at ts)) formed).0
formed_child (child ∷ ts) (suc n) d t formed within =
    formed_child ts n d t
    (and_parts (is_formed_at child d) (list_all (λ child. child d) (map is_formed_at ts)) formed).1 (omega arith)

-- a node is one Branch at most
pub part_branches : (p : Problem) (cs : List ℕ) (part : Part) → (part_verdict p cs part).branches ≤ 1
unfolding part_verdict
part_branches p cs (BranchPart children) = omega arith
part_branches p cs OverPart = omega arith
part_branches p cs (HallPart names) = omega arith
part_branches p cs (DualPart lambda mu) = omega arith
part_branches p cs FullPart = omega arith

-- no fault in a list is none in either part
pub none_first : {X : Type 0} (a b : Option X) → option_or a b ≡ None → (a ≡ None) × (b ≡ None)
none_first None b none = (refl, none)
none_first (Some x) b none = cc

pub none_mapped : {X Y : Type 0} (f : X → Y) (a : Option X) → option_map f a ≡ None → a ≡ None
none_mapped f None none = refl
none_mapped f (Some x) none = cc

-- where no node of a tree is wrong, the root is right, and so are those below it
pub node_is_right : (p : Problem) (tree : Tree) (cs : List ℕ) (n : ℕ) → first_fault p n (visits p tree cs) ≡ None
    → (node_fault p cs (part_of tree) ≡ None) ×
    (first_fault p (n + 1) (below p cs 0 (map (visits p) (children_of tree))) ≡ None)
unfolding first_fault
node_is_right p tree cs n none =
    let made : TreeWhy → TreeFault = λ why. record { node = n; why = why } in
    let parts = none_first (option_map made (node_fault p cs (part_of tree)))
    (first_fault p (n + 1) (below p cs 0 (map (visits p) (children_of tree))))
    (sym (ap (first_fault p n) (visits-out p tree cs)) ∙ none) in
    (none_mapped made (node_fault p cs (part_of tree)) parts.0, parts.1)
