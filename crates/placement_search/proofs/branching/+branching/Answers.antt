-- A node by its leaf or its children, and a node's children one by one.
use Rattle.std.proofs.Common.{◌≡◌, ◌+◌, ◌-◌, ◌<◌, ◌≤◌, true, false, [], ◌∷◌, ◌++◌, length, slice_index, sym, ◌∙◌, ap, subst, refl, arith, length-append}
use Rattle.std.specs.Prelude.{MatchOption}
use Rattle.bound_certificate.specs.Problem.{need_count, via}
use Rattle.bound_certificate.specs.Node.{is_over}
use Rattle.bound_certificate.specs.Sums.{has}
use Rattle.bound_certificate.proofs.Nodes.{choices_push, has-at}
use Rattle.placement_search.specs.declared.progress.Progress.{Progress}
use Rattle.placement_search.specs.Leaf.{IsLeaf, IsOpen}
use Rattle.placement_search.specs.Searched.{AreSearched}
use Rattle.placement_search.proofs.Capacities.{roomy_push}
use Rattle.placement_search.proofs.Composed.{pushed_ok, kept_on, leaf_searched, over_searched, branch_searched, child_searched, children_nothing}
use Rattle.placement_search.proofs.branching.+branching.Goals as goal

pub search_at-returns-in-Some : goal.search_at-returns-in-Some
search_at-returns-in-Some t c = record {
  searched = let p = c.args.problem.now in
      let leaf : IsLeaf p c.args.choices.now c.offer.new.self c.in-Some.leaf =
      subst (λ found. MatchOption found (IsOpen p c.args.choices.now c.offer.new.self)
      (IsLeaf p c.args.choices.now c.offer.new.self)) c.in-Some.is c.in_ok-found.ensures.found in
      leaf_searched p c.args.choices.now c.args.progress.now c.offer.new.self c.in-Some.leaf leaf
      c.offer.ensures.beaten c.offer.ensures.left c.offer.ensures.no_worse
      (kept_on p c.args.progress.now c.offer.new.self c.requires.kept c.offer.ensures.no_worse c.offer.ensures.best);
}

pub search_at-returns : goal.search_at-returns
search_at-returns t c = record {
  searched = let p = c.args.problem.now in
      let cs = c.args.choices.now in
      let mid = c.offer.new.self in
      let spent : Progress =
      record { cost = mid.cost; sites = mid.sites; left = mid.left - 1; capacities = mid.capacities } in
      let unclosed : IsOpen p cs mid =
      subst (λ found. MatchOption found (IsOpen p cs mid)
      (IsLeaf p cs mid)) c.in_default.is c.in_ok-found.ensures.found in
      let kept = kept_on p c.args.progress.now mid c.requires.kept c.offer.ensures.no_worse c.offer.ensures.best in
      branch_searched p cs c.args.progress.now mid spent c.search_children.new.progress c.in_ok-children.children
      c.offer.ensures.within c.requires.room unclosed
      c.offer.ensures.beaten c.offer.ensures.left c.offer.ensures.no_worse refl (omega (arith, unclosed.left))
      (record { best = kept.best; begun = kept.begun }) c.in_ok-children.ensures.size c.in_ok-children.ensures.searched;
}

pub search_child-is_over-requires : goal.search_child-is_over-requires
search_child-is_over-requires t c =
    rw (c.as_slice.ensures.value, c.with-child.ensures.value)
    (choices_push c.args.problem.now c.args.choices.now c.args.site c.requires.choices c.requires.above c.requires.site)

pub search_child-returns-then-is_over : goal.search_child-returns-then-is_over
search_child-returns-then-is_over t c = record {
  searched = let over : is_over c.args.problem.now (c.args.choices.now ++ c.args.site ∷ []) ≡ true =
      sym (rw (c.as_slice.ensures.value, c.with-child.ensures.value) at c.is_over.ensures.value) ∙ c.if-is_over.true in
      over_searched c.args.problem.now
      (c.args.choices.now ++ c.args.site ∷ []) c.args.progress.now over c.requires.kept;
}

pub search_child-search_at-requires : goal.search_child-search_at-requires
search_child-search_at-requires t c =
    let p = c.args.problem.now in
    let qs = c.args.choices.now ++ c.args.site ∷ [] in
    let right : is_over p qs ≡ false =
    sym (rw (c.as_slice.ensures.value, c.with-child.ensures.value) at c.is_over.ensures.value) ∙ c.if-is_over.false in
    let size : length qs ≡ length c.args.choices.now + 1 = simp length-append (omega arith) in
    let few : need_count p ≤ 64 = c.requires.few in
    rw c.with-child.ensures.value (
      omega (arith, c.decreases, size, few, c.requires.above),
      (
        choices_push p c.args.choices.now c.args.site c.requires.choices c.requires.above c.requires.site,
        (
          roomy_push p c.args.choices.now c.args.site c.requires.room right,
          c.requires.kept,
        ),
      ),
    )

pub search_children-loop-site-init : goal.search_children-loop-site-init
search_children-loop-site-init t c =
    rw c.new-children.ensures
    (children_nothing c.args.problem.now c.args.choices.now c.args.progress.now c.requires.kept, refl)

pub search_children-search_child-requires : goal.search_children-search_child-requires
search_children-search_child-requires t c =
    let p = c.args.problem.now in
    let cs = c.args.choices.now in
    let sites : c.via-site-items.result.now ≡ via p (length cs) =
    c.via-site-items.ensures.value ∙ ap (via p) c.len.ensures.value in
    let within : c.loop-site.site-index < length (via p (length cs)) = rw sites at c.loop-site-test.true in
    let stands : has (via p (length cs)) (slice_index (via p (length cs)) c.loop-site.site-index) ≡ true =
    has-at (via p (length cs)) c.loop-site.site-index within in (
      omega (arith, c.decreases),
      (
        c.requires.above,
        (
          c.via-site-items.ensures.few_needs,
          (
            rw sites stands,
            (
              c.requires.choices,
              (
                c.requires.room,
                c.loop-site.invariant.0.nodes.kept,
              ),
            ),
          ),
        ),
      ),
    )

pub search_children-loop-site-preserved : goal.search_children-loop-site-preserved
search_children-loop-site-preserved t c =
    let p = c.args.problem.now in
    let cs = c.args.choices.now in
    let ts = c.loop-site.children in
    let child = c.in_ok-child.child in
    let sites : c.via-site-items.result.now ≡ via p (length cs) =
    c.via-site-items.ensures.value ∙ ap (via p) c.len.ensures.value in
    let site = slice_index c.via-site-items.result.now c.loop-site.site-index in
    let place : site ≡ slice_index (via p (length cs)) (length ts) = rw (sites, c.loop-site.invariant.1) refl in
    let pushed : c.push.new.self ≡ ts ++ child ∷ [] =
    pushed_ok c.push.result c.if-is_err.ensures.value c.push.ensures.ok in
    let more : AreSearched p cs c.args.progress.now c.search_child.new.progress (ts ++ child ∷ []) =
    child_searched p cs c.args.progress.now c.loop-site.progress c.search_child.new.progress ts child site
    c.loop-site.invariant.0 place c.in_ok-child.ensures.searched in
    rw pushed (more, simp length-append (omega (arith, c.loop-site.invariant.1)))
