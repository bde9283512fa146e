use Rattle.std.proofs.Common.{◌≡◌, ◌++◌, [], ◌∷◌, List, ℕ, length, ◌∙◌, ap, append_assoc}
use Rattle.std.specs.List.{flat_map}
use Rattle.std.proofs.lemmas.Result.{on_ok_weaker}
use Rattle.job_format.specs.Job.{site_bytes, need_bytes}
use Rattle.child_jobs.proofs.Written.{kept_on, written_on}
use Rattle.child_jobs.proofs.write.put_problem.Goals as goal

-- the sites and how many needs there are
three_pieces : (c : goal.After-put_needs) → c.put-2.new.out.items ≡ c.args.out.now.items
    ++ ((length c.args.problem.now.sites ∷ []) ++ (flat_map site_bytes c.args.problem.now.sites
    ++ (length c.args.problem.now.needs ∷ [])))
three_pieces c =
    let old = c.args.out.now.items in
    let one = c.put.new.out.items in
    let two = c.put_sites.new.out.items in
    let three = c.put-2.new.out.items in
    let first = c.in_ok-put.ensures.written ∙ ap (λ (n : ℕ). old ++ n ∷ []) c.site_count.ensures.value in
    let second =
    c.in_ok-put_sites.ensures.written
    ∙ ap (λ (sites : List _). one ++ flat_map site_bytes sites) c.sites.ensures.sites in
    let third = c.in_ok-put-2.ensures.written ∙ ap (λ (n : ℕ). two ++ n ∷ []) c.need_count.ensures.value in
    written_on old _ _ one three first (written_on one _ _ two three second third)

pub returns-clause-written : goal.returns-clause-written
returns-clause-written c =
    let old = c.args.out.now.items in
    let problem = c.args.problem.now in
    let counted = three_pieces c in
    on_ok_weaker c.put_needs.result
    (λ last.
    written_on old _ (flat_map need_bytes problem.needs) c.put-2.new.out.items c.put_needs.new.out.items counted
    (last ∙ ap (λ (needs : List _). c.put-2.new.out.items ++ flat_map need_bytes needs) c.needs.ensures.needs)
    ∙ ap (λ (rest : List ℕ). old ++ length problem.sites ∷ rest)
    (append_assoc (flat_map site_bytes problem.sites) (length problem.needs ∷ []) (flat_map need_bytes problem.needs)))
    c.put_needs.ensures.written

pub returns-clause-kept : goal.returns-clause-kept
returns-clause-kept c =
    kept_on c.args.out.now.items _ c.put-2.new.out.items c.put_needs.new.out.items (three_pieces c)
    c.put_needs.ensures.kept
