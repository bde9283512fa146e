-- The bytes of a reply are below 256.
use Rattle.std.proofs.Common.{◌≡◌, ◌<◌, ◌≤◌, ◌+◌, ◌/◌, ◌^◌, ◌&&◌, ℕ, get_or, zero, suc, true, List, [], ◌∷◌, ◌++◌, length, map, All, inl, inr, sym, subst, arith, IsTrue, lit<}
use Rattle.std.specs.Prelude.{nat_le, nat_lt}
use Rattle.std.specs.Int.{w64, to_le_bytes, bytes_low_first, byte_at}
use Rattle.std.specs.List.{AllByRecursion, concat, list_all}
use Rattle.std.proofs.Math.Nat.{mod-lt}
use Rattle.std.proofs.lemmas.Bool.{and_parts, leb-true, ltb-true}
use Rattle.std.proofs.lemmas.List.Elements.{All-nil, All-cons, All-append, All-get_or, All-from_get_or}
use Rattle.byteorder.specs.Endian.{little_bytes}
use Rattle.bound_certificate.proofs.Trees.{tree_induction, is_formed_at-parts}
use Rattle.bound_certificate.specs.Formed.{are_prices, branches, is_formed, is_formed_at, is_formed_part}
use Rattle.bound_certificate.specs.Node.{Part, BranchPart, OverPart, HallPart, DualPart, FullPart}
use Rattle.bound_certificate.specs.Outcome.{tree_of}
use Rattle.bound_certificate.specs.Tree.{part_of, children_of}
use Rattle.bound_certificate.specs.declared.outcome.Outcome.{Outcome}
use Rattle.bound_certificate.specs.declared.outcome.Outcome.TheVariants.{Placed, Infeasible, Spent}
use Rattle.bound_certificate.specs.declared.tree.Tree.{Tree}
use Rattle.certificate_text.specs.Bytes.{bytes_of, in_eights, part_bytes}
use Rattle.certificate_text.proofs.RootFirst.{bytes_of-out}
use Rattle.reply_format.specs.Reply.{HasWritten, IsVersion, SpellsReply, front_bytes, outcome_bytes}
use Rattle.solve_jobs.specs.Replies.{reply_with}

abbrev pub Low : ℕ → Type 0
Low byte = byte < 256

abbrev pub AreLow : List ℕ → Type 0
AreLow bytes = All Low bytes

pub one_low : (byte : ℕ) (bytes : List ℕ) → byte < 256 → AreLow bytes → AreLow (byte ∷ bytes)
one_low byte bytes low more = All-cons Low byte bytes low more

-- two parts
pub join_low : (front rest : List ℕ) → AreLow front → AreLow rest → AreLow (front ++ rest)
join_low front rest low more = All-append Low front rest low more

-- numbers that are below a lower limit
under_low : (limit : ℕ) (xs : List ℕ) → limit ≤ 256 → list_all (λ x. nat_lt x limit) xs ≡ true → AreLow xs
under_low limit [] few under = All-nil Low
under_low limit (x ∷ xs) few under =
    let parts = and_parts (nat_lt x limit) (list_all (λ y. nat_lt y limit) xs) under in
    let small : x < limit = ltb-true x limit parts.0 in
    one_low x xs (omega arith) (under_low limit xs few parts.1)

-- the bytes of a number
byte_low : (i x : ℕ) → byte_at i x < 256
byte_low zero x = mod-lt x (lit< tt)
byte_low (suc i) x = mod-lt (x / 256 ^ suc i) (lit< tt)

pub number_low : (i n x : ℕ) → AreLow (bytes_low_first i n x)
number_low i zero x = All-nil Low
number_low i (suc n) x = one_low (byte_at i x) (bytes_low_first (suc i) n x) (byte_low i x) (number_low (suc i) n x)

eights_low : (xs : List ℕ) → AreLow (in_eights xs)
eights_low [] = All-nil Low
eights_low (x ∷ xs) = join_low (to_le_bytes w64 x) (in_eights xs) (number_low 0 8 x) (eights_low xs)

-- a node's bytes
part_low : (d : ℕ) (part : Part) → is_formed_part d part ≡ true → AreLow (part_bytes part)
part_low d (BranchPart children) formed =
    let parts = and_parts (nat_lt d 64 && nat_le 1 children) (nat_le children 8) formed in
    let few : children ≤ 8 = leb-true children 8 parts.1 in
    one_low 0 (children ∷ []) (omega arith) (one_low children [] (omega arith) (All-nil Low))
part_low d OverPart formed = one_low 1 [] (omega arith) (All-nil Low)
part_low d (HallPart names) formed =
    let parts = and_parts (nat_le (length names) 64) (list_all (λ x. nat_lt x 64) names) formed in
    let few : length names ≤ 64 = leb-true (length names) 64 parts.0 in
    one_low 2 (length names ∷ names) (omega arith)
    (one_low (length names) names (omega arith) (under_low 64 names (omega arith) parts.1))
part_low d (DualPart lambda mu) formed =
    let sizes = nat_le (length lambda) 64 && nat_le (length mu) 32 in
    let parts = and_parts (sizes && are_prices lambda) (are_prices mu) formed in
    let fronts = and_parts sizes (are_prices lambda) parts.0 in
    let each = and_parts (nat_le (length lambda) 64) (nat_le (length mu) 32) fronts.0 in
    let few : length lambda ≤ 64 = leb-true (length lambda) 64 each.0 in
    let fewer : length mu ≤ 32 = leb-true (length mu) 32 each.1 in
    let behind = one_low (length mu) (in_eights mu) (omega arith) (eights_low mu) in
    one_low 3 (length lambda ∷ (in_eights lambda ++ (length mu ∷ in_eights mu))) (omega arith)
    (one_low (length lambda) (in_eights lambda ++ (length mu ∷ in_eights mu)) (omega arith)
    (join_low (in_eights lambda) (length mu ∷ in_eights mu) (eights_low lambda) behind))
part_low d FullPart formed = one_low 4 [] (omega arith) (All-nil Low)

-- a tree's bytes
abbrev LowTree : Tree → Type 0
LowTree tree = (d : ℕ) → is_formed_at tree d ≡ true → AreLow (bytes_of tree)

children_low : (trees : List Tree) (d : ℕ) → AllByRecursion LowTree trees
    → list_all (λ child. child d) (map is_formed_at trees) ≡ true → AreLow (concat (map bytes_of trees))
children_low [] d each formed = All-nil Low
children_low (tree ∷ trees) d each formed =
    let parts = and_parts (is_formed_at tree d) (list_all (λ child. child d) (map is_formed_at trees)) formed in
    join_low (bytes_of tree) (concat (map bytes_of trees)) (each.0 d parts.0) (children_low trees d each.1 parts.1)

tree_step : (tree : Tree) → AllByRecursion LowTree (children_of tree) → LowTree tree
tree_step tree each d formed =
    let parts = is_formed_at-parts tree d formed in
    let whole = join_low (part_bytes (part_of tree)) (concat (map bytes_of (children_of tree)))
    (part_low d (part_of tree) parts.0) (children_low (children_of tree) (d + 1) each parts.1) in
    subst AreLow (sym (bytes_of-out tree)) whole

tree_low : (tree : Tree) → IsTrue (is_formed tree) → AreLow (bytes_of tree)
unfolding is_formed
tree_low tree formed =
    tree_induction LowTree tree_step tree 0 (and_parts (is_formed_at tree 0) (nat_le (branches tree) 4096) formed).0

-- an outcome's bytes
sites_low : (sites : List ℕ) → All (λ site. site < 32) sites → AreLow sites
sites_low sites each = All-from_get_or Low sites 0 (λ i inside.
    let small : get_or sites i 0 < 32 = All-get_or (λ site. site < 32) sites i 0 inside each in
    omega arith)

outcome_low : (outcome : Outcome) → HasWritten outcome → AreLow (bytes_of (tree_of outcome))
    → AreLow (outcome_bytes outcome)
outcome_low (Placed placement tree) written low =
    let few : length placement.sites ≤ 64 = written.few in
    let sites = sites_low placement.sites written.each in
    one_low 0 (length placement.sites ∷ (placement.sites ++ bytes_of tree)) (omega arith)
    (one_low (length placement.sites) (placement.sites ++ bytes_of tree) (omega arith)
    (join_low placement.sites (bytes_of tree) sites low))
outcome_low (Infeasible tree) written low = one_low 1 (bytes_of tree) (omega arith) low
outcome_low (Spent tree) written low = one_low 2 (bytes_of tree) (omega arith) low

-- the head's bytes
pub version_low : (version : ℕ) → IsVersion version → version < 256
version_low version (inl is) = omega arith
version_low version (inr is) = omega arith

pub four_low : (a b c d : ℕ) (bytes : List ℕ) → a < 256 → b < 256 → c < 256 → d < 256 → AreLow bytes
    → AreLow (a ∷ b ∷ c ∷ d ∷ bytes)
four_low a b c d bytes first second third fourth low =
    one_low a (b ∷ c ∷ d ∷ bytes) first
    (one_low b (c ∷ d ∷ bytes) second (one_low c (d ∷ bytes) third (one_low d bytes fourth low)))

front_low : (version number : ℕ) → IsVersion version → AreLow (front_bytes version 1 number)
front_low version number known =
    let kind = one_low 1 (little_bytes 4 number) (lit< tt) (number_low 0 4 number) in
    four_low 0x55 0x4d 0x52 0x50 (version ∷ 1 ∷ little_bytes 4 number) (lit< tt) (lit< tt) (lit< tt) (lit< tt)
    (one_low version (1 ∷ little_bytes 4 number) (version_low version known) kind)

-- a reply's bytes
pub spelled_low : (outcome : Outcome) (bytes : List ℕ) → SpellsReply (reply_with outcome) bytes
    → All (λ byte. byte < 256) bytes
spelled_low outcome bytes spelled =
    let whole = join_low (front_bytes spelled.version 1 0) (outcome_bytes outcome)
    (front_low spelled.version 0 spelled.known)
    (outcome_low outcome spelled.within.written (tree_low (tree_of outcome) spelled.within.formed)) in
    subst AreLow (sym spelled.parts) whole
