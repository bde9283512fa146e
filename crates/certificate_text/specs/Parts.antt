-- A tree as the list of its nodes in preorder, each without its children, and where the reading of one stops.
use Rattle.std.specs.Prelude.{◌≡◌, ◌<◌, ◌≤◌, ℕ, List, [], ◌∷◌, ◌++◌, length, map, sum, IsTrue}
use Rattle.std.specs.List.{flat_map, list_all}
use Rattle.bound_certificate.specs.Formed.{branches, is_formed_at, is_formed_part}
use Rattle.bound_certificate.specs.Node.{Part}
use Rattle.bound_certificate.specs.Tree.{is_branch, part_step, children_step}
use Rattle.bound_certificate.specs.declared.tree.Tree.{Tree}
use Rattle.bound_certificate.specs.declared.tree.Tree.TheOpen.{Tree-F}
use Rattle.bound_certificate.specs.declared.tree.Tree.TheFolds.{fold-Tree}

abbrev pub parts_step : Tree-F (List Part) → List Part
parts_step layer = part_step layer ∷ flat_map (λ parts. parts) (children_step layer)

-- a tree's nodes: its root, then those of its children
unfoldable pub parts_of : Tree → List Part
parts_of = fold-Tree (List Part) parts_step

-- parts that the nodes of a tree begin with, which is within its limits at depth d and has at most b Branch nodes
pub record Begins (d b : ℕ) (parts : List Part) : Type 0 where
  pub tree : Tree
  pub rest : List Part
  pub formed : IsTrue (is_formed_at tree d)
  pub few : branches tree ≤ b
  pub split : parts_of tree ≡ parts ++ rest

-- and the tree has more
pub record GoesOn (d b : ℕ) (parts : List Part) : Type 0 where
  pub begins : Begins d b parts
  pub more : 0 < length begins.rest

-- the same of n trees, one behind the other
pub record AllBegin (d b n : ℕ) (parts : List Part) : Type 0 where
  pub trees : List Tree
  pub rest : List Part
  pub count : length trees ≡ n
  pub formed : IsTrue (list_all (λ child. child d) (map is_formed_at trees))
  pub few : sum (map branches trees) ≤ b
  pub split : flat_map parts_of trees ≡ parts ++ rest

pub record AllGoOn (d b n : ℕ) (parts : List Part) : Type 0 where
  pub begin : AllBegin d b n parts
  pub more : 0 < length begin.rest

-- a node that can stand at depth d where b more Branch nodes may follow
pub record CanStand (d b : ℕ) (part : Part) : Type 0 where
  pub formed : IsTrue (is_formed_part d part)
  pub few : IsTrue (is_branch part) → 0 < b

-- bytes that spell so many parts of a tree, and then come to something that is bad where any of these parts could
-- stand
pub record Stops (spell : Part → List ℕ) (Bad : (Part → Type 0) → List ℕ → Type 0) (d b : ℕ) (bytes : List ℕ)
    (count : ℕ) : Type 0 where
  pub parts : List Part
  pub next : List ℕ
  pub split : bytes ≡ flat_map spell parts ++ next
  pub number : count ≡ length parts
  pub going : GoesOn d b parts
  pub bad : Bad (λ part. Begins d b (parts ++ part ∷ [])) next

-- the same of n trees
pub record AllStop (spell : Part → List ℕ) (Bad : (Part → Type 0) → List ℕ → Type 0) (d b n : ℕ) (bytes : List ℕ)
    (count : ℕ) : Type 0 where
  pub parts : List Part
  pub next : List ℕ
  pub split : bytes ≡ flat_map spell parts ++ next
  pub number : count ≡ length parts
  pub going : AllGoOn d b n parts
  pub bad : Bad (λ part. AllBegin d b n (parts ++ part ∷ [])) next
