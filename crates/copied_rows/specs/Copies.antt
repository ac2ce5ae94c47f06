-- Copies of trees, from row to row.
use Rattle.std.specs.Prelude.{◌≡◌, ℕ, ◌+◌, ◌/◌, ◌≤◌, ◌<◌, List, [], ◌∷◌, Option, Some, None, Result, Ok, Err, IfOk, IfSome}
use Rattle.data_model.specs.Trees.{Trees, no_trees, tree, Content, append, bytes_in}
use Rattle.data_model.specs.Changes.{renumbered}
use Rattle.node_table.specs.Flat.{Table, AreThere, read_trees}

-- f says nothing of the nodes from n on, and g nothing of those below it
pub record AreApart (n : ℕ) (f g : Table) : Type 0 where
  pub lent : (i : ℕ) → n ≤ i → f i ≡ None
  pub own : (i : ℕ) → i < n → g i ≡ None

-- where something came of it, P holds of that
abbrev pub WhereMade : {A E : Type 0} → Result (Option A) E → (A → Type 0) → Type 0
WhereMade r P = IfOk r (λ made. IfSome made P)

-- where nothing came of it, P holds
abbrev pub WhereNot : {A E : Type 0} → Result (Option A) E → Type 0 → Type 0
WhereNot (Ok (Some a)) P = Unit {0}
WhereNot (Ok None) P = P
WhereNot (Err e) P = P

-- each of some nodes is in the table with what is below it, wherever it stands there, as AreThere says
abbrev pub AllThere : Table → ℕ → ℕ → List ℕ → Type 0
AllThere f n m [] = Unit {0}
AllThere f n m (i ∷ is) = AreThere f n m (i ∷ []) × AllThere f n m is

-- the tree of each, down to n levels
abbrev pub read_each : ℕ → Table → List ℕ → Trees
read_each n f [] = no_trees
read_each n f (i ∷ is) = append (read_trees n f (i ∷ [])) (read_each n f is)

-- the work of copying each: a unit for each 16 bytes of its texts
abbrev pub read_work : ℕ → Table → List ℕ → ℕ
read_work n f [] = 0
read_work n f (i ∷ is) = bytes_in (read_trees n f (i ∷ [])) / 16 + read_work n f is

-- a node with copies of those trees as its children, in preorder from its own identity on
abbrev pub grown : Content → Trees → Trees
grown c us = tree c no_trees (renumbered (c.identity + 1) us) no_trees
