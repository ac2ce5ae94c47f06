-- The sizes of trees by their roots.
use Rattle.std.specs.Prelude.{◌≡◌, ◌<◌, ℕ, cond, eqb, Option, Some, None}
use Rattle.std.specs.Option.{option_or}
use Rattle.row_pages.specs.Rows.{Term, get}
use Rattle.data_model.specs.Trees.{Trees, no_trees, tree, size}
use Rattle.forest_index.specs.declared.index.ForestIndex.{ForestIndex}

-- how many nodes the tree has whose root is r; 0 where r is no root
abbrev pub size_at : ℕ → Trees → ℕ
size_at r no_trees = 0
size_at r (tree c bs cs rest) = cond (eqb r c.identity) (size (tree c bs cs no_trees)) (size_at r rest)

-- each number that f has is the size of the tree with that root
abbrev pub AreSizes : (ℕ → Option ℕ) → Trees → Type 0
AreSizes f ts = (r n : ℕ) → f r ≡ Some n → (0 < n) × (n ≡ size_at r ts)

-- what an index keeps of sizes
abbrev pub kept_sizes : Option ForestIndex → Option (Term ℕ)
kept_sizes None = None
kept_sizes (Some x) = Some x.sizes

-- the size that is kept of the tree of a root
unfoldable pub size_in : Option (Term ℕ) → ℕ → Option ℕ
size_in None r = None
size_in (Some m) r = get m r

-- the same, where q has the sizes of the trees that have got another
unfoldable pub size_with : Option (Term ℕ) → Term ℕ → ℕ → Option ℕ
size_with None q r = None
size_with (Some m) q r = option_or (get q r) (get m r)
