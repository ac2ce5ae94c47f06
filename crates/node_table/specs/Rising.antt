-- Lists of nodes in document order, each once, and what rows tell of it.
use Rattle.std.specs.Prelude.{◌≡◌, ℕ, ◌<◌, true, List, [], ◌∷◌, Some}
use Rattle.data_model.specs.Order.{comes_before}
use Rattle.data_model.specs.Walks.{held}
use Rattle.row_pages.specs.Rows.{Term}
use Rattle.node_table.specs.declared.table.Row.{Row}
use Rattle.node_table.specs.Flat.{IsTableOf, Table}
use Rattle.node_table.specs.Labels.{place_of, parent_in, HasNumbers}
use Rattle.node_table.specs.Rows.{table_of, trees_of}

-- y comes before the first of a list in xs
abbrev pub Follows : ℕ → List ℕ → List ℕ → Type 0
Follows y [] xs = Unit {0}
Follows y (z ∷ zs) xs = comes_before y z xs ≡ true

-- each of a list stands in xs, before the next of the list
abbrev pub Rises : List ℕ → List ℕ → Type 0
Rises [] xs = Unit {0}
Rises (y ∷ ys) xs = (0 < held y xs) × Follows y ys xs × Rises ys xs

-- the rows are those of trees that have at most so many levels, and their numbers rise among what each node lists
abbrev pub AreOrdered : Term Row → ℕ → Type 0
AreOrdered rows levels = IsTableOf (table_of rows) levels (trees_of (table_of rows) levels) × HasNumbers (place_of rows) (table_of rows)

-- the parent of a node, and the number that its row carries
abbrev pub IsAbove : Term Row → ℕ → ℕ × ℕ → Type 0
IsAbove rows i above = (parent_in (table_of rows i) ≡ Some above.0) × (above.1 ≡ place_of rows i)

-- two nodes of a table have one parent
abbrev pub AreSiblings : ℕ → ℕ → Table → Type 0
AreSiblings a b f = (p : ℕ) × (parent_in (f a) ≡ Some p) × (parent_in (f b) ≡ Some p)
