-- Labels: numbers that rise among the nodes of one list, and what they say of document order.
use Rattle.std.specs.Prelude.{◌≡◌, ℕ, ◌+◌, ◌<◌, ◌≤◌, ◌^◌, Bool, true, false, List, [], ◌∷◌, ◌++◌, length, cond, eqb, ltb, Option, Some, None, IfSome}
use Rattle.std.specs.List.{slice_get}
use Prim.Native.Nat.{zero, suc}
use Rattle.row_pages.specs.Rows.{Term, get}
use Rattle.node_table.specs.declared.table.Row.{Row}
use Rattle.data_model.specs.Trees.{Trees, no_trees, tree, roots, count}
use Rattle.node_table.specs.Flat.{Entry, Table}
use Rattle.data_model.specs.Walks.{held}
use Rattle.data_model.specs.declared.node.Part.{Part}
use Rattle.data_model.specs.declared.node.Part.TheVariants.{Attributes, Children}

-- whether the one list of numbers comes before the other, number by number; a list comes before those that it begins
abbrev pub lists_before : List ℕ → List ℕ → Bool
lists_before [] [] = false
lists_before [] (y ∷ ys) = true
lists_before (x ∷ xs) [] = false
lists_before (x ∷ xs) (y ∷ ys) = cond (eqb x y) (lists_before xs ys) (ltb x y)

abbrev pub AllAbove : (ℕ → ℕ) → ℕ → List ℕ → Type 0
AllAbove w n [] = Unit {0}
AllAbove w n (x ∷ xs) = (n < w x) × AllAbove w n xs

-- the numbers of the nodes of a list rise
abbrev pub Ascends : (ℕ → ℕ) → List ℕ → Type 0
Ascends w [] = Unit {0}
Ascends w (x ∷ xs) = AllAbove w (w x) xs × Ascends w xs

-- the numbers rise among each node's attributes and then its children
abbrev pub AreNumbered : (ℕ → ℕ) → Trees → Type 0
AreNumbered w no_trees = Unit {0}
AreNumbered w (tree c bs cs rest) = Ascends w (roots bs ++ roots cs) × AreNumbered w bs × AreNumbered w cs × AreNumbered w rest

-- the numbers of the roots are n, n + 1 and so on, and those of each node's attributes and then its children 0, 1 and so on
abbrev pub AreRanked : (ℕ → ℕ) → ℕ → Trees → Type 0
AreRanked w n no_trees = Unit {0}
AreRanked w n (tree c bs cs rest) = (w c.identity ≡ n) × AreRanked w 0 bs × AreRanked w (length (roots bs)) cs × AreRanked w (n + 1) rest

-- the trees have distinct nodes, their roots come in the order of their identities, and numbers rise below
pub record Orders (w : ℕ → ℕ) (ts : Trees) : Type 0 where
  pub distinct : (i : ℕ) → count i ts ≤ 1
  pub roots : Ascends (λ i. i) (roots ts)
  pub below : AreNumbered w ts

-- there are such numbers
abbrev pub IsOrdered : Trees → Type 0
IsOrdered ts = (w : ℕ → ℕ) × Orders w ts

abbrev pub parent_in : Option Entry → Option ℕ
parent_in None = None
parent_in (Some e) = e.parent

-- a node's attributes, then its children
abbrev pub lists_in : Option Entry → List ℕ
lists_in None = []
lists_in (Some e) = e.attributes ++ e.children

-- the place there of what has n before it in that part
abbrev pub position_in : Part → ℕ → Option Entry → ℕ
position_in part n None = n
position_in Attributes n (Some e) = n
position_in Children n (Some e) = length e.attributes + n

-- the one before a place in a list
abbrev pub get_before : List ℕ → ℕ → Option ℕ
get_before xs zero = None
get_before xs (suc n) = slice_get xs n

-- a number above the one and below the other, where they are there
abbrev pub IsBetween : Option ℕ → Option ℕ → ℕ → Type 0
IsBetween low high n = IfSome low (λ l. l < n) × IfSome high (λ h. n < h)

-- the same, of the table's rows
abbrev pub HasNumbers : (ℕ → ℕ) → Table → Type 0
HasNumbers w f = (i : ℕ) → Ascends w (lists_in (f i))

-- the numbers rise along a list but for the node that has `at` before it
pub record RisesBut (w : ℕ → ℕ) (at : ℕ) (xs : List ℕ) : Type 0 where
  pub before : List ℕ
  pub node : ℕ
  pub after : List ℕ
  pub is : xs ≡ before ++ node ∷ after
  pub at_is : length before ≡ at
  pub rises : Ascends w (before ++ after)

-- what a row lists is below it, and listed once
pub record AreListed (f : Table) : Type 0 where
  pub below : (i j : ℕ) → 0 < held j (lists_in (f i)) → parent_in (f j) ≡ Some i
  pub once : (i j : ℕ) → held j (lists_in (f i)) ≤ 1
  pub few : (i : ℕ) → length (lists_in (f i)) ≤ 2 ^ 63

-- the numbers from the root of the node's tree down to it, where u numbers the roots and w what is below them
abbrev pub label_by : (ℕ → ℕ) → (ℕ → ℕ) → ℕ → Trees → List ℕ
label_by u w i no_trees = []
label_by u w i (tree c bs cs rest) =
    cond (ltb 0 (count i (tree c bs cs no_trees))) (u c.identity ∷ cond (eqb i c.identity) [] (cond (ltb 0 (count i bs)) (label_by w w i bs) (label_by w w i cs))) (label_by u w i rest)

-- a node's label: its root's identity, then the numbers downwards
abbrev pub label_of : (ℕ → ℕ) → ℕ → Trees → List ℕ
label_of = label_by (λ i. i)

abbrev pub place_in : ℕ → Option Row → ℕ
place_in i None = i
place_in i (Some r) = r.place

-- the number that a node's row carries; what has no row has its identity
unfoldable pub place_of : Term Row → ℕ → ℕ
place_of m i = place_in i (get m i)
