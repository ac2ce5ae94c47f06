-- Lists of nodes by the names of elements.
use Rattle.std.specs.Prelude.{◌≡◌, ℕ, ◌<◌, ◌↔◌, true, Bool, IsTrue, List, [], length, Option, Some, None}
use Rattle.std.specs.HashMap.{HashMap, get_by_text}
use Rattle.std.specs.declared.alloc.Global.{Global}
use Rattle.std.specs.declared.string.String.{String}
use Rattle.std.specs.declared.vec.Vec.{Vec}
use Rattle.data_model.specs.Axes.{is_in}
use Rattle.data_model.specs.declared.node.Kind.TheVariants.{Element}
use Rattle.node_table.specs.Flat.{Entry, Table}
use Rattle.forest_index.specs.declared.index.ForestIndex.{ForestIndex}
use Rattle.forest_index.specs.declared.name_lists.NameLists.{NameLists}

abbrev pub items_of : Option (Vec ℕ Global) → List ℕ
items_of None = []
items_of (Some v) = v.items

-- what stands in the list of a name
unfoldable pub list_in : {S : Type 0} → HashMap (String Global) (Vec ℕ Global) S → List ℕ → List ℕ
list_in m n = items_of (get_by_text m n)

-- the identity i stands in the list of the name n
abbrev pub IsListed : NameLists → List ℕ → ℕ → Type 0
IsListed x n i = is_in i (list_in x.lists n) ≡ true

-- y lists what x lists
abbrev pub Extends : NameLists → NameLists → Type 0
Extends x y = (n : List ℕ) (i : ℕ) → IsListed x n i → IsListed y n i

-- the entry is of an element of the name n
abbrev pub IsElement : List ℕ → Option Entry → Type 0
IsElement n None = ⊥
IsElement n (Some e) = (e.kind ≡ Element) × (e.name ≡ n)

-- each element of the table is in the list of its name
abbrev pub CoversAll : NameLists → Table → Type 0
CoversAll x f = (n : List ℕ) (i : ℕ) → IsElement n (f i) → IsListed x n i

-- the same, where there is an index
abbrev pub Covers : Option ForestIndex → Table → Type 0
Covers None f = Unit {0}
Covers (Some x) f = CoversAll x.names f

-- ys is what a sweep of the list xs of the name n leaves: of xs the elements of that name, and nothing else. Where something is left, b says so
pub record IsSwept (f : Table) (n : List ℕ) (xs ys : List ℕ) (b : Bool) : Type 0 where
  pub kept : (i : ℕ) → IsElement n (f i) → is_in i xs ≡ true → is_in i ys ≡ true
  pub swept : (i : ℕ) → is_in i ys ≡ true → (is_in i xs ≡ true) × IsElement n (f i)
  pub some : IsTrue b ↔ (0 < length ys)
