-- What rows say of nodes, and what room they have.
use Rattle.std.specs.Prelude.{ℕ, Option, Some, None, cond, option_map}
use Rattle.row_pages.specs.Rows.{Term, get}
use Rattle.data_model.specs.Trees.{Trees}
use Rattle.node_table.specs.Lists.{Nodes, HasRoomFor}
use Rattle.node_table.specs.Flat.{Entry, Table, read_trees, parentless}
use Rattle.data_model.specs.declared.node.Part.{Part}
use Rattle.data_model.specs.declared.node.Part.TheVariants.{Attributes, Children}
use Rattle.node_table.specs.declared.table.Row.{Row}

-- the parent of a row's node
abbrev pub parent_of_row : Row → Option ℕ
parent_of_row r = cond r.has_parent (Some r.parent) None

abbrev pub entry_of_row : Row → Entry
entry_of_row r =
    record { kind = r.kind; name = r.name; text = r.text; parent = parent_of_row r; attributes = r.attributes.items; children = r.children.items }

-- the row of a node
unfoldable pub row_of : Term Row → ℕ → Option Row
row_of m i = get m i

-- what the rows say of a node
unfoldable pub table_of : Term Row → Table
table_of m i = option_map entry_of_row (get m i)

-- the trees of a table whose identities are below n
unfoldable pub trees_of : Table → ℕ → Trees
trees_of f n = read_trees n f (parentless f n)

abbrev pub list_in : Part → Row → Nodes
list_in Attributes r = r.attributes
list_in Children r = r.children

abbrev pub HasRoomIn : Part → ℕ → Option Row → Type 0
HasRoomIn part n None = ⊥
HasRoomIn part n (Some r) = HasRoomFor (list_in part r) n

-- the node is there, and n more fit into that list of it with no allocation
unfoldable pub HasRoom : Part → ℕ → ℕ → Term Row → Type 0
HasRoom part i n m = HasRoomIn part n (get m i)
