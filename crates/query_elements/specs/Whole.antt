-- Whole nodes, which go into a new node as they are.
use Rattle.std.specs.Prelude.{ℕ, Bool, true, false, ◌&&◌, nat_le, List, [], ◌∷◌, length, Option, Some, None}
use Rattle.data_model.specs.Limits.{most_bytes, most_listed}
use Rattle.data_model.specs.Trees.{Trees, Content, Place, find}
use Rattle.data_model.specs.declared.node.Kind.{Kind}
use Rattle.data_model.specs.declared.node.Kind.TheVariants as kind
use Rattle.values.specs.declared.atom.Item.{Item}
use Rattle.values.specs.declared.atom.Item.TheVariants as item

-- no documents, of which the children are copied; no attributes; no texts, which may be merged with others
abbrev pub goes_whole : Kind → Bool
goes_whole kind.Document = false
goes_whole kind.Element = true
goes_whole kind.Attribute = false
goes_whole kind.Text = false
goes_whole kind.Comment = true
goes_whole kind.Instruction = true

-- a node of such a kind, whose text is not too long
abbrev pub is_whole : Content → Bool
is_whole c = goes_whole c.kind && nat_le (length c.text) most_bytes

abbrev pub is_whole_at : Option Place → Bool
is_whole_at None = false
is_whole_at (Some x) = is_whole x.content

-- whether an item is such a node, or all items are
abbrev pub is_whole_item : Trees → Item → Bool
is_whole_item ts (item.Node i) = is_whole_at (find i ts)
is_whole_item ts (item.Atomic a) = false

abbrev pub are_whole : Trees → List Item → Bool
are_whole ts [] = true
are_whole ts (x ∷ xs) = is_whole_item ts x && are_whole ts xs

-- not more of them than a node may have below it
abbrev pub go_whole : Trees → List Item → Bool
go_whole ts items = nat_le (length items) most_listed && are_whole ts items

-- the nodes among items
abbrev pub nodes_in : List Item → List ℕ
nodes_in [] = []
nodes_in (item.Node i ∷ xs) = i ∷ nodes_in xs
nodes_in (item.Atomic a ∷ xs) = nodes_in xs
