-- The data of the worked examples.
use Rattle.std.specs.Prelude.{ℕ, List, [], codes}
use Rattle.data_model.specs.Trees.{Trees, no_trees, tree, leaf, Content, append}
use Rattle.data_model.specs.declared.node.Kind.TheVariants as kind

abbrev pub element : ℕ → (name : List ℕ) → Content
element i name = record { identity = i; kind = kind.Element; name = name; text = [] }

abbrev pub attribute : ℕ → (name text : List ℕ) → Trees
attribute i name text = leaf (record { identity = i; kind = kind.Attribute; name = name; text = text })

abbrev pub text : ℕ → List ℕ → Trees
text i s = leaf (record { identity = i; kind = kind.Text; name = []; text = s })

-- an empty element
abbrev pub elem : ℕ → (name : List ℕ) → Trees
elem i name = leaf (element i name)

-- an element with attributes and children
abbrev pub filled : ℕ → (name : List ℕ) → Trees → Trees → Trees
filled i name bs cs = tree (element i name) bs cs no_trees

-- the document 1 with those children
abbrev pub document : Trees → Trees
document cs = tree (record { identity = 1; kind = kind.Document; name = []; text = [] }) no_trees cs no_trees

-- one tree after the other
abbrev pub both : Trees → Trees → Trees
both = append

-- element a {attribute k {"1"}, "x"}
abbrev pub a_k_x : Trees
a_k_x = filled 6 (codes "a") (attribute 7 (codes "k") (codes "1")) (text 8 (codes "x"))

-- element a {attribute k {"1"}}
abbrev pub a_k : Trees
a_k = filled 6 (codes "a") (attribute 7 (codes "k") (codes "1")) no_trees

-- element r {attribute p {"1"}, attribute q {"2"}}, with these names
abbrev pub r_of : (p q : List ℕ) → Trees
r_of p q = filled 6 (codes "r") (both (attribute 7 p (codes "1")) (attribute 8 q (codes "2"))) no_trees
