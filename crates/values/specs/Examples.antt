-- The data of the worked examples.
use Rattle.std.specs.Prelude.{ℕ, List, [], ◌∷◌, ℤ, pos, neg_ℤ, codes, ◌^◌}
use Rattle.data_model.specs.Trees.{Trees, no_trees, tree, leaf}
use Rattle.data_model.specs.declared.node.Kind.TheVariants as kind
use Rattle.values.specs.declared.atom.Atom.{Atom}
use Rattle.values.specs.declared.atom.Atom.TheVariants.{String, Untyped, Integer}

-- one untyped value, one string and one integer
abbrev pub untyped : List ℕ → List Atom
untyped text = Untyped text ∷ []

abbrev pub string : List ℕ → List Atom
string text = String text ∷ []

abbrev pub integer : ℤ → List Atom
integer z = Integer z ∷ []

-- the least integer
abbrev pub minimum : ℤ
minimum = neg_ℤ (pos (2 ^ 63))

-- a document 1, whose element 2 has an attribute 3 with each character that is escaped and a text 4; and an empty document 5
abbrev pub trees : Trees
trees =
    tree (record { identity = 1; kind = kind.Document; name = []; text = [] }) no_trees
    (tree (record { identity = 2; kind = kind.Element; name = codes "e"; text = [] }) (leaf (record { identity = 3; kind = kind.Attribute; name = codes "n"; text = 34 ∷ 38 ∷ 9 ∷ 10 ∷ 13 ∷ [] }))
    (leaf (record { identity = 4; kind = kind.Text; name = []; text = codes "t" })) no_trees) (leaf (record { identity = 5; kind = kind.Document; name = []; text = [] }))
