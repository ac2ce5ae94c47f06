-- The trees that primitives bring.
use Rattle.std.specs.Prelude.{List, [], ◌∷◌}
use Rattle.data_model.specs.Trees.{Trees, no_trees, append}
use Rattle.pending.specs.Primitives.{PrimitiveTerm, insert_before, insert_after, insert_into, insert_into_as_first, insert_into_as_last, insert_attributes, delete, replace_node, replace_value, replace_element_content, rename}

-- the trees that a primitive brings
abbrev pub trees_of : PrimitiveTerm → Trees
trees_of (insert_before i us) = us
trees_of (insert_after i us) = us
trees_of (insert_into i us) = us
trees_of (insert_into_as_first i us) = us
trees_of (insert_into_as_last i us) = us
trees_of (insert_attributes i us) = us
trees_of (delete i) = no_trees
trees_of (replace_node i us) = us
trees_of (replace_value i text) = no_trees
trees_of (replace_element_content i us) = us
trees_of (rename i name) = no_trees

-- all trees that primitives bring, one after the other
abbrev pub new_trees : List PrimitiveTerm → Trees
new_trees [] = no_trees
new_trees (p ∷ ps) = append (trees_of p) (new_trees ps)
