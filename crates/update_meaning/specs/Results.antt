-- What an update leaves (XQuery Update Facility 1.0, section 3.2.2), and which results are refused.
use Rattle.std.specs.Prelude.{◌≡◌, ℕ, ◌+◌, Bool, true, not, ◌&&◌, if◌then◌else◌, nat_le, List, length, Result, Ok, Err}
use Rattle.data_model.specs.Limits.{most_bytes, most_height, most_listed, most_nodes}
use Rattle.data_model.specs.Trees.{Trees, no_trees, tree, Content, roots, size, height, is_text}
use Rattle.data_model.specs.Tidy.{is_document, begins_with_text, has_distinct_names}
use Rattle.trees.specs.Forest.{ForestTerm}
use Rattle.pending.specs.Primitives.{PrimitiveTerm}
use Rattle.pending.specs.Texts.{before_merged, is_empty_text}
use Rattle.fault_codes.specs.declared.code.Code.{Code}
use Rattle.fault_codes.specs.declared.code.Code.TheVariants.{XUDY0021, PXQ0003}
use Rattle.update_meaning.specs.Effects.{staged}

-- adjacent texts are one, everywhere, with the first one's identity
abbrev pub all_merged : Trees → Trees
all_merged no_trees = no_trees
all_merged (tree c bs cs rest) = before_merged c (all_merged bs) (all_merged cs) (all_merged rest)

-- empty texts are gone, everywhere
abbrev pub all_filled : Trees → Trees
all_filled no_trees = no_trees
all_filled (tree c bs cs rest) = if is_empty_text c then all_filled rest else tree c (all_filled bs) (all_filled cs) (all_filled rest)

-- what stands under no document is gone
abbrev pub stored : Trees → Trees
stored no_trees = no_trees
stored (tree c bs cs rest) = if is_document c.kind then tree c bs cs (stored rest) else stored rest

abbrev pub tidied : Trees → Trees
tidied ts = stored (all_filled (all_merged ts))

-- what tidying sees to: no two texts stand next to each other, no text is empty, and all trees are those of documents
abbrev pub are_apart : Trees → Bool
are_apart no_trees = true
are_apart (tree c bs cs rest) = not (is_text c.kind && begins_with_text rest) && are_apart bs && are_apart cs && are_apart rest

abbrev pub are_filled : Trees → Bool
are_filled no_trees = true
are_filled (tree c bs cs rest) = not (is_empty_text c) && are_filled bs && are_filled cs && are_filled rest

abbrev pub are_documents : Trees → Bool
are_documents no_trees = true
are_documents (tree c bs cs rest) = is_document c.kind && are_documents rest

-- each node passes a test of what it says, its attributes and its children
abbrev pub all_nodes : (Content → Trees → Trees → Bool) → Trees → Bool
all_nodes test no_trees = true
all_nodes test (tree c bs cs rest) = test c bs cs && all_nodes test bs && all_nodes test cs && all_nodes test rest

-- no element has two attributes of one name
abbrev pub has_distinct_attributes : Trees → Bool
has_distinct_attributes = all_nodes (λ c bs cs. has_distinct_names bs)

-- our own limits of a store: the nodes, the height of a tree, the attributes and children of a node together, the text of a node
abbrev pub is_small : Content → Trees → Trees → Bool
is_small c bs cs = nat_le (length (roots bs) + length (roots cs)) most_listed && nat_le (length c.text) most_bytes

abbrev pub is_within_limits : Trees → Bool
is_within_limits ts = nat_le (size ts) most_nodes && nat_le (height ts) most_height && all_nodes is_small ts

-- the trees, or the code by which they are refused; both are judged over the result alone
abbrev pub judged : Trees → Result Trees Code
judged ts =
    if not (has_distinct_attributes ts) then Err XUDY0021
    else if not (is_within_limits ts) then Err PXQ0003
    else Ok ts

-- trees that an update may leave: tidying changes nothing, and they are not refused
abbrev pub IsStored : Trees → Type 0
IsStored ts = judged (tidied ts) ≡ Ok ts

-- the stored trees after a list of primitives, or the code
abbrev pub updated : List PrimitiveTerm → Trees → Result Trees Code
updated ps ts = judged (tidied (staged ps ts))

-- the store after a list of primitives, with the next identity of the evaluation that gave them
abbrev pub with_trees : ForestTerm → (next : ℕ) → Result Trees Code → Result ForestTerm Code
with_trees f next (Ok ts) = Ok (record f { trees = ts; next = next })
with_trees f next (Err code) = Err code

abbrev pub applied : List PrimitiveTerm → (next : ℕ) → ForestTerm → Result ForestTerm Code
applied ps next f = with_trees f next (updated ps f.trees)
