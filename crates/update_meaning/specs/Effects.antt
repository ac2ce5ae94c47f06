-- What update primitives do to trees (XQuery Update Facility 1.0, sections 3.1.1 and 3.2.2).
use Rattle.std.specs.Prelude.{◌≡◌, ℕ, cond, eqb, ◌==◌, List, [], ◌∷◌, filter}
use Rattle.data_model.specs.Trees.{Trees, no_trees, tree, append, count}
use Rattle.data_model.specs.Changes.{with_children, with_attributes, with_content}
use Rattle.pending.specs.Primitives.{PrimitiveTerm, insert_before, insert_after, insert_into, insert_into_as_first, insert_into_as_last, insert_attributes, delete, replace_node, replace_value, replace_element_content, rename}

-- the trees in which the tree of the node i is replaced by what g makes of it, in the list in which it stands
abbrev pub with_tree : ℕ → (Trees → Trees) → Trees → Trees
with_tree i g no_trees = no_trees
with_tree i g (tree c bs cs rest) =
    cond (eqb i c.identity) (append (g (tree c bs cs no_trees)) (with_tree i g rest)) (tree c (with_tree i g bs) (with_tree i g cs) (with_tree i g rest))

-- the same below the roots alone: a node with no parent stands in no list
abbrev pub with_tree_below : ℕ → (Trees → Trees) → Trees → Trees
with_tree_below i g no_trees = no_trees
with_tree_below i g (tree c bs cs rest) = tree c (with_tree i g bs) (with_tree i g cs) (with_tree_below i g rest)

-- The trees after one primitive: the one list or node that holds the target is rewritten, and where the target stands nowhere, nothing is.
abbrev pub effect : PrimitiveTerm → Trees → Trees
effect (insert_before i us) = with_tree_below i (λ t. append us t)
effect (insert_after i us) = with_tree_below i (λ t. append t us)
effect (insert_into i us) = with_children i (λ cs. append cs us)
effect (insert_into_as_first i us) = with_children i (λ cs. append us cs)
effect (insert_into_as_last i us) = with_children i (λ cs. append cs us)
effect (insert_attributes i us) = with_attributes i (λ bs. append bs us)
effect (delete i) = with_tree_below i (λ t. no_trees)
effect (replace_node i us) = with_tree_below i (λ t. us)
effect (replace_value i text) = with_content i (λ c. record c { text = text })
effect (replace_element_content i us) = with_children i (λ cs. us)
effect (rename i name) = with_content i (λ c. record c { name = name })

-- the trees after primitives, one after the other
abbrev pub effects : List PrimitiveTerm → Trees → Trees
effects [] ts = ts
effects (p ∷ ps) ts = effects ps (effect p ts)

-- the stage in which a primitive takes effect (section 3.2.2)
abbrev pub stage_of : PrimitiveTerm → ℕ
stage_of (insert_into i us) = 1
stage_of (insert_attributes i us) = 1
stage_of (replace_value i text) = 1
stage_of (rename i name) = 1
stage_of (insert_before i us) = 2
stage_of (insert_after i us) = 2
stage_of (insert_into_as_first i us) = 2
stage_of (insert_into_as_last i us) = 2
stage_of (replace_node i us) = 3
stage_of (replace_element_content i us) = 4
stage_of (delete i) = 5

-- the primitives of a stage, in list order (our own choice)
abbrev pub of_stage : ℕ → List PrimitiveTerm → List PrimitiveTerm
of_stage n ps = filter (λ p. n == stage_of p) ps

-- the trees after a list of primitives: stage by stage
abbrev pub staged : List PrimitiveTerm → Trees → Trees
staged ps ts = effects (of_stage 5 ps) (effects (of_stage 4 ps) (effects (of_stage 3 ps) (effects (of_stage 2 ps) (effects (of_stage 1 ps) ts))))

-- the node that a primitive is to change
abbrev pub target_of : PrimitiveTerm → ℕ
target_of (insert_before i us) = i
target_of (insert_after i us) = i
target_of (insert_into i us) = i
target_of (insert_into_as_first i us) = i
target_of (insert_into_as_last i us) = i
target_of (insert_attributes i us) = i
target_of (delete i) = i
target_of (replace_node i us) = i
target_of (replace_value i text) = i
target_of (replace_element_content i us) = i
target_of (rename i name) = i

-- no target of theirs stands in the trees
abbrev pub StandNowhere : List PrimitiveTerm → Trees → Type 0
StandNowhere [] ts = Unit {0}
StandNowhere (p ∷ ps) ts = (count (target_of p) ts ≡ 0) × StandNowhere ps ts
