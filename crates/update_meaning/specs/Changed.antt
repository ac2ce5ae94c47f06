-- What a list of primitives makes of those trees that it changes: of a store the trees of documents, in an evaluation some copies (XQuery Update
-- Facility 1.0, sections 2.4.5 and 3.2.2).
use Rattle.std.specs.Prelude.{ℕ, Bool, if◌then◌else◌, List, Result, Ok, Err}
use Rattle.data_model.specs.Trees.{Trees, no_trees, tree, Content, append}
use Rattle.data_model.specs.Tidy.{is_document}
use Rattle.trees.specs.Forest.{ForestTerm}
use Rattle.pending.specs.Compatible.{is_among}
use Rattle.pending.specs.Primitives.{PrimitiveTerm}
use Rattle.fault_codes.specs.declared.code.Code.{Code}
use Rattle.update_meaning.specs.Effects.{staged}
use Rattle.update_meaning.specs.Results.{all_merged, all_filled, judged, with_trees}

-- which trees are changed, by what their roots say
abbrev pub Choice : Type 0
Choice = Content → Bool

-- those of documents
abbrev pub of_documents : Choice
of_documents c = is_document c.kind

-- those whose roots have these identities
abbrev pub rooted_at : List ℕ → Choice
rooted_at is c = is_among is c.identity

-- these trees alone
abbrev pub chosen : Choice → Trees → Trees
chosen is_chosen no_trees = no_trees
chosen is_chosen (tree c bs cs rest) = if is_chosen c then tree c bs cs (chosen is_chosen rest) else chosen is_chosen rest

-- all trees, of which these are as g makes each of them
abbrev pub each_chosen : Choice → (Trees → Trees) → Trees → Trees
each_chosen is_chosen g no_trees = no_trees
each_chosen is_chosen g (tree c bs cs rest) = append (if is_chosen c then g (tree c bs cs no_trees) else tree c bs cs no_trees) (each_chosen is_chosen g rest)

-- Below the roots adjacent texts are one, with the first one's identity, and then empty ones are gone. A root has no neighbours, and stays.
abbrev pub tidied_below : Trees → Trees
tidied_below no_trees = no_trees
tidied_below (tree c bs cs rest) = tree c (all_filled (all_merged bs)) (all_filled (all_merged cs)) (tidied_below rest)

-- trees after a list of primitives: stage by stage, then tidied
abbrev pub changed : List PrimitiveTerm → Trees → Trees
changed ps ts = tidied_below (staged ps ts)

-- all trees, of which some are changed by a list of primitives
abbrev pub with_changed : Choice → List PrimitiveTerm → Trees → Trees
with_changed is_chosen ps ts = each_chosen is_chosen (changed ps) ts

-- The trees that are changed, after a list of primitives, or the code by which they are refused. They are judged, and no others.
abbrev pub updated_chosen : Choice → List PrimitiveTerm → Trees → Result Trees Code
updated_chosen is_chosen ps ts = judged (chosen is_chosen (with_changed is_chosen ps ts))

-- a store after a list of primitives, or the code: nothing but the trees of documents is left of it
abbrev pub updated_store : List PrimitiveTerm → Trees → Result Trees Code
updated_store = updated_chosen of_documents

-- those trees, or the code that there is in the place of others
abbrev pub or_code : Result Trees Code → Trees → Result Trees Code
or_code (Ok us) ts = Ok ts
or_code (Err code) ts = Err code

-- The trees of an evaluation after a list of primitives that changes the copies with these roots, or the code: all other trees stay.
abbrev pub updated_copies : List ℕ → List PrimitiveTerm → Trees → Result Trees Code
updated_copies is ps ts = or_code (updated_chosen (rooted_at is) ps ts) (with_changed (rooted_at is) ps ts)

-- the forest of an evaluation then, with the next identity of the evaluation that gave the primitives
abbrev pub applied_to_copies : List ℕ → List PrimitiveTerm → (next : ℕ) → ForestTerm → Result ForestTerm Code
applied_to_copies is ps next f = with_trees f next (updated_copies is ps f.trees)

-- the first of these trees, and those after it
abbrev pub first_of : Trees → Trees
first_of no_trees = no_trees
first_of (tree d es ds more) = tree d es ds no_trees

abbrev pub after_first : Trees → Trees
after_first no_trees = no_trees
after_first (tree d es ds more) = more

-- all trees, with the trees us in the places of those that are chosen, one after the other
abbrev pub in_places : Choice → Trees → Trees → Trees
in_places is_chosen no_trees us = no_trees
in_places is_chosen (tree c bs cs rest) us = if is_chosen c then append (first_of us) (in_places is_chosen rest (after_first us)) else tree c bs cs (in_places is_chosen rest us)
