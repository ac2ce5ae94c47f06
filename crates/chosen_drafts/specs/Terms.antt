-- What a draft of a forest, or of some trees of it, is to its callers.
use Rattle.std.specs.Prelude.{ℕ, List, Option, Some, None, refl}
use Rattle.std.specs.Coded.{Coded, code_by, coded×, coded_ℕ, coded_list, coded_option}
use Rattle.data_model.specs.Trees.{Trees, no_trees, coded_trees}
use Rattle.trees.specs.Forest.{ForestTerm, forest_code}
use Rattle.trees.specs.Drafts.{DraftTerm}
use Rattle.update_meaning.specs.Changed.{rooted_at, in_places}
use Rattle.chosen_drafts.specs.Chosen.{others}

-- the forest that was drafted, the trees that are to be seen as they are to be, the next identity that the forest is to have, and the roots of these
-- trees; where there are none, all trees are to be seen
pub record ChosenTerm : Type 0 where
  pub before : ForestTerm
  pub after : Trees
  pub next : ℕ
  pub roots : Option (List ℕ)

abbrev pub chosen_code : Coded ChosenTerm
chosen_code =
    code_by (ForestTerm × (Trees × (ℕ × Option (List ℕ)))) (coded× forest_code (coded× coded_trees (coded× coded_ℕ (coded_option (coded_list coded_ℕ))))) (λ d. (d.before, (d.after, (d.next, d.roots))))
    (λ p. record { before = p.0; after = p.1.0; next = p.1.1.0; roots = p.1.1.1 }) (λ _. refl)

-- the trees of a forest that are not to be seen
abbrev pub beside : Option (List ℕ) → Trees → Trees
beside None ts = no_trees
beside (Some is) ts = others is ts

abbrev pub hidden : ChosenTerm → Trees
hidden d = beside d.roots d.before.trees

-- all trees of the forest, with those that are to be seen in their places
abbrev pub all_with : Option (List ℕ) → Trees → Trees → Trees
all_with None ts us = us
all_with (Some is) ts us = in_places (rooted_at is) ts us

abbrev pub whole_draft : ChosenTerm → DraftTerm
whole_draft d = record { before = d.before; after = all_with d.roots d.before.trees d.after; next = d.next }
