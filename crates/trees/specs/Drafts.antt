-- What a draft of a forest is to its callers.
use Rattle.std.specs.Prelude.{ℕ, refl}
use Rattle.std.specs.Coded.{Coded, code_by, coded×, coded_ℕ}
use Rattle.data_model.specs.Trees.{Trees, coded_trees}
use Rattle.trees.specs.Forest.{ForestTerm, forest_code}

-- the forest that was drafted, its trees as they are to be, and the next identity that it is to have
pub record DraftTerm : Type 0 where
  pub before : ForestTerm
  pub after : Trees
  pub next : ℕ

abbrev pub draft_code : Coded DraftTerm
draft_code = code_by (ForestTerm × (Trees × ℕ)) (coded× forest_code (coded× coded_trees coded_ℕ)) (λ d. (d.before, (d.after, d.next))) (λ p. record { before = p.0; after = p.1.0; next = p.1.1 }) (λ _. refl)

-- the forest that the draft is to be
abbrev pub drafted_forest : DraftTerm → ForestTerm
drafted_forest d = record d.before { trees = d.after; next = d.next }
