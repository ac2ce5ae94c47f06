-- What a shelf is to its callers: the trees of a lent forest, then those of an own one.
use Rattle.std.specs.Prelude.{◌≡◌, ℕ, ◌≤◌, ◌<◌, [], refl}
use Rattle.std.specs.Coded.{Coded, code_by, coded×}
use Rattle.data_model.specs.Trees.{Trees, append, count}
use Rattle.trees.specs.Forest.{ForestTerm, forest_code, IsForest}

pub record ShelfTerm : Type 0 where
  pub lent : ForestTerm
  pub own : ForestTerm

abbrev pub shelf_code : Coded ShelfTerm
shelf_code = code_by (ForestTerm × ForestTerm) (coded× forest_code forest_code) (λ s. (s.lent, s.own)) (λ p. record { lent = p.0; own = p.1 }) (λ _. refl)

-- both forests' trees, seen as one list
abbrev pub shelf_trees : ShelfTerm → Trees
shelf_trees s = append s.lent.trees s.own.trees

-- the forest v has no documents, and its identities come after all of the forest u's
pub record ComesAfter (u v : ForestTerm) : Type 0 where
  pub documents : v.documents ≡ []
  pub later : u.next ≤ v.next
  pub apart : (i : ℕ) → 0 < count i v.trees → u.next ≤ i

-- identities are distinct and below the next one, and the own forest's come after the lent one's
pub record IsShelf (s : ShelfTerm) : Type 0 where
  pub distinct : (i : ℕ) → count i (shelf_trees s) ≤ 1
  pub below : (i : ℕ) → 0 < count i (shelf_trees s) → i < s.own.next
  pub lent : IsForest s.lent
  pub own : IsForest s.own
  pub after : ComesAfter s.lent s.own
