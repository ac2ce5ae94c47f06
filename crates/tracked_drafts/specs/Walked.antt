-- Nodes that are noted, each before what is below it.
use Rattle.std.specs.Prelude.{◌≡◌, ◌≤◌, ◌<◌, ℕ, ◌+◌, cond, eqb, List, [], ◌∷◌, take, drop}
use Rattle.std.specs.List.{sum_by}
use Rattle.data_model.specs.Changes.{pick}
use Rattle.data_model.specs.Trees.{Trees, weigh, count}

-- no number stands twice in the list
abbrev pub AreApart : List ℕ → Type 0
AreApart is = (i : ℕ) → sum_by (λ j. cond (eqb i j) 1 0) is ≤ 1

-- what w sums over the trees of some nodes
abbrev pub below : (ℕ → ℕ) → List ℕ → Trees → ℕ
below w [] ts = 0
below w (i ∷ is) ts = weigh w (pick i ts) + below w is ts

-- all of these stand in the trees
abbrev pub AreThere : List ℕ → Trees → Type 0
AreThere [] ts = Unit {0}
AreThere (i ∷ is) ts = (0 < count i ts) × AreThere is ts

-- Of the noted nodes so many are done, with their lists noted too; of the others all is left that is below them. Together that is the trees us.
pub record Walked (ts us : Trees) (noted : List ℕ) (done : ℕ) : Type 0 where
  pub same : (w : ℕ → ℕ) → sum_by w (take done noted) + below w (drop done noted) ts ≡ weigh w us
  pub there : AreThere (drop done noted) ts
