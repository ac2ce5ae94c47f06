-- Texts where they stand, and what a step of tidying leaves.
use Rattle.std.specs.Prelude.{◌≡◌, ◌⊎◌, ℕ, ◌+◌, ◌<◌, ◌^◌, Bool, true, false, ◌++◌, List, [], ◌∷◌, if◌then◌else◌, Option, Some, None}
use Rattle.std.specs.List.{slice_get}
use Prim.Native.Nat.{suc}
use Rattle.data_model.specs.Changes.{part_of}
use Rattle.data_model.specs.Trees.{Trees, no_trees, tree, Place, find, parent_of, is_text}
use Rattle.tracked_drafts.specs.Tests.{all_but, is_apart, is_filled}
use Rattle.update_meaning.specs.Results.{all_merged, all_filled}
use Rattle.apply.specs.declared.site.Site.{Site}

-- below the roots adjacent texts are one, with the first one's identity
abbrev pub merged_below : Trees → Trees
merged_below no_trees = no_trees
merged_below (tree c bs cs rest) = tree c (all_merged bs) (all_merged cs) (merged_below rest)

-- below the roots empty texts are gone
abbrev pub filled_below : Trees → Trees
filled_below no_trees = no_trees
filled_below (tree c bs cs rest) = tree c (all_filled bs) (all_filled cs) (filled_below rest)

-- a text stands at the place
abbrev pub is_text_at : Option Place → Bool
is_text_at None = false
is_text_at (Some x) = is_text x.content.kind

-- what the node there says
abbrev pub text_at : Option Place → List ℕ
text_at None = []
text_at (Some x) = x.content.text

-- with how many texts a list of nodes begins
abbrev pub first_texts : Trees → List ℕ → ℕ
first_texts ts [] = 0
first_texts ts (i ∷ is) = if is_text_at (find i ts) then suc (first_texts ts is) else 0

-- what nodes say, one after the other
abbrev pub texts_of : Trees → List ℕ → List ℕ
texts_of ts [] = []
texts_of ts (i ∷ is) = text_at (find i ts) ++ texts_of ts is

-- i is a text, and p is its parent
pub record IsTextBelow (p i : ℕ) (ts : Trees) : Type 0 where
  pub text : is_text_at (find i ts) ≡ true
  pub parent : parent_of i ts ≡ Some p

-- i is no text, or has no parent
abbrev pub IsNoTextBelow : ℕ → Trees → Type 0
IsNoTextBelow i ts = (is_text_at (find i ts) ≡ false) ⊎ (parent_of i ts ≡ None)

-- i is a text, and stands there; the next place is a number that a machine holds
pub record IsTextAt (site : Site) (i : ℕ) (ts : Trees) : Type 0 where
  pub text : is_text_at (find i ts) ≡ true
  pub place : slice_get (part_of site.part site.parent ts) site.at ≡ Some i
  pub room : site.at + 1 < 2 ^ 64

-- the trees ts become us, which merge into the same below the roots, and in which no text comes right after i there; other texts are apart as they were
pub record Merges (i : ℕ) (ts us : Trees) : Type 0 where
  pub merged : merged_below us ≡ merged_below ts
  pub apart : (is : List ℕ) → all_but (i ∷ is) is_apart 0 ts ≡ true → all_but is is_apart 0 us ≡ true

-- the same of empty texts, where i is none below the roots
pub record Empties (i : ℕ) (ts us : Trees) : Type 0 where
  pub filled : filled_below us ≡ filled_below ts
  pub others : (is : List ℕ) → all_but (i ∷ is) is_filled 0 ts ≡ true → all_but is is_filled 0 us ≡ true
