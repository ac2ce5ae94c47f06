-- What the fields of a draft of some trees stand for.
use Rattle.std.specs.Prelude.{◌≡◌, ◌<◌, ℕ, true, List, Some}
use Rattle.data_model.specs.Trees.{count, size}
use Rattle.trees.specs.Drafts.{DraftTerm}
use Rattle.pending.specs.Compatible.{is_among}
use Rattle.update_meaning.specs.Changed.{rooted_at, chosen, in_places}
use Rattle.chosen_drafts.specs.Chosen.{others}
use Rattle.chosen_drafts.specs.Terms.{ChosenTerm}
use Rattle.chosen_drafts.specs.declared.some_trees.SomeTrees.TheInside.{Inside}

-- these trees alone, of the forest that was drafted
abbrev pub shown : List ℕ → DraftTerm → ChosenTerm
shown is d = record { before = d.before; after = chosen (rooted_at is) d.after; next = d.next; roots = Some is }

abbrev pub some_of : Inside → ChosenTerm
some_of a = shown a.roots.items a.draft

-- The nodes that are noted are those of these trees, and of no other. The other trees are as they were, and stand where they stood.
pub record AreTrees (is keys : List ℕ) (left : ℕ) (d : DraftTerm) : Type 0 where
  pub noted : (i : ℕ) → 0 < count i (chosen (rooted_at is) d.after) → is_among keys i ≡ true
  pub apart : (i : ℕ) → is_among keys i ≡ true → count i (others is d.before.trees) ≡ 0
  pub same : others is d.after ≡ others is d.before.trees
  pub placed : d.after ≡ in_places (rooted_at is) d.before.trees (chosen (rooted_at is) d.after)
  pub counted : size (others is d.before.trees) ≡ left

abbrev pub IsOfTrees : Inside → Type 0
IsOfTrees a = AreTrees a.roots.items a.nodes.keys a.others a.draft
