-- An evaluation that begins at a node of the lent forest.
use Rattle.std.proofs.Common.{◌≡◌, ℕ, [], Option, Some, None, IsSome, arith, subst, sym}
use Rattle.std.proofs.lemmas.Option.{same_Some}
use Rattle.data_model.specs.Trees.{Place, find, first, no_trees}
use Rattle.trees.specs.Forest.{ForestTerm}
use Rattle.trees.proofs.CallerLemmas.{find-append}
use Rattle.values.specs.Items.{IsThere}
use Rattle.values.specs.declared.atom.Item.TheVariants as item
use Rattle.query_meaning.specs.Environment.{Focus, with_focus}
use Rattle.query_meaning.specs.Meaning.{start}
use Rattle.query_meaning.specs.Running.{trees_of}
use Rattle.evaluation.specs.Gives.{IsReady}

some_first : (o : Option Place) → IsSome o → IsSome (first o None)
some_first None there = there
some_first (Some x) there = there

pub ready_at : (lent : ForestTerm) (i : ℕ) → IsSome (find i lent.trees) → IsReady (with_focus (item.Node i) 1 1 (record { focus = None; variables = [] })) (start lent)
ready_at lent i there = record { focus = λ f is. (let P : Focus → Type 0 = λ g. IsThere (trees_of (start lent)) g.item in subst P (same_Some _ _ is) stands); variables = λ k d below. absurd (omega (arith, below)) }
  where
    stands : IsSome (find i (trees_of (start lent)))
    stands = let P : Option Place → Type 0 = λ o. IsSome o in subst P (sym (find-append None i lent.trees no_trees)) (some_first (find i lent.trees) there)
