-- A forest with a planted tree.
use Rattle.std.proofs.Common.{◌≡◌, ℕ, ◌+◌, ◌≤◌, ◌<◌, refl, sym, ◌∙◌, arith, ⊎_elim, subst, max, ◌^◌, Option, None}
use Rattle.data_model.specs.Trees.{Trees, append, count, size}
use Rattle.data_model.specs.Changes.{ranked}
use Rattle.data_model.specs.Tree.{TreeTerm, trees_of_tree}
use Rattle.data_model.specs.Planted.{past}
use Rattle.node_table.specs.Flat.{Entry, Table, Holds, IsTableOf, IsDocumentEntry}
use Rattle.trees.specs.Forest.{ForestTerm}
use Rattle.trees.specs.Inside.{AreStanding, IsSound, term_of}
use Rattle.node_table.specs.Rows.{table_of}
use Rattle.trees.specs.declared.forest.Forest.TheInside.{Inside}
use Rattle.data_model.proofs.Weights.{weigh-append}
use Rattle.node_table.proofs.Takes.{weigh-ranked}
use Rattle.data_model.proofs.Climbs.{AreDistinct, any-tells}
use Rattle.trees.proofs.Forests.{standing-kept, now-table, now-nodes}
use Rattle.node_table.proofs.Entries.{empty-entry}
use Rattle.node_table.proofs.Plants.{IsTableOf-planted, below-past, past-most, size-within-identities}

-- ---- the forest with a planted tree
module _ (a : Inside) (v : ForestTerm) (is : term_of a ≡ v) (h : IsSound a) (t : TreeTerm) (d : (i : ℕ) → count i (append v.trees (trees_of_tree t)) ≤ 1) (below : (i : ℕ) → 0 < count i (trees_of_tree t) → i < 2 ^ 62) where
  abbrev us : Trees
  us = trees_of_tree t

  pub plant-apart : (i : ℕ) → count i v.trees + count i us ≤ 1
  plant-apart i = let sum : count i (append v.trees us) ≡ count i v.trees + count i us = weigh-append _ v.trees us in let l = d i in omega arith

  pub plant-distinct : AreDistinct us
  plant-distinct i = let l = plant-apart i in omega arith

  pub plant-size : size us ≤ 2 ^ 62
  plant-size = size-within-identities (2 ^ 62) us plant-distinct below

  pub plant-past : past us ≤ 2 ^ 62
  plant-past = past-most (2 ^ 62) us below

  pub plant-nodes : a.nodes + size us ≡ size (ranked t.content.identity us v.trees)
  plant-nodes = let n = now-nodes a v is h in let w = weigh-ranked (λ _. 1) t.content.identity us v.trees in omega arith

  pub plant-fresh : (i : ℕ) → 0 < count i us → table_of a.rows i ≡ None
  plant-fresh i there = (let l = plant-apart i in let none : count i v.trees ≡ 0 = omega arith in empty-entry (table_of a.rows i) (sym none ∙ (now-table a v is h).counted i))

  module _ (g : Table) (holds : Holds g None us) (same : (i : ℕ) → count i us ≡ 0 → g i ≡ table_of a.rows i) where
    within : (i : ℕ) → 0 < count i us → i < max a.next (past us)
    within i there = let l = below-past i us there in omega arith

    pub plant-table : IsTableOf g (max a.next (past us)) (ranked t.content.identity us v.trees)
    plant-table = IsTableOf-planted (table_of a.rows) g a.next (max a.next (past us)) v.trees us t.content.identity (now-table a v is h) refl (omega arith) within plant-apart holds same

    pub plant-standing : AreStanding g a.documents.entries
    plant-standing =
        let P : Option Entry → Type 0 = IsDocumentEntry in
        standing-kept (table_of a.rows) g a.documents.entries
        (λ i doc. ⊎_elim (λ t. absurd (subst P (plant-fresh i t.1) doc)) (λ t. subst P (sym (same i t.1)) doc) (any-tells (count i us))) h.standing
