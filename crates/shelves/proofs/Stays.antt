-- No call of a shelf loses a node.
use Rattle.std.proofs.Common.{◌≡◌, ℕ, ◌+◌, List, ap, sym, ◌∙◌, arith, refl, None, IsSome}
use Rattle.data_model.specs.Trees.{Trees, append, count, find}
use Rattle.data_model.specs.Changes.{taken_out, all_moved_below, CanAllMoveBelow, with_content}
use Rattle.data_model.specs.declared.node.Part.{Part}
use Rattle.shelves.specs.Shelf.{ShelfTerm, IsShelf, shelf_trees}
use Rattle.data_model.proofs.Climbs.{find-present, first-some, there-counts}
use Rattle.data_model.proofs.Weights.{weigh-append, append-append}
use Rattle.node_table.specs.Flat.{with_name, with_text}
use Rattle.trees.proofs.CallerLemmas.{find-append}
use Rattle.node_table.proofs.Contents.{weigh-with_content}
use Rattle.node_table.proofs.Takes.{weigh-taken}
use Rattle.shelves.proofs.Shelves.{count-all-moved}

module _ (s : ShelfTerm) (i : ℕ) (there : IsSome (find i (shelf_trees s))) where
  -- new own trees leave it as it was
  pub stays-more : (us : Trees) (n : ℕ) → find i (shelf_trees (record s { own = record s.own { trees = append s.own.trees us; next = n } })) ≡ find i (shelf_trees s)
  stays-more us n = ap (find i) (sym (append-append s.lent.trees s.own.trees us)) ∙ find-append None i (shelf_trees s) us ∙ first-some (find i (shelf_trees s)) (find i us) there

  -- own trees of the same nodes
  pub stays-weighed : (ts : Trees) → ((j : ℕ) → count j ts ≡ count j s.own.trees) → IsSome (find i (append s.lent.trees ts))
  stays-weighed ts same =
      let before : count i (append s.lent.trees s.own.trees) ≡ count i s.lent.trees + count i s.own.trees = weigh-append _ s.lent.trees s.own.trees in
      let after : count i (append s.lent.trees ts) ≡ count i s.lent.trees + count i ts = weigh-append _ s.lent.trees ts in
      let was = there-counts i (shelf_trees s) there in
      let own = same i in
      find-present None i (append s.lent.trees ts) (omega arith)

  pub stays-taken : (k : ℕ) → IsSome (find i (append s.lent.trees (taken_out k s.own.trees)))
  stays-taken k = stays-weighed (taken_out k s.own.trees) (λ j. weigh-taken _ k s.own.trees)

  pub stays-moved : IsShelf s → (part : Part) (p m : ℕ) (ks : List ℕ) → CanAllMoveBelow part p m ks s.own.trees → IsSome (find i (append s.lent.trees (all_moved_below part p m ks s.own.trees)))
  stays-moved facts part p m ks can = stays-weighed (all_moved_below part p m ks s.own.trees) (λ j. count-all-moved part p m ks s.own.trees facts.own.distinct can j)

  pub stays-named : (k : ℕ) (name : List ℕ) → IsSome (find i (append s.lent.trees (with_content k (λ c. record c { name = name }) s.own.trees)))
  stays-named k name = stays-weighed _ (λ j. weigh-with_content (λ c. record c { name = name }) (with_name name) (record { identity = λ c. refl; entry = λ c p bs cs. refl }) k _ s.own.trees)

  pub stays-texted : (k : ℕ) (text : List ℕ) → IsSome (find i (append s.lent.trees (with_content k (λ c. record c { text = text }) s.own.trees)))
  stays-texted k text = stays-weighed _ (λ j. weigh-with_content (λ c. record c { text = text }) (with_text text) (record { identity = λ c. refl; entry = λ c p bs cs. refl }) k _ s.own.trees)
