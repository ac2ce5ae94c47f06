-- Environments whose nodes stand.
use Rattle.std.proofs.Common.{◌≤◌, ℕ, List, [], ◌∷◌, length, map, None, IsSome, arith}
use Rattle.std.specs.List.{All}
use Rattle.std.proofs.lemmas.List.Elements.{All-append, All-cons, All-head, All-nil, All-tail, All-weaker}
use Rattle.data_model.specs.Trees.{find}
use Rattle.data_model.proofs.Climbs.{find-present, there-counts}
use Rattle.chosen_drafts.specs.Chosen.{IsRoot}
use Rattle.values.specs.Items.{IsThere}
use Rattle.values.specs.declared.atom.Item.{Item}
use Rattle.values.specs.declared.atom.Item.TheVariants as item
use Rattle.query_meaning.specs.Copies.{Copy, bound_to, roots_of, with_copies}
use Rattle.query_meaning.specs.Environment.{Bound, Environment}
use Rattle.query_meaning.specs.Running.{Run, most_items, trees_of}
use Rattle.meaning_laws.specs.Given.{AllStand, IsKnown, Stands}
use Rattle.evaluation.specs.Gives.{Grows, IsReady, Stand}
use Rattle.query_copies.specs.Kept.{AreCopies, Survive}
use Rattle.query_copies.proofs.Adding.{counts_both}

-- ---- where no node is lost
module _ (old new : Run) (grown : Grows old new) where
  there_still : (x : Item) → IsThere (trees_of old) x → IsThere (trees_of new) x
  there_still (item.Node i) h = grown.kept i h
  there_still (item.Atomic a) h = tt

  pub ready_still : (env : Environment) → IsReady env old → IsReady env new
  ready_still env ready = record {
    focus = λ f is. there_still f.item (ready.focus f is);
    variables =
        All-weaker (λ (b : Bound). Stand b.items old) (λ (b : Bound). Stand b.items new) (λ b. All-weaker (IsThere (trees_of old)) (IsThere (trees_of new)) there_still b.items) env.variables ready.variables;
  }

-- ---- with copies
module _ (run : Run) where
  bound_stand : (cs : List Copy) → All (λ i. IsSome (find i (trees_of run))) (roots_of cs) → All (λ (b : Bound). Stand b.items run) (map bound_to cs)
  bound_stand [] h = All-nil (λ (b : Bound). Stand b.items run)
  bound_stand (c ∷ cs) h =
      let P : ℕ → Type 0 = λ i. IsSome (find i (trees_of run)) in
      All-cons (λ (b : Bound). Stand b.items run) (bound_to c) (map bound_to cs) (All-cons (IsThere (trees_of run)) (item.Node c.root) [] (All-head P c.root (roots_of cs) h) (All-nil (IsThere (trees_of run))))
      (bound_stand cs (All-tail P c.root (roots_of cs) h))

  pub ready_inside : (cs : List Copy) (env : Environment) → IsReady env run → All (λ i. IsSome (find i (trees_of run))) (roots_of cs) → IsReady (with_copies cs env) run
  ready_inside cs env ready stand = record {
    focus = ready.focus;
    variables = All-append (λ (b : Bound). Stand b.items run) (map bound_to cs) env.variables (bound_stand cs stand) ready.variables;
  }

  own_stand : (is : List ℕ) → All (IsRoot run.shelf.own.trees) is → All (λ i. IsSome (find i (trees_of run))) is
  own_stand is h =
      All-weaker (IsRoot run.shelf.own.trees) (λ i. IsSome (find i (trees_of run)))
      (λ i r. find-present None i (trees_of run) (omega (arith, there-counts i run.shelf.own.trees r.0, counts_both i run.shelf.lent.trees run.shelf.own.trees))) is h

  -- before they are changed
  pub ready_made : (start : Run) (cs : List Copy) (env : Environment) → IsReady env start → Grows start run → AreCopies start (roots_of cs) run → IsReady (with_copies cs env) run
  ready_made start cs env ready grown h = ready_inside cs env (ready_still start run grown env ready) (own_stand (roots_of cs) h.stand)

  -- and afterwards
  pub ready_survived : (start : Run) (cs : List Copy) (env : Environment) → IsReady env start → Survive start (roots_of cs) run → IsReady (with_copies cs env) run
  ready_survived start cs env ready h = ready_inside cs env (ready_still start run h.grown env ready) h.stand

  -- ---- what is ready is known
  stands : (x : Item) → IsThere (trees_of run) x → Stands (trees_of run) x
  stands (item.Node i) h = there-counts i (trees_of run) h
  stands (item.Atomic a) h = tt

  all_stand : (xs : List Item) → Stand xs run → AllStand (trees_of run) xs
  all_stand [] h = tt
  all_stand (x ∷ xs) h = (stands x (All-head (IsThere (trees_of run)) x xs h), all_stand xs (All-tail (IsThere (trees_of run)) x xs h))

  pub known : (env : Environment) → IsReady env run → All (λ (b : Bound). length b.items ≤ most_items) env.variables → IsKnown (trees_of run) env
  known env ready few = record {
    focus = λ f is. stands f.item (ready.focus f is);
    few = few;
    variables = All-weaker (λ (b : Bound). Stand b.items run) (λ (b : Bound). AllStand (trees_of run) b.items) (λ b. all_stand b.items) env.variables ready.variables;
  }
