-- Nodes and values among items.
use Rattle.std.proofs.Common.{◌≡◌, ℕ, zero, suc, List, [], ◌∷◌, map, Option, Some, IsSome, sym, ap, Ok, ◌∙◌, arith, subst}
use Rattle.values.specs.declared.atom.Atom.{Atom}
use Rattle.values.specs.declared.atom.Item.{Item}
use Rattle.values.specs.declared.atom.Item.TheVariants as item
use Rattle.data_model.specs.Trees.{find}
use Rattle.shelves.specs.Shelf.{ShelfTerm, shelf_trees}
use Rattle.query_meaning.specs.Operators.{one_node}
use Rattle.query_meaning.specs.Running.{Run, trees_of}
use Rattle.evaluation.specs.Gives.{Stand}

-- the node of a sequence of one stands
pub node_there : (xs seen : List Item) (o : Option ℕ) (i : ℕ) (s : ShelfTerm) (run : Run)
    → Ok o ≡ one_node seen → o ≡ Some i → seen ≡ xs → s ≡ run.shelf → Stand xs run → IsSome (find i (shelf_trees s))
node_there xs seen o i s run found is same shelf stand =
    let P : ShelfTerm → Type 0 = λ s. IsSome (find i (shelf_trees s)) in
    subst P (sym shelf) (at xs (sym (ap (λ o. Ok o) (sym is) ∙ found ∙ ap one_node same)) stand)
  where
    at : (ys : List Item) → one_node ys ≡ Ok (Some i) → Stand ys run → IsSome (find i (trees_of run))
    at [] e stand = cc
    at (item.Atomic a ∷ ys) e stand = cc
    at (item.Node j ∷ []) e stand = let P : ℕ → Type 0 = λ i. IsSome (find i (trees_of run)) in let same : i ≡ j = cc in subst P (sym same) (stand zero (item.Node j) (omega arith))
    at (item.Node j ∷ y ∷ ys) e stand = cc

-- atomic values stand anywhere
pub atomic_stand : {A : Type 0} (f : A → Atom) (xs : List A) (run : Run) → Stand (map (λ x. item.Atomic (f x)) xs) run
atomic_stand f [] run k d below = absurd (omega (arith, below))
atomic_stand f (x ∷ xs) run zero d below = tt
atomic_stand f (x ∷ xs) run (suc k) d below = atomic_stand f xs run k d (omega (arith, below))

pub atomic_alone : (a : Atom) (run : Run) → Stand (item.Atomic a ∷ []) run
atomic_alone a run zero d below = tt
atomic_alone a run (suc k) d below = absurd (omega (arith, below))
