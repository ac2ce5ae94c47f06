-- Primitives in a list of their own.
use Rattle.std.proofs.Common.{◌≡◌, ◌≤◌, ◌<◌, ℕ, List, [], sym, ap, ◌∙◌, subst}
use Rattle.std.specs.List.{All}
use Rattle.std.specs.Prelude.{length}
use Rattle.data_model.specs.Trees.{append, count}
use Rattle.trees.specs.Forest.{ForestTerm}
use Rattle.shelves.specs.Shelf.{IsShelf}
use Rattle.pending.specs.Primitives.{PrimitiveTerm}
use Rattle.update_meaning.specs.Brought.{new_trees}
use Rattle.query_meaning.specs.Environment.{Bound, Environment}
use Rattle.query_meaning.specs.Running.{Run, most_items, trees_of}
use Rattle.meaning_laws.specs.Given.{IsKnown}
use Rattle.evaluation.specs.Gives.{IsReady}
use Rattle.query_copies.specs.Kept.{Bring}
use Rattle.query_copies.proofs.Ready.{known}

-- what a law says of a run and the one after it, of which only the second has primitives
abbrev pub BringsNew : Run → Run → Type 0
BringsNew run after =
    (i : ℕ) → (count i (append (trees_of after) (new_trees after.primitives)) ≤ 1)
    × (0 < count i (append after.shelf.own.trees (new_trees after.primitives)) → (run.shelf.lent.next ≤ i) × (i < after.shelf.own.next))

module _ (old bare : Run) (without : bare ≡ record old { primitives = [] }) where
  pub ready_bare : (env : Environment) → IsReady env old → IsReady env bare
  ready_bare env ready = subst (IsReady env) (sym without) (record { focus = ready.focus; variables = ready.variables })

  pub bare_shelf : IsShelf old.shelf → IsShelf bare.shelf
  bare_shelf h = let P : Run → Type 0 = λ run. IsShelf run.shelf in subst P (sym without) h

  pub bare_known : (env : Environment) → IsReady env old → All (λ (b : Bound). length b.items ≤ most_items) env.variables → IsKnown (trees_of bare) env
  bare_known env ready few = known bare env (ready_bare env ready) few

  pub bare_list : bare.primitives ≡ []
  bare_list = ap (λ run. run.primitives) without

  -- the primitives are taken out, and the others put back
  module _ (full left new : Run) (own outer : List PrimitiveTerm) (taken : outer ≡ old.primitives) (given : own ≡ full.primitives) (none : left ≡ record full { primitives = [] }) (put : new ≡ record left { primitives = outer }) where
    last : new ≡ record full { primitives = old.primitives }
    last = put ∙ ap (λ (run : Run). record run { primitives = outer }) none ∙ ap (λ (ps : List PrimitiveTerm). record full { primitives = ps }) taken

    pub own_brings : full.shelf.lent ≡ bare.shelf.lent → BringsNew bare full → Bring own new
    own_brings lent law =
        let P : List PrimitiveTerm → Type 0 = λ ps. Bring ps new in
        subst P (sym given) (subst (Bring full.primitives) (sym last) (record {
          distinct = λ i. (law i).0;
          later = λ i there. subst (λ (f : ForestTerm). f.next ≤ i) (sym lent) (((law i).1 there).0);
          below = λ i there. ((law i).1 there).1;
        }))
