-- Environments with variables more.
use Rattle.std.proofs.Common.{◌≡◌, ℕ, zero, suc, ◌+◌, pos, List, [], ◌∷◌, Option, None, Some, sym, Ok, arith, subst}
use Rattle.std.specs.List.{All}
use Rattle.std.specs.Option.{ForSome}
use Rattle.values.specs.Items.{IsThere}
use Rattle.values.specs.declared.atom.Atom.{Atom}
use Rattle.values.specs.declared.atom.Atom.TheVariants as atom
use Rattle.values.specs.declared.atom.Item.{Item}
use Rattle.query_meaning.specs.Environment.{Bound}
use Rattle.query_meaning.specs.Running.{Run, trees_of}
use Rattle.evaluation.specs.Gives.{Stand, IsReady, Turns}
use Rattle.query_meaning.specs.Sequences.{one}
use Rattle.clause_walks.specs.Walked.{Rebinds, RebindsAt, and_position, with_variables}
use Rattle.item_expressions.proofs.Returned.{grows_turned}
use Rattle.item_expressions.specs.Lasting.{there_on, ready_on}
use Rattle.query_meaning.specs.Environment.{Environment, with_variable}
use Rattle.values.specs.declared.atom.Item.TheVariants as item

-- with one variable more
pub ready_with : (x : List ℕ) (items : List Item) (env : Environment) (run : Run) → IsReady env run → Stand items run → IsReady (with_variable x items env) run
ready_with x items env run ready stand = record { focus = ready.focus; variables = all }
  where
    all : All (λ b. Stand b.items run) (record { variable = x; items = items } ∷ env.variables)
    all zero d below = stand
    all (suc k) d below = ready.variables k d (omega (arith, below))

-- one item
pub one_there : (x : Item) (run : Run) → IsThere (trees_of run) x → Stand (x ∷ []) run
one_there x run there zero d below = there
one_there x run there (suc k) d below = absurd (omega (arith, below))

-- an atomic value stands anywhere
pub one_stands : (a : Atom) (run : Run) → Stand (item.Atomic a ∷ []) run
one_stands a run zero d below = tt
one_stands a run (suc k) d below = absurd (omega (arith, below))

-- with an item and its position
ready_at_item : (x : List ℕ) (at : Option (List ℕ)) (i : ℕ) (item : Item) (env : Environment) (run : Run) → IsReady env run → IsThere (trees_of run) item
    → IsReady (with_variables (and_position at i (record { variable = x; items = item ∷ [] } ∷ env.variables)) env) run
ready_at_item x None i item env run ready there = ready_with x (item ∷ []) env run ready (one_there item run there)
ready_at_item x (Some at) i item env run ready there =
    ready_with at (one (atom.Integer (pos (i + 1)))) (with_variable x (item ∷ []) env) run (ready_with x (item ∷ []) env run ready (one_there item run there)) (one_stands (atom.Integer (pos (i + 1))) run)

-- where no position is bound
pub without_position : (x : List ℕ) (at : Option (List ℕ)) (others : List Bound) (o : Option (List Bound)) → at ≡ None → ForSome o (RebindsAt x at others) → ForSome o (Rebinds x others)
without_position x at others o is h = λ bs found. subst (λ at. RebindsAt x at others bs) is (h bs found)

pub ready_in_turn : (x : List ℕ) (at : Option (List ℕ)) (i : ℕ) (item : Item) (env : Environment) (bs : List Bound) (old new : Run) (u : Unit {0}) → IsReady env old → IsThere (trees_of old) item
    → Turns (Ok u) old new → bs ≡ and_position at i (record { variable = x; items = item ∷ [] } ∷ env.variables) → IsReady (with_variables bs env) new
ready_in_turn x at i item env bs old new u ready there turned is =
    let grown = grows_turned old new u turned in
    subst (λ bs. IsReady (with_variables bs env) new) (sym is) (ready_at_item x at i item env new (ready_on env old new grown ready) (there_on item old new grown there))
