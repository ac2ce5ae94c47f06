-- Plans as lists of changes.
use Rattle.std.proofs.Common.{◌≡◌, ℕ, List, [], ◌∷◌, ◌++◌, refl, Option}
use Rattle.node_table.specs.declared.table.Row.{Row}
use Rattle.node_table.specs.declared.exchange.Change.{Change}
use Rattle.node_table.specs.Plans.{changed, over}

-- a change that is added is made last
pub over-added : (ps : List Change) (p : Change) (f : ℕ → Option Row) → over (ps ++ p ∷ []) f ≡ changed p.id p.row (over ps f)
over-added [] p f = refl
over-added (q ∷ ps) p f = over-added ps p (changed q.id q.row f)
