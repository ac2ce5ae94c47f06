-- Arguments that are evaluated one after the other.
use Rattle.std.specs.Prelude.{List, [], ◌∷◌, ◌++◌}
use Rattle.std.specs.List.{All}
use Rattle.values.specs.declared.atom.Item.{Item}
use Rattle.query_meaning.specs.Environment.{Environment}
use Rattle.query_meaning.specs.Running.{M, Run, pure, ◌>>=◌}
use Rattle.query_meaning.specs.Sequences.{Meaning}
use Rattle.evaluation.specs.Gives.{Stand}

-- the values, and one more
abbrev pub and_argument : Environment → List (List Item) → Meaning → M (List (List Item))
and_argument env given m = m env >>= (λ x. pure (given ++ x ∷ []))

-- the nodes in each value stand
abbrev pub AllStand : List (List Item) → Run → Type 0
AllStand values run = All (λ x. Stand x run) values
