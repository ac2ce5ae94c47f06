-- Variables as a chain.
use Rattle.std.specs.Prelude.{◌≤◌, List, [], ◌∷◌, length}
use Rattle.std.specs.List.{All}
use Rattle.query_meaning.specs.Environment.{Bound}
use Rattle.query_meaning.specs.Running.{most_items}
use Rattle.evaluation.specs.declared.environment.Link.{Link}
use Rattle.evaluation.specs.declared.environment.Link.TheVariants.{End, More}
use Rattle.evaluation.specs.declared.environment.Variables.TheInside.{Inside}

abbrev pub variables_of : Link → List Bound
variables_of End = []
variables_of (More b) = record { variable = b.value.name; items = b.value.items } ∷ b.value.others

-- no variable has a value of too many items
abbrev pub HasFew : Inside → Type 0
HasFew a = All (λ b. length b.items ≤ most_items) (variables_of a.last)
