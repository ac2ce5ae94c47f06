-- What is given, in the words of the Data Model (XQuery 1.0 and XPath 2.0 Data Model, sections 2.3 and 2.5): nodes have identities, and stand in trees.
use Rattle.std.specs.Prelude.{◌<◌, ◌≤◌, List, [], ◌∷◌, length}
use Rattle.std.specs.List.{All}
use Rattle.std.specs.Option.{ForSome}
use Rattle.data_model.specs.Trees.{Trees, count}
use Rattle.values.specs.declared.atom.Item.{Item}
use Rattle.values.specs.declared.atom.Item.TheVariants as item
use Rattle.query_meaning.specs.Environment.{Environment}
use Rattle.query_meaning.specs.Running.{most_items}

-- a node stands in the trees; an atomic value stands nowhere
abbrev pub Stands : Trees → Item → Type 0
Stands ts (item.Node i) = 0 < count i ts
Stands ts (item.Atomic a) = Unit {0}

abbrev pub AllStand : Trees → List Item → Type 0
AllStand ts [] = Unit {0}
AllStand ts (x ∷ xs) = Stands ts x × AllStand ts xs

-- what an environment holds stands in the trees, and is not too much
pub record IsKnown (ts : Trees) (env : Environment) : Type 0 where
  pub focus : ForSome env.focus (λ f. Stands ts f.item)
  pub few : All (λ b. length b.items ≤ most_items) env.variables
  pub variables : All (λ b. AllStand ts b.items) env.variables
