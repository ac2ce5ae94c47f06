-- What the fields of an environment stand for.
use Rattle.std.specs.Prelude.{ℕ, option_map}
use Rattle.values.specs.declared.atom.Item.{Item}
use Rattle.query_meaning.specs.Environment.{Environment, Focus}
use Rattle.evaluation.specs.declared.environment.Focus.{Focus as Lent}
use Rattle.evaluation.specs.declared.environment.Environment.TheInside.{Inside}
use Rattle.evaluation.specs.declared.environment.KeptEnvironment.TheInside.{Inside as Kept}

abbrev pub focus_of : Lent → Focus
focus_of f = record { item = f.item.now; position = f.position; size = f.size }

abbrev pub environment_of : Inside → Environment
environment_of a = record { focus = option_map focus_of a.focus; variables = a.variables.now }

abbrev pub kept_environment_of : Kept → Environment
kept_environment_of a = record { focus = option_map focus_of a.focus; variables = a.variables }

-- the context item
abbrev pub item_in : Focus → Item
item_in f = f.item

-- its position
abbrev pub position_in : Focus → ℕ
position_in f = f.position

-- the context size
abbrev pub size_in : Focus → ℕ
size_in f = f.size
