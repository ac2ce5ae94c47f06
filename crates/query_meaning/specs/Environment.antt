-- The context of an expression (XQuery 1.0, section 2.1.2).
use Rattle.std.specs.Prelude.{ℕ, suc, List, ◌∷◌, [], Option, Some, None, if◌then◌else◌, refl}
use Rattle.std.specs.Coded.{Coded, code_by, coded×, coded_ℕ, coded_list, coded_option}
use Rattle.std.specs.Str.{bytes_eq}
use Rattle.values.specs.contracts.atom.Item as of_item
use Rattle.values.specs.declared.atom.Item.{Item}

-- the context item, its position and the context size
pub record Focus : Type 0 where
  pub item : Item
  pub position : ℕ
  pub size : ℕ

-- a variable and its value
pub record Bound : Type 0 where
  pub variable : List ℕ
  pub items : List Item

-- the focus, where there is one, and the variables, the one that was bound last first
pub record Environment : Type 0 where
  pub focus : Option Focus
  pub variables : List Bound

abbrev pub bound_code : Coded Bound
bound_code = code_by (List ℕ × List Item) (coded× (coded_list coded_ℕ) (coded_list of_item.the_row.coded)) (λ b. (b.variable, b.items)) (λ p. record { variable = p.0; items = p.1 }) (λ _. refl)

abbrev pub focus_code : Coded Focus
focus_code = code_by (Item × (ℕ × ℕ)) (coded× of_item.the_row.coded (coded× coded_ℕ coded_ℕ)) (λ f. (f.item, (f.position, f.size))) (λ p. record { item = p.0; position = p.1.0; size = p.1.1 }) (λ _. refl)

abbrev pub environment_code : Coded Environment
environment_code =
    code_by (Option Focus × List Bound) (coded× (coded_option focus_code) (coded_list bound_code)) (λ e. (e.focus, e.variables)) (λ p. record { focus = p.0; variables = p.1 }) (λ _. refl)

-- nothing is known
abbrev pub no_environment : Environment
no_environment = record { focus = None; variables = [] }

-- a variable's value: the one that was bound last counts
abbrev pub value_in : (variable : List ℕ) → List Bound → Option (List Item)
value_in x [] = None
value_in x (b ∷ bs) = if bytes_eq x b.variable then Some b.items else value_in x bs

-- how many variables are looked at for it: those that were bound after it, and itself
abbrev pub looked_at : (variable : List ℕ) → List Bound → ℕ
looked_at x [] = 0
looked_at x (b ∷ bs) = if bytes_eq x b.variable then 1 else suc (looked_at x bs)

abbrev pub with_variable : (variable : List ℕ) → List Item → Environment → Environment
with_variable x items env = record env { variables = record { variable = x; items = items } ∷ env.variables }

-- with a context item, the one of that index among so many
abbrev pub with_focus : Item → (index size : ℕ) → Environment → Environment
with_focus x i n env = record env { focus = Some (record { item = x; position = i; size = n }) }
