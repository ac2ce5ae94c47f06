-- What `return` gives at each item of a `for` clause, one after the other.
use Rattle.std.specs.Prelude.{ℕ, List, [], ◌∷◌, Option, option_map, Result, Ok, Err}
use Rattle.values.specs.declared.atom.Item.{Item}
use Rattle.values.specs.declared.fault.ValueFault.{ValueFault}
use Rattle.query_grammar.specs.declared.ast.Expr.{Expr}
use Rattle.query_meaning.specs.Environment.{Environment, with_variable}
use Rattle.query_meaning.specs.Meaning.{mean}
use Rattle.query_meaning.specs.Running.{M, each, turn}
use Rattle.query_meaning.specs.Sequences.{returned}

-- what is left, where there is no fault
abbrev pub leaving : {A B : Type 0} → Result B ValueFault → A → Result A ValueFault
leaving (Ok b) a = Ok a
leaving (Err f) a = Err f

-- one item, which the variable is bound to last
abbrev pub returned_of : Option Expr → Expr → (variable : List ℕ) → Environment → List Item → Item → M (List Item)
returned_of test x v env given item = turn (returned (option_map mean test) (mean x) (with_variable v (item ∷ []) env) given)

abbrev pub returned_of_each : Option Expr → Expr → (variable : List ℕ) → Environment → List Item → List Item → M (List Item)
returned_of_each test x v env items given = each (λ _. returned_of test x v env) 0 items given
