-- Names in constructors.
use Rattle.std.specs.Prelude.{ℕ, List, [], ◌∷◌, Result, Ok, Err}
use Rattle.data_model.specs.declared.node.Kind.{Kind}
use Rattle.fault_codes.specs.declared.code.Code.{Code}
use Rattle.query_grammar.specs.declared.ast.Name.{Name}
use Rattle.query_grammar.specs.declared.ast.Name.TheVariants.{Written, Computed}
use Rattle.query_meaning.specs.Constructors.{name_for}

-- the expression that gives the name, where it isn't written
abbrev pub expression_in : {A : Type 0} → Name A → List A
expression_in (Written name) = []
expression_in (Computed x) = x ∷ []

-- a name by what its expression means
abbrev pub named_by : {A B : Type 0} → (A → B) → Name A → Name B
named_by f (Written name) = Written name
named_by f (Computed x) = Computed (f x)

-- the name that a text is for a node of that kind
abbrev pub name_in : Kind → Result (List ℕ) Code → Result (List ℕ) Code
name_in k (Ok name) = name_for k name
name_in k (Err code) = Err code
