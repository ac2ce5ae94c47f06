-- The parts of an expression, in the order in which it is written.
use Rattle.std.specs.Prelude.{ℕ, List, [], ◌∷◌, ◌++◌, map, option_to_list}
use Rattle.query_grammar.specs.declared.ast.Expr.TheOpen.{Expr-F}
use Rattle.query_grammar.specs.declared.ast.Binding.{Binding}
use Rattle.query_grammar.specs.declared.ast.Clause.{Clause}
use Rattle.query_grammar.specs.declared.ast.Clause.TheVariants as clause
use Rattle.query_grammar.specs.declared.ast.Name.{Name}
use Rattle.query_grammar.specs.declared.ast.Name.TheVariants as name
use Rattle.query_grammar.specs.declared.ast.Operation.{Operation}
use Rattle.query_grammar.specs.declared.ast.SortKey.{SortKey}

-- variables, the one that was bound last first
abbrev pub Scope : Type 0
Scope = List (List ℕ)

-- a part, and the variables that the expression binds for it
pub record Part (A : Type 0) : Type 0 where
  pub bound : Scope
  pub part : A

-- the same variables are bound for each of them
abbrev pub under : {A : Type 0} → Scope → List A → List (Part A)
under bound xs = map (λ x. record { bound = bound; part = x }) xs

-- what a clause binds, and to what
abbrev pub bound_by : {A : Type 0} → Clause A → Scope
bound_by (clause.For b) = b.variable ∷ []
bound_by (clause.ForAt b at) = at ∷ b.variable ∷ []
bound_by (clause.Let b) = b.variable ∷ []

abbrev pub source_of : {A : Type 0} → Clause A → A
source_of (clause.For b) = b.source
source_of (clause.ForAt b at) = b.source
source_of (clause.Let b) = b.source

-- A variable is bound from the next clause on (XQuery 1.0, section 3.8.1): the clauses after some variables, and then the other parts.
abbrev pub clauses_then : {A : Type 0} → Scope → List (Clause A) → List A → List (Part A)
clauses_then bound [] others = under bound others
clauses_then bound (c ∷ cs) others = record { bound = bound; part = source_of c } ∷ clauses_then (bound_by c ++ bound) cs others

-- the same of a quantified expression's bindings (section 3.11)
abbrev pub bindings_then : {A : Type 0} → Scope → List (Binding A) → List A → List (Part A)
bindings_then bound [] others = under bound others
bindings_then bound (b ∷ bs) others = record { bound = bound; part = b.source } ∷ bindings_then (b.variable ∷ bound) bs others

-- the variables of bindings
abbrev pub variables_of : {A : Type 0} → List (Binding A) → Scope
variables_of [] = []
variables_of (b ∷ bs) = variables_of bs ++ b.variable ∷ []

-- the expression that computes a constructor's name
abbrev pub name_parts : {A : Type 0} → Name A → List A
name_parts (name.Written text) = []
name_parts (name.Computed x) = x ∷ []

abbrev pub sources : {A : Type 0} → List (Binding A) → List A
sources bs = map (λ b. b.source) bs

abbrev pub keys : {A : Type 0} → List (SortKey A) → List A
keys ks = map (λ k. k.key) ks

abbrev pub operands : {A : Type 0} → List (Operation A) → List A
operands os = map (λ o. o.operand) os

-- the parts of an expression, with the variables that it binds for them
abbrev pub parts : {A : Type 0} → Expr-F A → List (Part A)
parts (Expr-F.Integer n) = []
parts (Expr-F.String text) = []
parts (Expr-F.Variable x) = []
parts Expr-F.Context = []
parts (Expr-F.Sequence xs) = under [] xs
parts (Expr-F.Call f xs) = under [] xs
parts (Expr-F.Document x) = under [] (x ∷ [])
parts (Expr-F.Element n x) = under [] (name_parts n ++ x ∷ [])
parts (Expr-F.Attribute n x) = under [] (name_parts n ++ x ∷ [])
parts (Expr-F.Text x) = under [] (x ∷ [])
parts (Expr-F.Comment x) = under [] (x ∷ [])
parts (Expr-F.Instruction n x) = under [] (name_parts n ++ x ∷ [])
parts (Expr-F.Step axis t xs) = under [] xs
parts (Expr-F.Filter x xs) = under [] (x ∷ xs)
parts (Expr-F.Path x xs) = under [] (x ∷ xs)
parts (Expr-F.Signed signs x) = under [] (x ∷ [])
parts (Expr-F.Chain x os) = under [] (x ∷ operands os)
parts (Expr-F.If x y z) = under [] (x ∷ y ∷ z ∷ [])
parts (Expr-F.Quantified q bs x) = bindings_then [] bs (x ∷ [])
parts (Expr-F.Flwor cs where? ks x) = clauses_then [] cs (option_to_list where? ++ keys ks ++ x ∷ [])
parts (Expr-F.Insert x place y) = under [] (x ∷ y ∷ [])
parts (Expr-F.Delete x) = under [] (x ∷ [])
parts (Expr-F.ReplaceNode x y) = under [] (x ∷ y ∷ [])
parts (Expr-F.ReplaceValue x y) = under [] (x ∷ y ∷ [])
parts (Expr-F.Rename x y) = under [] (x ∷ y ∷ [])
parts (Expr-F.Copy bs x y) = under [] (sources bs) ++ under (variables_of bs) (x ∷ y ∷ [])

-- the parts alone
abbrev pub parts_alone : {A : Type 0} → Expr-F A → List A
parts_alone x = map (λ (p : Part _). p.part) (parts x)
