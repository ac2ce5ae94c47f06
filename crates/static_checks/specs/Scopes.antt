-- What the code keeps of the variables that are bound.
use Rattle.std.specs.Prelude.{◌≡◌, ℕ, zero, suc, ◌==◌, if◌then◌else◌, List, [], ◌∷◌, ◌++◌, length, slice_get, Option, Some, None}
use Rattle.query_grammar.specs.declared.ast.Expr.TheOpen.{Expr-F}
use Rattle.query_grammar.specs.declared.ast.Binding.{Binding}
use Rattle.query_grammar.specs.declared.ast.Clause.{Clause}
use Rattle.static_checks.specs.Parts.{Scope, bound_by, variables_of}
use Rattle.static_checks.specs.Variables.{is_bound}

-- names, each once, the one that came last last
abbrev pub Names : Type 0
Names = List (List ℕ)

-- and one more
abbrev pub with_name : (name : List ℕ) → Names → Names
with_name x names = if is_bound x names then names else names ++ x ∷ []

-- and all of these, of which the last comes first
abbrev pub with_names : Scope → Names → Names
with_names [] names = names
with_names (x ∷ xs) names = with_name x (with_names xs names)

-- the names are those of the variables that are bound
abbrev pub AreBound : Names → Scope → Type 0
AreBound names bound = (x : List ℕ) → is_bound x names ≡ is_bound x bound

abbrev pub of_clause : {A : Type 0} → Option (Clause A) → Scope
of_clause None = []
of_clause (Some c) = bound_by c

abbrev pub of_binding : {A : Type 0} → Option (Binding A) → Scope
of_binding None = []
of_binding (Some b) = b.variable ∷ []

-- what an expression binds for the parts after that of an index, and not for that one
abbrev pub bound_after : {A : Type 0} → Expr-F A → (index : ℕ) → Scope
bound_after (Expr-F.Quantified q bs x) i = of_binding (slice_get bs i)
bound_after (Expr-F.Flwor cs where? ks x) i = of_clause (slice_get cs i)
bound_after (Expr-F.Copy bs x y) i = if suc i == length bs then variables_of bs else []
bound_after _ i = []

abbrev pub all_before : (ℕ → Scope) → ℕ → Scope
all_before f zero = []
all_before f (suc i) = f i ++ all_before f i

-- what it binds for the part of an index
abbrev pub bound_before : {A : Type 0} → Expr-F A → (index : ℕ) → Scope
bound_before x i = all_before (bound_after x) i
