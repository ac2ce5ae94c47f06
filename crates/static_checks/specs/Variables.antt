-- Variables: which are bound where (XQuery 1.0, sections 3.1.2, 3.8.1 and 3.11).
use Rattle.std.specs.Prelude.{ℕ, Bool, false, not, ◌||◌, List, ◌++◌}
use Rattle.std.specs.List.{list_any}
use Rattle.std.specs.Str.{bytes_eq}
use Rattle.query_grammar.specs.declared.ast.Expr.{Expr, fold-Expr}
use Rattle.query_grammar.specs.declared.ast.Expr.TheOpen.{Expr-F}
use Rattle.query_grammar.specs.declared.ast.Clause.{Clause}
use Rattle.query_grammar.specs.declared.ast.Clause.TheVariants as clause
use Rattle.static_checks.specs.Parts.{Part, Scope, parts}

-- Both variables of a `for` with `at` have one name (section 3.8.1: XQST0089).
abbrev pub binds_twice : {A : Type 0} → Clause A → Bool
binds_twice (clause.For b) = false
binds_twice (clause.ForAt b at) = bytes_eq b.variable at
binds_twice (clause.Let b) = false

abbrev pub has_twice_bound : {A : Type 0} → Expr-F A → Bool
has_twice_bound (Expr-F.Flwor cs where? ks x) = list_any binds_twice cs
has_twice_bound _ = false

abbrev pub binds_twice_step : Expr-F Bool → Bool
binds_twice_step x = has_twice_bound x || list_any (λ (p : Part Bool). p.part) (parts x)

-- in the expression or in something in it a clause binds one name twice
unfoldable pub binds_a_name_twice : Expr → Bool
binds_a_name_twice = fold-Expr Bool binds_twice_step

-- the variable is bound
abbrev pub is_bound : (variable : List ℕ) → Scope → Bool
is_bound x bound = list_any (bytes_eq x) bound

-- it is a variable that is not bound
abbrev pub is_unbound : {A : Type 0} → Expr-F A → Scope → Bool
is_unbound (Expr-F.Variable x) bound = not (is_bound x bound)
is_unbound _ bound = false

abbrev pub unbound_step : Expr-F (Scope → Bool) → Scope → Bool
unbound_step x bound = is_unbound x bound || list_any (λ (p : Part (Scope → Bool)). p.part (p.bound ++ bound)) (parts x)

-- where these are bound, the expression or something in it is a variable that is not bound (XPST0008)
unfoldable pub has_unbound : Expr → Scope → Bool
has_unbound = fold-Expr (Scope → Bool) unbound_step
