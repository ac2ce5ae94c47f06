-- What one walk over an expression tells of all passes.
use Rattle.std.specs.Prelude.{◌≡◌, ◌⊎◌, true, false, Option, Some, None}
use Rattle.query_grammar.specs.declared.ast.Expr.{Expr}
use Rattle.static_checks.specs.Categories.{judged}
use Rattle.static_checks.specs.Functions.{has_unknown_call}
use Rattle.static_checks.specs.Inside.{placed}
use Rattle.static_checks.specs.Parts.{Scope}
use Rattle.static_checks.specs.Scopes.{AreBound, Names}
use Rattle.static_checks.specs.Variables.{binds_a_name_twice, has_unbound}
use Rattle.static_checks.specs.declared.categories.Category.{Category}

-- where these names are bound, no pass finds a fault, and the category is this one
pub record IsFaultless (x : Expr) (names : Names) (category : Category) : Type 0 where
  pub functions : false ≡ has_unknown_call x
  pub twice : false ≡ binds_a_name_twice x
  pub variables : (bound : Scope) → AreBound names bound → false ≡ has_unbound x bound
  pub place : Some category ≡ placed (judged x)

-- where these names are bound, a pass finds a fault
abbrev pub IsFaulty : Expr → Names → Type 0
IsFaulty x names =
    (true ≡ has_unknown_call x)
    ⊎ ((true ≡ binds_a_name_twice x)
    ⊎ (((bound : Scope) → AreBound names bound → true ≡ has_unbound x bound)
    ⊎ (None ≡ placed (judged x))))

abbrev pub IsWalked : Expr → Names → Option Category → Type 0
IsWalked x names None = IsFaulty x names
IsWalked x names (Some category) = IsFaultless x names category
