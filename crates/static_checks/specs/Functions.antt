-- Calls of functions that there are not: there is none of the name, or it takes another number of arguments (XPST0017).
use Rattle.std.specs.Prelude.{Bool, false, not, ◌||◌, is_some}
use Rattle.std.specs.List.{list_any}
use Rattle.query_grammar.specs.declared.ast.Expr.{Expr, fold-Expr}
use Rattle.query_grammar.specs.declared.ast.Expr.TheOpen.{Expr-F}
use Rattle.static_checks.specs.Parts.{Part, parts}

-- it calls no function that there is
abbrev pub is_unknown_call : {A : Type 0} → Expr-F A → Bool
is_unknown_call (Expr-F.Call function arguments) = not (is_some function)
is_unknown_call _ = false

-- so does it or one of its parts
abbrev pub unknown_call_step : Expr-F Bool → Bool
unknown_call_step x = is_unknown_call x || list_any (λ (p : Part Bool). p.part) (parts x)

-- the expression or something in it calls no function that there is
unfoldable pub has_unknown_call : Expr → Bool
has_unknown_call = fold-Expr Bool unknown_call_step
