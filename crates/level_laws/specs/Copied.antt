-- Whether a copy is made and changed in an expression (XQuery Update Facility 1.0, section 2.4.5).
use Rattle.std.specs.Prelude.{Bool, true, false, ◌||◌}
use Rattle.std.specs.List.{list_any}
use Rattle.query_grammar.specs.declared.ast.Expr.{Expr, fold-Expr}
use Rattle.query_grammar.specs.declared.ast.Expr.TheOpen.{Expr-F}
use Rattle.static_checks.specs.Parts.{Part, parts}

-- it is `copy .. modify .. return`
abbrev pub is_copy : {A : Type 0} → Expr-F A → Bool
is_copy (Expr-F.Copy bs changes x) = true
is_copy _ = false

-- so is it or something in one of its parts
abbrev pub copy_step : Expr-F Bool → Bool
copy_step x = is_copy x || list_any (λ (p : Part Bool). p.part) (parts x)

-- the expression or something in it is `copy .. modify .. return`
unfoldable pub has_copy : Expr → Bool
has_copy = fold-Expr Bool copy_step
