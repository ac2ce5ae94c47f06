-- What the code answers of an expression that it keeps.
use Rattle.std.specs.Prelude.{◌≡◌, Result, Ok, Err}
use Rattle.query_tokens.specs.declared.fault.ParseFault.{ParseFault}
use Rattle.query_grammar.specs.declared.ast.Expr.{Expr}
use Rattle.static_checks.specs.Static.{IsAnswer, checked}

-- no pass over it finds a fault, or the first one that does gives the code
abbrev pub IsChecked : Expr → Result (Unit {0}) ParseFault → Type 0
IsChecked x (Ok u) = checked x ≡ Ok x
IsChecked x (Err fault) = IsAnswer (checked x) (Err fault)
