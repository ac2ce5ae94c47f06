-- What `return` gives at a tuple, as a function of an item.
use Rattle.std.specs.Prelude.{◌≡◌, Option}
use Rattle.std.specs.Option.{ForSome}
use Rattle.query_grammar.specs.declared.ast.Expr.{Expr}
use Rattle.item_expressions.specs.Subjects.{OfSubject}

-- the function, where there is one, is that expression
abbrev pub IsFunctionOf : Expr → Option OfSubject → Type 0
IsFunctionOf x o = ForSome o (λ f. f.expression ≡ x)
