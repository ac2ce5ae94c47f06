-- What an expression means before its work is counted.
use Rattle.query_grammar.specs.declared.ast.Expr.{Expr, map-Expr, out-Expr}
use Rattle.query_meaning.specs.Meaning.{form_of, mean}
use Rattle.query_meaning.specs.Sequences.{Meaning}

abbrev pub uncounted : Expr → Meaning
uncounted x = form_of (map-Expr Expr Meaning mean (out-Expr x))
