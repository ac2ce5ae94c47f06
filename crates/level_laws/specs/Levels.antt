-- What expressions mean where `copy .. modify .. return`, which only level 2 of the language has, means one thing or another (our own).
use Rattle.std.specs.Prelude.{List, Result}
use Rattle.fault_codes.specs.declared.code.Code.{Code}
use Rattle.fault_codes.specs.declared.code.Code.TheVariants.{XPST0003}
use Rattle.trees.specs.Forest.{ForestTerm}
use Rattle.query_grammar.specs.declared.ast.Binding.{Binding}
use Rattle.query_grammar.specs.declared.ast.Expr.{Expr, fold-Expr}
use Rattle.query_grammar.specs.declared.ast.Expr.TheOpen.{Expr-F}
use Rattle.query_meaning.specs.Environment.{no_environment}
use Rattle.query_meaning.specs.Meaning.{Outcome, form_of, outcome, start}
use Rattle.query_meaning.specs.Running.{counted, fault}
use Rattle.query_meaning.specs.Sequences.{Meaning}

-- what a copy means, by what its sources, its changes and its result mean
abbrev pub Copying : Type 0
Copying = List (Binding Meaning) → (changes result : Meaning) → Meaning

-- it is no expression, as before level 2
abbrev pub no_copying : Copying
no_copying = λ bs changes result env. fault XPST0003

-- a form of expressions, by what its parts mean, where a copy means that
abbrev pub form_with : Copying → Expr-F Meaning → Meaning
form_with k (Expr-F.Copy bs changes m) = k bs changes m
form_with k f = form_of f

-- an expression, whose work is counted, where a copy means that
abbrev pub meaning_with : Copying → Expr-F Meaning → Meaning
meaning_with k f = λ env. counted (form_with k f env)

unfoldable pub mean_with : Copying → Expr → Meaning
mean_with k = fold-Expr Meaning (meaning_with k)

-- the meaning of a whole text's expression over a forest, where a copy means that
unfoldable pub evaluated_with : Copying → Expr → ForestTerm → Result Outcome Code
evaluated_with k x lent = outcome (mean_with k x no_environment (start lent))
