-- The meaning of an expression, by its form.
use Rattle.std.proofs.Common.{◌≡◌, ℕ, List, ◌∙◌, ap, rules}
use Rattle.query_grammar.specs.declared.ast.Expr.{Expr, map-Expr, out-Expr}
use Rattle.query_grammar.specs.declared.ast.Expr.TheOpen.{Expr-F}
use Rattle.query_grammar.specs.declared.ast.Expr.TheVariants as e
use Rattle.query_grammar.specs.declared.ast.Expr.TheViews.{the_lemmas}
use Rattle.query_grammar.specs.declared.ast.Expr.TheFolds.{fold_out-Expr}
use Rattle.query_meaning.specs.Meaning.{mean, meaning_of}
use Rattle.query_meaning.specs.Running.{counted}
use Rattle.query_meaning.specs.Sequences.{Meaning, variable}

mean_out : (x : Expr) → mean x ≡ meaning_of (map-Expr Expr Meaning mean (out-Expr x))
unfolding mean
mean_out x = fold_out-Expr Meaning meaning_of x

pub by_form : (x : Expr) (f : Expr-F Expr) → out-Expr x ≡ f → mean x ≡ meaning_of (map-Expr Expr Meaning mean f)
by_form x f is = mean_out x ∙ ap (λ g. meaning_of (map-Expr Expr Meaning mean g)) is

pub of_variable : (name : List ℕ) → mean (e.Variable name) ≡ (λ env. counted (variable name env))
of_variable name = by_form (e.Variable name) (Expr-F.Variable name) (search (rules, the_lemmas))
