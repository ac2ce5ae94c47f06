-- Where no copy is made, what copies mean does not matter.
use Rattle.std.proofs.Common.{◌≡◌, false, refl, ap, sym}
use Rattle.trees.specs.Forest.{ForestTerm}
use Rattle.query_grammar.specs.declared.ast.Expr.{Expr}
use Rattle.query_grammar.specs.declared.ast.Expr.TheOpen.{Expr-F}
use Rattle.query_meaning.specs.Copies.{copy}
use Rattle.query_meaning.specs.Environment.{no_environment}
use Rattle.query_meaning.specs.Meaning.{evaluated, mean, meaning_of, outcome, start}
use Rattle.query_meaning.specs.Sequences.{Meaning}
use Rattle.level_laws.specs.Copied.{is_copy, has_copy}
use Rattle.level_laws.specs.Levels.{Copying, evaluated_with, mean_with, meaning_with}
use Rattle.level_laws.proofs.Layers.{same_folds, same_without}

-- a form that is no copy
other_form : (k : Copying) (y : Expr-F Meaning) → is_copy y ≡ false → meaning_with k y ≡ meaning_of y
other_form k (Expr-F.Copy bs changes m) none = absurd (let f : ⊥ = cc in f)
other_form k _ none = refl

each_form : (y : Expr-F Meaning) → meaning_with copy y ≡ meaning_of y
each_form (Expr-F.Copy bs changes m) = refl
each_form _ = refl

pub same_meaning : (k : Copying) (x : Expr) → has_copy x ≡ false → mean_with k x ≡ mean x
unfolding mean mean_with
same_meaning k x none = same_without (meaning_with k) meaning_of (other_form k) x none

pub as_it_is : (x : Expr) → mean_with copy x ≡ mean x
unfolding mean mean_with
as_it_is x = same_folds (meaning_with copy) meaning_of each_form x

pub same_value : (k : Copying) (x : Expr) (lent : ForestTerm) → has_copy x ≡ false → evaluated x lent ≡ evaluated_with k x lent
unfolding evaluated evaluated_with
same_value k x lent none = ap (λ m. outcome (m no_environment (start lent))) (sym (same_meaning k x none))
