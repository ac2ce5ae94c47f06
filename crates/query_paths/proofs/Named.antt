-- A step to the children of a name, for many nodes.
use Rattle.std.proofs.Common.{◌≡◌, List, [], ap, sym, ◌∙◌, subst, rules, Result}
use Rattle.data_model.specs.declared.axis.Axis.TheVariants.{Child}
use Rattle.values.specs.declared.atom.Item.{Item}
use Rattle.values.specs.declared.fault.ValueFault.{ValueFault}
use Rattle.query_grammar.specs.declared.ast.Expr.{Expr}
use Rattle.query_grammar.specs.declared.ast.Expr.TheOpen.{Expr-F}
use Rattle.query_grammar.specs.declared.ast.Expr.TheVariants as e
use Rattle.query_grammar.specs.declared.ast.Expr.TheViews.{the_lemmas}
use Rattle.query_grammar.specs.declared.ast.NodeTest.{NodeTest}
use Rattle.query_meaning.specs.Environment.{Environment}
use Rattle.query_meaning.specs.Meaning.{mean}
use Rattle.query_meaning.specs.Paths.{Found, step}
use Rattle.query_meaning.specs.Running.{Run, counted}
use Rattle.query_meaning.specs.Sequences.{Meaning}
use Rattle.evaluation.specs.Gives.{GivesIn}
use Rattle.evaluation.proofs.Unfolded.{by_form}
use Rattle.query_paths.specs.Gathered.{IsFewIn, gathered}
use Rattle.query_paths.specs.Named.{gathered_children}

-- the part by what it is
means_children : (t : NodeTest) → mean (e.Step Child t []) ≡ (λ env. counted (step Child t [] env))
means_children t = by_form (e.Step Child t []) (Expr-F.Step Child t []) (search (rules, the_lemmas))

pub gathered_is : (part : Expr) (t : NodeTest) (env : Environment) (items : List Item) (old new : Run) (r : Result Found ValueFault) → part ≡ e.Step Child t []
    → GivesIn IsFewIn (gathered_children t items) old r new → GivesIn IsFewIn (gathered env items (mean part)) old r new
gathered_is part t env items old new r is given =
    let P : Meaning → Type 0 = λ m. GivesIn IsFewIn (gathered env items m) old r new in
    subst P (sym (ap mean is ∙ means_children t)) given
