-- The first part of an expression: a binding of a quantified one, what stands before operators.
use Rattle.std.proofs.Common.{Bool, ◌≡◌, List, ◌∷◌, map, Result, Ok, sym, subst}
use Rattle.values.specs.declared.fault.ValueFault.{ValueFault}
use Rattle.values.specs.declared.atom.Item.{Item}
use Rattle.query_grammar.specs.declared.ast.Expr.{Expr}
use Rattle.query_grammar.specs.declared.ast.Binding.{Binding}
use Rattle.query_grammar.specs.declared.ast.Operation.{Operation}
use Rattle.query_grammar.specs.declared.ast.Quantifier.{Quantifier}
use Rattle.query_meaning.specs.Environment.{Environment}
use Rattle.query_meaning.specs.Meaning.{mean}
use Rattle.query_meaning.specs.Running.{Run}
use Rattle.query_meaning.specs.Sequences.{Meaning, satisfied, until_decided}
use Rattle.query_meaning.specs.Operators.{chain}
use Rattle.evaluation.specs.Gives.{Any, Gives, GivesIn, Stand}
use Rattle.query_control.specs.Operations.{operation_of, operated_in_turn}
use Rattle.evaluation.specs.Bindings.{binding_of}
use Rattle.query_control.specs.Parts.{satisfied_by}
use Rattle.evaluation.proofs.Each.{then_gives}

-- the first of several bindings
pub satisfied_first : (q : Quantifier) (bs : List (Binding Expr)) (b : Binding Expr) (rest : List (Binding Expr)) (m : Meaning) (env : Environment)
    (items seen : List Item) (old mid new : Run) (r : Result Bool ValueFault)
    → bs ≡ b ∷ rest → GivesIn Stand (mean b.source env) old (Ok items) mid → seen ≡ items
    → GivesIn Any (until_decided q (satisfied_by q b.variable (map (binding_of mean) rest) m env) seen) mid r new → GivesIn Any (satisfied q (map (binding_of mean) bs) m env) old r new
satisfied_first q bs b rest m env items seen old mid new r is g same h =
    let P : List (Binding Expr) → Type 0 = λ bs. GivesIn Any (satisfied q (map (binding_of mean) bs) m env) old r new in
    let R : List Item → Type 0 = λ xs. GivesIn Any (until_decided q (satisfied_by q b.variable (map (binding_of mean) rest) m env) xs) mid r new in
    subst P (sym is) (then_gives Stand Any (mean b.source env) (until_decided q (satisfied_by q b.variable (map (binding_of mean) rest) m env)) old mid new items r g (subst R same h))

-- what stands before operators
pub chain_first : (x first : Expr) (os seen : List (Operation Expr)) (env : Environment) (left : List Item) (old mid new : Run) (r : Result (List Item) ValueFault)
    → x ≡ first → GivesIn Stand (mean x env) old (Ok left) mid → seen ≡ os
    → Gives (operated_in_turn (map (operation_of mean) seen) env left) mid r new → Gives (chain (mean first) (map (operation_of mean) os) env) old r new
chain_first x first os seen env left old mid new r of g same h =
    let Q : Expr → Type 0 = λ x. GivesIn Stand (mean x env) old (Ok left) mid in
    let R : List (Operation Expr) → Type 0 = λ os. Gives (operated_in_turn (map (operation_of mean) os) env left) mid r new in
    then_gives Stand Stand (mean first env) (operated_in_turn (map (operation_of mean) os) env) old mid new left r (subst Q of g) (subst R same h)
