-- The first clause of a FLWOR expression, and one of its items.
use Rattle.std.proofs.Common.{◌≡◌, List, [], ◌∷◌, ℕ, suc, map, Option, None, Some, Result, Ok, refl, sym, ap, ◌∙◌, subst, arith}
use Rattle.std.specs.List.{All}
use Rattle.values.specs.declared.fault.ValueFault.{ValueFault}
use Rattle.values.specs.declared.atom.Item.{Item}
use Rattle.query_grammar.specs.declared.ast.Expr.{Expr}
use Rattle.query_grammar.specs.declared.ast.Binding.{Binding}
use Rattle.query_grammar.specs.declared.ast.Clause.{Clause}
use Rattle.query_grammar.specs.declared.ast.Clause.TheVariants as clause
use Rattle.query_meaning.specs.Environment.{Bound, Environment}
use Rattle.query_meaning.specs.Meaning.{mean}
use Rattle.query_meaning.specs.Running.{M, Run, ◌>>=◌}
use Rattle.query_meaning.specs.Sequences.{Meaning, tuples}
use Rattle.evaluation.specs.Gives.{GivesIn, Stand, Turns}
use Rattle.clause_walks.specs.Walked.{clause_of, source_of, and_position, with_variables, for_one, for_each}
use Rattle.evaluation.proofs.Each.{then_gives}
use Rattle.item_expressions.proofs.Returned.{turn_gives}

-- clauses without the first
pub clauses_rest : (P : Expr → Type 0) (cs : List (Clause Expr)) (c : Clause Expr) (rest : List (Clause Expr)) → cs ≡ c ∷ rest → All (λ c. P (source_of c)) cs → All (λ c. P (source_of c)) rest
clauses_rest P cs c rest is all = λ k d below. subst (λ cs. All (λ c. P (source_of c)) cs) is all (suc k) d (omega (arith, below))

-- a `for` clause, with a position and without
abbrev pub for_clause : Binding Expr → Option (List ℕ) → Clause Expr
for_clause b None = clause.For b
for_clause b (Some at) = clause.ForAt b at

tuples_first : {S : Type 0} (b : Binding Expr) (at : Option (List ℕ)) (rest : List (Clause Expr)) (k : Environment → S → M S) (env : Environment) (given : S)
    → tuples (map (clause_of mean) (for_clause b at ∷ rest)) k env given ≡ (mean b.source env >>= (λ items. for_each b.variable at (map (clause_of mean) rest) k env items given))
tuples_first b None rest k env given = refl
tuples_first b (Some at) rest k env given = refl

source_first : (b : Binding Expr) (at : Option (List ℕ)) → source_of (for_clause b at) ≡ b.source
source_first b None = refl
source_first b (Some at) = refl

pub tuples_for : {S : Type 0} (R : S → Run → Type 0) (cs : List (Clause Expr)) (c : Clause Expr) (rest : List (Clause Expr)) (b : Binding Expr) (at : Option (List ℕ)) (source : Expr) (k : Environment → S → M S) (env : Environment)
    (items seen : List Item) (given : S) (old mid new : Run) (r : Result S ValueFault)
    → cs ≡ c ∷ rest → c ≡ for_clause b at → source ≡ source_of c → GivesIn Stand (mean source env) old (Ok items) mid → seen ≡ items
    → GivesIn R (for_each b.variable at (map (clause_of mean) rest) k env seen given) mid r new → GivesIn R (tuples (map (clause_of mean) cs) k env given) old r new
tuples_for R cs c rest b at source k env items seen given old mid new r is form of g same h =
    let P : List (Clause Expr) → Type 0 = λ cs. GivesIn R (tuples (map (clause_of mean) cs) k env given) old r new in
    let Q : Expr → Type 0 = λ x. GivesIn Stand (mean x env) old (Ok items) mid in
    let T : List Item → Type 0 = λ xs. GivesIn R (for_each b.variable at (map (clause_of mean) rest) k env xs given) mid r new in
    subst P (sym (is ∙ ap (λ c. c ∷ rest) form)) (subst (λ m. GivesIn R m old r new) (sym (tuples_first b at rest k env given))
    (then_gives Stand R (mean b.source env) (λ items. for_each b.variable at (map (clause_of mean) rest) k env items given) old mid new items r (subst Q (of ∙ ap source_of form ∙ source_first b at) g) (subst T same h)))

-- one item
pub one_gives : {S : Type 0} (R : S → Run → Type 0) (x : List ℕ) (at : Option (List ℕ)) (cs : List (Clause Meaning)) (k : Environment → S → M S) (env : Environment) (i : ℕ) (given : S) (item : Item) (bs : List Bound)
    (old mid new : Run) (u : Unit {0}) (r : Result S ValueFault) → Turns (Ok u) old mid → bs ≡ and_position at i (record { variable = x; items = item ∷ [] } ∷ env.variables)
    → GivesIn R (tuples cs k (with_variables bs env) given) mid r new → GivesIn R (for_one x at cs k env i given item) old r new
one_gives R x at cs k env i given item bs old mid new u r turned is g =
    turn_gives R (tuples cs k (with_variables (and_position at i (record { variable = x; items = item ∷ [] } ∷ env.variables)) env) given) old mid new u r turned
    (subst (λ bs. GivesIn R (tuples cs k (with_variables bs env) given) mid r new) is g)
