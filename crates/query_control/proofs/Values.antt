-- Values of variables, and nodes among items.
use Rattle.std.proofs.Common.{◌≡◌, ℕ, zero, suc, List, [], ◌∷◌, Some, Bool, sym, ap, Result, ◌∙◌, arith, subst}
use Rattle.values.specs.Items.{IsThere}
use Rattle.values.specs.declared.atom.Item.{Item}
use Rattle.values.specs.declared.fault.ValueFault.{ValueFault}
use Rattle.query_meaning.specs.Running.{Run, counted, trees_of}
use Rattle.evaluation.specs.Gives.{Any, GivesIn, IsReady}
use Rattle.query_meaning.specs.Sequences.{tested, variable}
use Rattle.query_meaning.specs.Meaning.{mean}
use Rattle.query_grammar.specs.declared.ast.Expr.{Expr}
use Rattle.query_grammar.specs.declared.ast.Expr.TheVariants as e
use Rattle.evaluation.proofs.Unfolded.{of_variable}
use Rattle.query_meaning.specs.Environment.{Environment, with_variable}

-- the test of an expression that is a variable
pub truth_of_name : (x : Expr) (name : List ℕ) (env : Environment) (old new : Run) (r : Result Bool ValueFault) → x ≡ e.Variable name
    → GivesIn Any (tested (Some (λ env. counted (variable name env))) env) old r new → GivesIn Any (tested (Some (mean x)) env) old r new
truth_of_name x name env old new r is given = subst (λ m. GivesIn Any (tested (Some m) env) old r new) (sym (ap mean is ∙ of_variable name)) given

-- without the last one, and its item
pub ready_before : (x : List ℕ) (item : Item) (env : Environment) (run : Run) → IsReady (with_variable x (item ∷ []) env) run → IsReady env run
ready_before x item env run ready = record { focus = ready.focus; variables = λ k d below. ready.variables (suc k) d (omega (arith, below)) }

pub last_there : (x : List ℕ) (item : Item) (env : Environment) (run : Run) → IsReady (with_variable x (item ∷ []) env) run → IsThere (trees_of run) item
last_there x item env run ready = ready.variables zero (record { variable = x; items = item ∷ [] }) (omega arith) zero item (omega arith)
