-- Values of variables.
use Rattle.std.proofs.Common.{◌≡◌, ℕ, zero, suc, List, [], ◌∷◌, Some, Bool, true, false, cond, ap, sym, subst, Result, Ok, ◌∙◌, arith}
use Rattle.std.specs.List.{All}
use Rattle.std.specs.Str.{bytes_eq}
use Rattle.std.proofs.lemmas.Option.{none-some, same_Some}
use Rattle.values.specs.Atoms.{or_fault}
use Rattle.values.specs.declared.atom.Item.{Item}
use Rattle.values.specs.declared.fault.ValueFault.{ValueFault}
use Rattle.fault_codes.specs.declared.code.Code.TheVariants.{XPST0008}
use Rattle.query_meaning.specs.Environment.{Bound, Environment, looked_at, value_in}
use Rattle.query_grammar.specs.declared.ast.Expr.{Expr}
use Rattle.query_grammar.specs.declared.ast.Expr.TheVariants as e
use Rattle.query_meaning.specs.Meaning.{mean}
use Rattle.query_meaning.specs.Running.{Run, and_then, come_to, counted, work}
use Rattle.query_meaning.specs.Sequences.{variable}
use Rattle.evaluation.specs.Gives.{Any, Gives, GivesIn, IsReady, Stand}
use Rattle.evaluation.proofs.Counted.{stand_spent}
use Rattle.evaluation.proofs.Unfolded.{of_variable}

-- the value of a variable stands where all of them do
pub of_value : (name : List ℕ) (bs : List Bound) (run : Run) (items : List Item) → All (λ b. Stand b.items run) bs → value_in name bs ≡ Some items → Stand items run
of_value name [] run items all e = absurd (none-some _ e)
of_value name (b ∷ bs) run items all e = first (bytes_eq name b.variable) e (of_value name bs run items (λ k d below. all (suc k) d (omega (arith, below))))
  where
    first : (t : Bool) → cond t (Some b.items) (value_in name bs) ≡ Some items → (value_in name bs ≡ Some items → Stand items run) → Stand items run
    first true e rest = let P : List Item → Type 0 = λ xs. Stand xs run in subst P (same_Some _ _ e) (all zero b (omega arith))
    first false e rest = rest e

pub variable_found : (name : List ℕ) (env : Environment) (old new : Run) (u : Unit {0}) (items : List Item) → value_in name env.variables ≡ Some items
    → GivesIn Any (work (looked_at name env.variables)) old (Ok u) new → new ≡ record old { work = new.work } → IsReady env old → GivesIn Stand (variable name env) old (Ok items) new
variable_found name env old new u items found looked same ready = (
  ap (λ r. and_then r (λ _. come_to (or_fault XPST0008 (value_in name env.variables)))) looked.0 ∙ ap (λ o. come_to (or_fault XPST0008 o) new) found,
  (looked.1.0, stand_spent items old new same (of_value name env.variables old items ready.variables found)),
)

-- the value of an expression that is a variable
pub part_is_variable : (x : Expr) (name : List ℕ) (env : Environment) (old new : Run) (r : Result (List Item) ValueFault) → x ≡ e.Variable name
    → Gives (counted (variable name env)) old r new → Gives (mean x env) old r new
part_is_variable x name env old new r is given = subst (λ m. Gives (m env) old r new) (sym (ap mean is ∙ of_variable name)) given
