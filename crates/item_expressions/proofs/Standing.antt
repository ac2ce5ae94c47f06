-- What stands for an item means that item.
use Rattle.std.proofs.Common.{◌≡◌, ◌∙◌, ℕ, suc, ◌+◌, true, cond, List, [], ◌∷◌, length, Option, Some, None, Result, Ok, Err, refl, ap, sym, rules}
use Rattle.std.specs.Str.{bytes_eq}
use Rattle.std.proofs.lemmas.Slice.Eq.{bytes_eq-Decides}
use Rattle.fault_codes.specs.declared.code.Code.{Code}
use Rattle.fault_codes.specs.declared.code.Code.TheVariants.{XPST0008}
use Rattle.values.specs.Atoms.{or_fault}
use Rattle.values.specs.declared.atom.Item.{Item}
use Rattle.query_grammar.specs.declared.ast.Expr.TheOpen.{Expr-F}
use Rattle.query_grammar.specs.declared.ast.Expr.TheViews.{the_lemmas}
use Rattle.query_grammar.specs.declared.ast.Expr.TheVariants as e
use Rattle.query_meaning.specs.Environment.{Bound, Environment, Focus, looked_at, value_in}
use Rattle.query_meaning.specs.Meaning.{mean}
use Rattle.query_meaning.specs.Running.{M, Run, and_then, ◌>>=◌, come_to, counted, pure, work}
use Rattle.query_meaning.specs.Sequences.{context_item}
use Rattle.evaluation.proofs.Unfolded.{by_form, of_variable}
use Rattle.item_expressions.specs.Subjects.{IsBoundLast, IsContext, StandsFor, subject_expression, subject_work}
use Rattle.item_expressions.specs.declared.subject.Subject.{Subject}
use Rattle.item_expressions.specs.declared.subject.Subject.TheVariants as subject

of_context : mean e.Context ≡ (λ env. counted (context_item env))
of_context = by_form e.Context Expr-F.Context (search (rules, the_lemmas))

-- the work of items that are given
abbrev pub and_count : List Item → M (List Item)
and_count items = work (1 + length items) >>= (λ _. pure items)

found_first : (x : Item) (r : Result (Unit {0} × Run) Code) → and_then (and_then r (λ _. pure (x ∷ []))) and_count ≡ and_then (and_then r (λ _. work 2)) (λ _. pure (x ∷ []))
found_first x (Ok p) = refl
found_first x (Err code) = refl

pub same_name : (name variable : List ℕ) → variable ≡ name → bytes_eq name variable ≡ true
same_name name variable is = (bytes_eq-Decides name variable).1 (sym is)

variable_means : (name : List ℕ) (x : Item) (bs : List Bound) (run : Run) → IsBoundLast name x bs
    → and_then (and_then (work (looked_at name bs) run) (λ _. come_to (or_fault XPST0008 (value_in name bs)))) and_count ≡ and_then (and_then (work 1 run) (λ _. work 2)) (λ _. pure (x ∷ []))
variable_means name x [] run is = absurd is
variable_means name x (b ∷ bs) run is =
    ap (λ t. and_then (and_then (work (cond t 1 (suc (looked_at name bs))) run) (λ _. come_to (or_fault XPST0008 (cond t (Some b.items) (value_in name bs))))) and_count) (same_name name b.variable is.0)
    ∙ ap (λ items. and_then (and_then (work 1 run) (λ _. come_to (Ok items))) and_count) is.1
    ∙ found_first x (work 1 run)

context_means : (x : Item) (env : Environment) (run : Run) → IsContext x env.focus → counted (context_item env) run ≡ and_then (work 2 run) (λ _. pure (x ∷ []))
context_means x env run is = at env.focus is
  where
    at : (o : Option Focus) → IsContext x o → counted (context_item (record env { focus = o })) run ≡ and_then (work 2 run) (λ _. pure (x ∷ []))
    at None is = absurd is
    at (Some f) is = ap (λ y. and_count (y ∷ []) run) is

pub subject_means : (s : Subject) (x : Item) (env : Environment) (run : Run) → StandsFor s x env → mean (subject_expression s) env run ≡ and_then (subject_work s run) (λ _. pure (x ∷ []))
subject_means (subject.Variable name) x env run is = ap (λ m. m env run) (of_variable name.now) ∙ variable_means name.now x env.variables run is
subject_means subject.Context x env run is = ap (λ m. m env run) of_context ∙ context_means x env run is
