-- The meaning of an expression, by its form.
use Rattle.std.proofs.Common.{◌≡◌, ◌+◌, refl, sym, ◌∙◌, ap, ap₂, subst, rules, ℕ, List, [], ◌∷◌, length, map, Option, Some, None, option_map, Result, Ok, Err}
use Rattle.data_model.specs.declared.axis.Axis.{Axis}
use Rattle.query_grammar.specs.declared.ast.Binding.{Binding}
use Rattle.query_grammar.specs.declared.ast.Clause.{Clause}
use Rattle.query_grammar.specs.declared.ast.Clause.TheVariants as clause
use Rattle.query_grammar.specs.declared.ast.Expr.{Expr, map-Expr, out-Expr}
use Rattle.query_grammar.specs.declared.ast.Expr.TheOpen.{Expr-F}
use Rattle.query_grammar.specs.declared.ast.Expr.TheVariants as e
use Rattle.query_grammar.specs.declared.ast.Expr.TheViews.{the_lemmas}
use Rattle.query_grammar.specs.declared.ast.NodeTest.{NodeTest}
use Rattle.query_grammar.specs.declared.ast.Operation.{Operation}
use Rattle.query_grammar.specs.declared.ast.Place.{Place}
use Rattle.query_grammar.specs.declared.ast.Quantifier.{Quantifier}
use Rattle.query_grammar.specs.declared.ast.Sign.{Sign}
use Rattle.query_grammar.specs.declared.ast.SortKey.{SortKey}
use Rattle.values.specs.declared.atom.Item.{Item}
use Rattle.values.specs.declared.fault.ValueFault.{ValueFault}
use Rattle.values.specs.declared.fault.ValueFault.TheVariants as fault
use Rattle.query_grammar.specs.declared.ast.Name.{Name}
use Rattle.query_grammar.specs.declared.ast.Name.TheVariants as name
use Rattle.query_grammar.specs.declared.functions.Function.{Function}
use Rattle.query_meaning.specs.Running.{M, Run, and_then, counted, pure, work, ◌>>=◌}
use Rattle.query_meaning.specs.Environment.{Environment}
use Rattle.query_meaning.specs.Constructors.{attribute, document, element, text, comment, instruction}
use Rattle.query_meaning.specs.Functions.{call}
use Rattle.query_meaning.specs.Meaning.{form_of, mean}
use Rattle.query_meaning.specs.Operators.{chain, signed}
use Rattle.query_meaning.specs.Paths.{step, filter_of, path}
use Rattle.query_meaning.specs.Copies.{copy}
use Rattle.query_meaning.specs.Updates.{insert, delete, replace_node, replace_value, rename}
use Rattle.query_meaning.specs.Sequences.{Meaning, number, string, variable, context_item, sequence, conditional, quantified, flwor}
use Rattle.evaluation.specs.Gives.{Any, Fails, Gives, GivesIn}
use Rattle.query_constructors.specs.Names.{named_by}
use Rattle.query_control.specs.Operations.{operation_of}
use Rattle.sorted_tuples.specs.Keys.{sort_key_of}
use Rattle.evaluation.specs.Bindings.{binding_of}
use Rattle.clause_walks.specs.Walked.{clause_of}
use Rattle.evaluation.proofs.Counted.{counted_fails, counted_gives}
use Rattle.evaluation.proofs.Unfolded.{by_form}
use Rattle.evaluator.specs.Uncounted.{uncounted}

-- what is come to by the form is what the expression comes to, but for its work
pub as_meant : (x y : Expr) (m : Meaning) (env : Environment) (old new : Run) (r : Result (List Item) ValueFault) → x ≡ y → uncounted y ≡ m → Gives (m env) old r new → Gives (uncounted x env) old r new
as_meant x y m env old new r is same given =
    let P : Meaning → Type 0 = λ n. Gives (n env) old r new in
    subst P (sym (ap uncounted is ∙ same)) given

-- the work of an expression is counted
pub mean_counted : (x : Expr) → mean x ≡ (λ env. counted (uncounted x env))
mean_counted x = by_form x (out-Expr x) refl

-- so it is counted once its form has given a value, and else has that fault
pub count_gives : (x : Expr) (env : Environment) (old mid new : Run) (items : List Item) (u : Unit {0}) → Gives (uncounted x env) old (Ok items) mid
    → GivesIn Any (work (1 + length items)) mid (Ok u) new → new ≡ record mid { work = new.work } → Gives (mean x env) old (Ok items) new
count_gives x env old mid new items u given spent same =
    let P : Meaning → Type 0 = λ m. Gives (m env) old (Ok items) new in
    subst P (sym (mean_counted x)) (counted_gives (uncounted x env) old mid new items u given spent same)

pub count_fails : (x : Expr) (env : Environment) (old mid new : Run) (items : List Item) (found : ValueFault) → Gives (uncounted x env) old (Ok items) mid
    → GivesIn Any (work (1 + length items)) mid (Err found) new → Fails (mean x env old) found
count_fails x env old mid new items found given spent =
    let P : Meaning → Type 0 = λ m. Fails (m env old) found in
    subst P (sym (mean_counted x)) (counted_fails (uncounted x env) old mid new items found given spent)

uncounted_fails : (m : M (List Item)) (old : Run) (found : ValueFault) → Fails (m old) found → Fails (counted m old) found
uncounted_fails m old fault.Memory h = tt
uncounted_fails m old (fault.Code code) h = ap (λ r. and_then r (λ items. work (1 + length items) >>= (λ _. pure items))) h

pub fails_counted : (x : Expr) (env : Environment) (old : Run) (found : ValueFault) → Fails (uncounted x env old) found → Fails (mean x env old) found
fails_counted x env old found h =
    let P : Meaning → Type 0 = λ m. Fails (m env old) found in
    subst P (sym (mean_counted x)) (uncounted_fails (uncounted x env) old found h)

uncounted_by : (x : Expr) (f : Expr-F Expr) → out-Expr x ≡ f → uncounted x ≡ form_of (map-Expr Expr Meaning mean f)
uncounted_by x f is = ap (λ g. form_of (map-Expr Expr Meaning mean g)) is

pub of_variable : (name : List ℕ) → uncounted (e.Variable name) ≡ variable name
of_variable name = uncounted_by (e.Variable name) (Expr-F.Variable name) (search (rules, the_lemmas))

pub of_number : (n : ℕ) → uncounted (e.Integer n) ≡ number n
of_number n = uncounted_by (e.Integer n) (Expr-F.Integer n) (search (rules, the_lemmas))

pub of_string : (text : List ℕ) → uncounted (e.String text) ≡ string text
of_string text = uncounted_by (e.String text) (Expr-F.String text) (search (rules, the_lemmas))

pub of_context : uncounted e.Context ≡ context_item
of_context = uncounted_by e.Context Expr-F.Context (search (rules, the_lemmas))

pub of_sequence : (xs : List Expr) → uncounted (e.Sequence xs) ≡ sequence (map mean xs)
of_sequence xs = uncounted_by (e.Sequence xs) (Expr-F.Sequence xs) (search (rules, the_lemmas))

pub of_signed : (signs : List Sign) (x : Expr) → uncounted (e.Signed signs x) ≡ signed signs (mean x)
of_signed signs x = uncounted_by (e.Signed signs x) (Expr-F.Signed signs x) (search (rules, the_lemmas))

pub of_chain : (x : Expr) (os : List (Operation Expr)) → uncounted (e.Chain x os) ≡ chain (mean x) (map (operation_of mean) os)
of_chain x os = uncounted_by (e.Chain x os) (Expr-F.Chain x os) (search (rules, the_lemmas))

pub of_if : (c x y : Expr) → uncounted (e.If c x y) ≡ conditional (mean c) (mean x) (mean y)
of_if c x y = uncounted_by (e.If c x y) (Expr-F.If c x y) (search (rules, the_lemmas))

pub of_quantified : (q : Quantifier) (bs : List (Binding Expr)) (x : Expr) → uncounted (e.Quantified q bs x) ≡ quantified q (map (binding_of mean) bs) (mean x)
of_quantified q bs x = uncounted_by (e.Quantified q bs x) (Expr-F.Quantified q bs x) (search (rules, the_lemmas))

-- clauses under a function that is this one on each form
clauses_alike : (h : Clause Expr → Clause Meaning) → ((b : Binding Expr) → h (clause.For b) ≡ clause_of mean (clause.For b))
    → ((b : Binding Expr) (at : List ℕ) → h (clause.ForAt b at) ≡ clause_of mean (clause.ForAt b at)) → ((b : Binding Expr) → h (clause.Let b) ≡ clause_of mean (clause.Let b))
    → (cs : List (Clause Expr)) → map h cs ≡ map (clause_of mean) cs
clauses_alike h for at binds [] = refl
clauses_alike h for at binds (clause.For b ∷ cs) = ap₂ (λ x xs. x ∷ xs) (for b) (clauses_alike h for at binds cs)
clauses_alike h for at binds (clause.ForAt b x ∷ cs) = ap₂ (λ y ys. y ∷ ys) (at b x) (clauses_alike h for at binds cs)
clauses_alike h for at binds (clause.Let b ∷ cs) = ap₂ (λ x xs. x ∷ xs) (binds b) (clauses_alike h for at binds cs)

pub of_flwor : (cs : List (Clause Expr)) (test : Option Expr) (keys : List (SortKey Expr)) (x : Expr)
    → uncounted (e.Flwor cs test keys x) ≡ flwor (map (clause_of mean) cs) (option_map mean test) (map (sort_key_of mean) keys) (mean x)
of_flwor cs None keys x =
    uncounted_by (e.Flwor cs None keys x) (Expr-F.Flwor cs None keys x) (search (rules, the_lemmas))
    ∙ ap (λ ds. flwor ds None (map (sort_key_of mean) keys) (mean x)) (clauses_alike _ (λ b. refl) (λ b at. refl) (λ b. refl) cs)
of_flwor cs (Some y) keys x =
    uncounted_by (e.Flwor cs (Some y) keys x) (Expr-F.Flwor cs (Some y) keys x) (search (rules, the_lemmas))
    ∙ ap (λ ds. flwor ds (Some (mean y)) (map (sort_key_of mean) keys) (mean x)) (clauses_alike _ (λ b. refl) (λ b at. refl) (λ b. refl) cs)

pub of_step : (axis : Axis) (test : NodeTest) (xs : List Expr) → uncounted (e.Step axis test xs) ≡ step axis test (map mean xs)
of_step axis test xs = uncounted_by (e.Step axis test xs) (Expr-F.Step axis test xs) (search (rules, the_lemmas))

pub of_filter : (x : Expr) (xs : List Expr) → uncounted (e.Filter x xs) ≡ filter_of (mean x) (map mean xs)
of_filter x xs = uncounted_by (e.Filter x xs) (Expr-F.Filter x xs) (search (rules, the_lemmas))

pub of_call : (f? : Option Function) (xs : List Expr) → uncounted (e.Call f? xs) ≡ call f? (map mean xs)
of_call f? xs = uncounted_by (e.Call f? xs) (Expr-F.Call f? xs) (search (rules, the_lemmas))

pub of_path : (x : Expr) (xs : List Expr) → uncounted (e.Path x xs) ≡ path (mean x) (map mean xs)
of_path x xs = uncounted_by (e.Path x xs) (Expr-F.Path x xs) (search (rules, the_lemmas))

pub of_attribute : (n : Name Expr) (x : Expr) → uncounted (e.Attribute n x) ≡ attribute (named_by mean n) (mean x)
of_attribute (name.Written text) x = uncounted_by (e.Attribute (name.Written text) x) (Expr-F.Attribute (name.Written text) x) (search (rules, the_lemmas))
of_attribute (name.Computed y) x = uncounted_by (e.Attribute (name.Computed y) x) (Expr-F.Attribute (name.Computed y) x) (search (rules, the_lemmas))

pub of_text : (x : Expr) → uncounted (e.Text x) ≡ text (mean x)
of_text x = uncounted_by (e.Text x) (Expr-F.Text x) (search (rules, the_lemmas))

pub of_comment : (x : Expr) → uncounted (e.Comment x) ≡ comment (mean x)
of_comment x = uncounted_by (e.Comment x) (Expr-F.Comment x) (search (rules, the_lemmas))

pub of_instruction : (n : Name Expr) (x : Expr) → uncounted (e.Instruction n x) ≡ instruction (named_by mean n) (mean x)
of_instruction (name.Written text) x = uncounted_by (e.Instruction (name.Written text) x) (Expr-F.Instruction (name.Written text) x) (search (rules, the_lemmas))
of_instruction (name.Computed y) x = uncounted_by (e.Instruction (name.Computed y) x) (Expr-F.Instruction (name.Computed y) x) (search (rules, the_lemmas))

pub of_document : (x : Expr) → uncounted (e.Document x) ≡ document (mean x)
of_document x = uncounted_by (e.Document x) (Expr-F.Document x) (search (rules, the_lemmas))

pub of_element : (n : Name Expr) (x : Expr) → uncounted (e.Element n x) ≡ element (named_by mean n) (mean x)
of_element (name.Written text) x = uncounted_by (e.Element (name.Written text) x) (Expr-F.Element (name.Written text) x) (search (rules, the_lemmas))
of_element (name.Computed y) x = uncounted_by (e.Element (name.Computed y) x) (Expr-F.Element (name.Computed y) x) (search (rules, the_lemmas))

pub of_insert : (source : Expr) (place : Place) (target : Expr) → uncounted (e.Insert source place target) ≡ insert (mean source) place (mean target)
of_insert source place target = uncounted_by (e.Insert source place target) (Expr-F.Insert source place target) (search (rules, the_lemmas))

pub of_delete : (target : Expr) → uncounted (e.Delete target) ≡ delete (mean target)
of_delete target = uncounted_by (e.Delete target) (Expr-F.Delete target) (search (rules, the_lemmas))

pub of_replace_node : (target source : Expr) → uncounted (e.ReplaceNode target source) ≡ replace_node (mean target) (mean source)
of_replace_node target source = uncounted_by (e.ReplaceNode target source) (Expr-F.ReplaceNode target source) (search (rules, the_lemmas))

pub of_replace_value : (target source : Expr) → uncounted (e.ReplaceValue target source) ≡ replace_value (mean target) (mean source)
of_replace_value target source = uncounted_by (e.ReplaceValue target source) (Expr-F.ReplaceValue target source) (search (rules, the_lemmas))

pub of_rename : (target new : Expr) → uncounted (e.Rename target new) ≡ rename (mean target) (mean new)
of_rename target new = uncounted_by (e.Rename target new) (Expr-F.Rename target new) (search (rules, the_lemmas))

pub of_copy : (bs : List (Binding Expr)) (changes x : Expr) → uncounted (e.Copy bs changes x) ≡ copy (map (binding_of mean) bs) (mean changes) (mean x)
of_copy bs changes x = uncounted_by (e.Copy bs changes x) (Expr-F.Copy bs changes x) (search (rules, the_lemmas))
