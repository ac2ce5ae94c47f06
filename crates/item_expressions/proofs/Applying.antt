-- A function of an item comes to what its expression means.
use Rattle.std.proofs.Common.{◌≡◌, ◌∙◌, ℕ, zero, suc, pos, chars, List, [], ◌∷◌, ◌++◌, length, Some, Result, Ok, Err, refl, ap, rules, arith}
use Rattle.fault_codes.specs.declared.code.Code.{Code}
use Rattle.values.specs.Work.{text_work}
use Rattle.values.specs.declared.atom.Atom.{Atom}
use Rattle.values.specs.declared.atom.Atom.TheVariants as atom
use Rattle.values.specs.declared.atom.Item.{Item}
use Rattle.values.specs.declared.atom.Item.TheVariants as item
use Rattle.values.specs.declared.fault.ValueFault.{ValueFault}
use Rattle.values.specs.declared.fault.ValueFault.TheVariants as fault
use Rattle.query_grammar.specs.declared.ast.Expr.{Expr}
use Rattle.query_grammar.specs.declared.ast.Expr.TheOpen.{Expr-F}
use Rattle.query_grammar.specs.declared.ast.Expr.TheViews.{the_lemmas}
use Rattle.query_grammar.specs.declared.ast.Expr.TheVariants as e
use Rattle.query_grammar.specs.declared.functions.Function.{Function}
use Rattle.query_grammar.specs.declared.functions.Function.TheVariants as function
use Rattle.query_meaning.specs.Environment.{Environment}
use Rattle.query_meaning.specs.Functions.{application, call, first_printed, integer, string, string_argument}
use Rattle.query_meaning.specs.Meaning.{mean}
use Rattle.query_meaning.specs.Running.{M, Run, and_then, ◌>>=◌, atom as atom_at, come_to, counted, pure, work}
use Rattle.query_meaning.specs.Strings.{printed, text_in}
use Rattle.evaluation.specs.Gives.{Gives, GivesIn, Stand}
use Rattle.evaluation.proofs.Alone.{item_atoms}
use Rattle.evaluation.proofs.Unfolded.{by_form}
use Rattle.item_expressions.specs.Applied.{IsIn, IsMade, applied, function_expression, given_one, length_at, printed_string}
use Rattle.item_expressions.specs.Compared.{IsLiteral, literal_expression, literal_in}
use Rattle.item_expressions.specs.Subjects.{StandsFor, subject_expression, subject_work}
use Rattle.item_expressions.specs.declared.item_function.Made.{Made}
use Rattle.item_expressions.specs.declared.item_function.Made.TheVariants as made
use Rattle.item_expressions.specs.declared.subject.Subject.{Subject}
use Rattle.item_expressions.proofs.Calculating.{calculated_means_it, concat_means_it, tested_means_it}
use Rattle.item_expressions.proofs.Comparing.{literal_means}
use Rattle.item_expressions.proofs.Standing.{and_count, subject_means}

of_call : (f : Function) (x : Expr) → mean (e.Call (Some f) (x ∷ [])) ≡ (λ env. counted (call (Some f) (mean x ∷ []) env))
of_call f x = by_form (e.Call (Some f) (x ∷ [])) (Expr-F.Call (Some f) (x ∷ [])) (search (rules, the_lemmas))

abbrev alone : Item → M (List Item)
alone x = pure (x ∷ [])

-- a call with the item as its argument
module _ (f : Function) (env : Environment) where
  abbrev called : List Item → M (List Item)
  called x = application f env (x ∷ [])

  call_means : (s : Subject) (x : Item) (run : Run) → StandsFor s x env → mean (e.Call (Some f) (subject_expression s ∷ [])) env run ≡ and_then (subject_work s run) (λ _. called (x ∷ []) >>= and_count)
  call_means s x run stands =
      ap (λ m. m env run) (of_call f (subject_expression s))
      ∙ ap (λ r. and_then (and_then (and_then (and_then r (λ y. pure ([] ++ y ∷ []))) (λ ys. pure ys)) (λ values. application f env values)) and_count) (subject_means s x env run stands)
      ∙ over (subject_work s run)
    where
      over : (r : Result (Unit {0} × Run) Code)
          → and_then (and_then (and_then (and_then (and_then r (λ _. pure (x ∷ []))) (λ y. pure ([] ++ y ∷ []))) (λ ys. pure ys)) (λ values. application f env values)) and_count
          ≡ and_then r (λ _. called (x ∷ []) >>= and_count)
      over (Ok p) = refl
      over (Err code) = refl

-- ---- `string`
module _ (env : Environment) (x : Item) where
  string_made : (text : List ℕ) (run : Run) → and_then (string text run) and_count ≡ and_then ((work (text_work text) >>= (λ _. work 2 >>= (λ _. pure (item.Atomic (atom.String text))))) run) alone
  string_made text run = over (work (text_work text) run)
    where
      counted_too : (r : Result (Unit {0} × Run) Code) → and_then r (λ _. alone (item.Atomic (atom.String text))) ≡ and_then (and_then r (λ _. pure (item.Atomic (atom.String text)))) alone
      counted_too (Ok p) = refl
      counted_too (Err code) = refl

      over : (r : Result (Unit {0} × Run) Code)
          → and_then (and_then r (λ _. alone (item.Atomic (atom.String text)))) and_count ≡ and_then (and_then r (λ _. work 2 >>= (λ _. pure (item.Atomic (atom.String text))))) alone
      over (Ok p) = counted_too (work 2 p.1)
      over (Err code) = refl

  string_means : (run : Run) → (called function.String env (x ∷ []) >>= and_count) run ≡ and_then (printed_string x run) alone
  string_means run = ap (λ r. and_then (and_then r (λ values. string (first_printed values))) and_count) (item_atoms x run) ∙ over (atom_at x run)
    where
      over : (r : Result (Atom × Run) Code)
          → and_then (and_then (and_then r (λ a. pure (a ∷ []))) (λ values. string (first_printed values))) and_count
          ≡ and_then (and_then (and_then r (λ a. pure (printed a))) (λ text. work (text_work text) >>= (λ _. work 2 >>= (λ _. pure (item.Atomic (atom.String text)))))) alone
      over (Ok p) = string_made (printed p.0) p.1
      over (Err code) = refl

  -- ---- `string-length`
  length_means : (run : Run) → (called function.StringLength env (x ∷ []) >>= and_count) run ≡ and_then (length_at x run) alone
  length_means run = ap (λ r. and_then (and_then r (λ values. come_to (string_argument values) >>= (λ text. integer (pos (length (chars text)))))) and_count) (item_atoms x run) ∙ over (atom_at x run)
    where
      counted_too : (y : Item) (r : Result (Unit {0} × Run) Code) → and_then r (λ _. alone y) ≡ and_then (and_then r (λ _. pure y)) alone
      counted_too y (Ok p) = refl
      counted_too y (Err code) = refl

      text : (o : Result (List ℕ) Code) (run : Run)
          → and_then (and_then (come_to o run) (λ text. integer (pos (length (chars text))))) and_count
          ≡ and_then (and_then (and_then (come_to o run) (λ text. pure (length (chars text)))) (λ count. work 2 >>= (λ _. pure (item.Atomic (atom.Integer (pos count)))))) alone
      text (Ok t) run = counted_too (item.Atomic (atom.Integer (pos (length (chars t))))) (work 2 run)
      text (Err code) run = refl

      over : (r : Result (Atom × Run) Code)
          → and_then (and_then (and_then r (λ a. pure (a ∷ []))) (λ values. come_to (string_argument values) >>= (λ text. integer (pos (length (chars text)))))) and_count
          ≡ and_then (and_then (and_then (and_then r (λ a. come_to (text_in a))) (λ text. pure (length (chars text)))) (λ count. work 2 >>= (λ _. pure (item.Atomic (atom.Integer (pos count)))))) alone
      over (Ok p) = text (text_in p.0) p.1
      over (Err code) = refl

-- ---- all of it
after_work : {A : Type 0} (r : Result (Unit {0} × Run) Code) (f : M A) (g : M (List Item)) (h : A → M (List Item)) → ((run : Run) → g run ≡ and_then (f run) h) → and_then r (λ _. g) ≡ and_then (and_then r (λ _. f)) h
after_work (Ok p) f g h same = same p.1
after_work (Err code) f g h same = refl

literal_means_it : (s : Subject) (y x : Item) (env : Environment) (run : Run) → IsLiteral y → mean (literal_expression (literal_in y)) env run ≡ and_then (applied s (made.Literal y) x run) alone
literal_means_it s (item.Atomic a) x env run is = literal_means a env run is ∙ after_work (work 2 run) (pure (item.Atomic a)) (alone (item.Atomic a)) alone (λ run. refl)
literal_means_it s (item.Node i) x env run is = absurd is

whole : (s : Subject) (m : Made) (x : Item) (env : Environment) (run : Run) → StandsFor s x env → IsMade m → mean (function_expression s m) env run ≡ and_then (applied s m x run) alone
whole s made.Itself x env run stands is = subject_means s x env run stands ∙ after_work (subject_work s run) (pure x) (alone x) alone (λ run. refl)
whole s made.String x env run stands is = call_means function.String env s x run stands ∙ after_work (subject_work s run) (printed_string x) (called function.String env (x ∷ []) >>= and_count) alone (string_means env x)
whole s made.Length x env run stands is = call_means function.StringLength env s x run stands ∙ after_work (subject_work s run) (length_at x) (called function.StringLength env (x ∷ []) >>= and_count) alone (length_means env x)
whole s (made.Literal y) x env run stands is = literal_means_it s y x env run is
whole s (made.Concat y) x env run stands is = concat_means_it s y x env run stands is
whole s (made.Tested t y) x env run stands is = tested_means_it t s y x env run stands is
whole s (made.Calculated op y) x env run stands is = calculated_means_it op s y x env run stands is

-- so what is made of the item is what the expression gives
pub as_meant : (s : Subject) (m : Made) (x : Item) (env : Environment) (old new : Run) (r : Result Item ValueFault) → StandsFor s x env → IsMade m
    → GivesIn IsIn (applied s m x) old r new → Gives (mean (function_expression s m) env) old (given_one r) new
as_meant s m x env old new (Ok y) stands is given = (whole s m x env old stands is ∙ ap (λ r. and_then r alone) given.0, (given.1.0, stands_alone))
  where
    stands_alone : Stand (y ∷ []) new
    stands_alone zero d h = given.1.1
    stands_alone (suc k) d h = absurd (omega (arith, h))
as_meant s m x env old new (Err fault.Memory) stands is given = tt
as_meant s m x env old new (Err (fault.Code code)) stands is given = whole s m x env old stands is ∙ ap (λ r. and_then r alone) given
