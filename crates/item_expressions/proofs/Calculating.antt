-- A function of an item and a literal comes to what its expression means.
use Rattle.std.proofs.Common.{◌≡◌, ◌∙◌, ℕ, ℤ, Bool, ◌==◌, List, [], ◌∷◌, ◌++◌, Some, Result, Ok, Err, refl, ap, rules, append-nil}
use Rattle.std.specs.List.{concat, starts_with, ends_with}
use Rattle.fault_codes.specs.declared.code.Code.{Code}
use Rattle.values.specs.Work.{text_work}
use Rattle.values.specs.declared.atom.Atom.{Atom}
use Rattle.values.specs.declared.atom.Atom.TheVariants as atom
use Rattle.values.specs.declared.atom.Item.{Item}
use Rattle.values.specs.declared.atom.Item.TheVariants as item
use Rattle.values.specs.declared.operators.Operator.{Operator}
use Rattle.query_grammar.specs.declared.ast.Binary.TheVariants as binary
use Rattle.query_grammar.specs.declared.ast.Expr.{Expr}
use Rattle.query_grammar.specs.declared.ast.Expr.TheOpen.{Expr-F}
use Rattle.query_grammar.specs.declared.ast.Expr.TheViews.{the_lemmas}
use Rattle.query_grammar.specs.declared.ast.Expr.TheVariants as e
use Rattle.query_grammar.specs.declared.functions.Function.{Function}
use Rattle.query_grammar.specs.declared.functions.Function.TheVariants as function
use Rattle.query_meaning.specs.Environment.{Environment}
use Rattle.query_meaning.specs.Functions.{application, at_most_one_each, call, concatenated, contains, of_texts, of_two, string}
use Rattle.query_meaning.specs.Meaning.{mean}
use Rattle.query_meaning.specs.Operators.{between_atoms, calculated, integers}
use Rattle.query_meaning.specs.Running.{M, Run, and_then, ◌>>=◌, atom as atom_at, atoms, come_to, counted, each, pure, work}
use Rattle.query_meaning.specs.Strings.{limited, printed, text_in}
use Rattle.query_meaning.specs.Sequences.{Meaning, one}
use Rattle.query_strings.specs.ItemTexts.{printed_item}
use Rattle.query_strings.specs.declared.tests.TextTest.{TextTest}
use Rattle.query_strings.specs.declared.tests.TextTest.TheVariants as test
use Rattle.evaluation.proofs.Alone.{item_atoms}
use Rattle.evaluation.proofs.Unfolded.{by_form}
use Rattle.item_expressions.specs.Applied.{applied, calculated_with, concatenated_with, function_expression, joined, tested_with}
use Rattle.item_expressions.specs.Compared.{IsLiteral, IsLiteralValue, literal_expression, literal_in, sides}
use Rattle.item_expressions.specs.Numbers.{number_of}
use Rattle.item_expressions.specs.Subjects.{StandsFor, subject_expression, subject_work}
use Rattle.item_expressions.specs.declared.item_function.Made.TheVariants as made
use Rattle.item_expressions.specs.declared.subject.Subject.{Subject}
use Rattle.item_expressions.proofs.Comparing.{literal_means, of_chain}
use Rattle.item_expressions.proofs.Numbers.{number_is, some}
use Rattle.item_expressions.proofs.Standing.{and_count, subject_means}

abbrev alone : Item → M (List Item)
alone x = pure (x ∷ [])

-- the item that was given, counted
counted_too : (y : Item) (r : Result (Unit {0} × Run) Code) → and_then r (λ _. alone y) ≡ and_then (and_then r (λ _. pure y)) alone
counted_too y (Ok p) = refl
counted_too y (Err code) = refl

-- ---- calls with a literal
of_call : (f : Function) (x y : Expr) → mean (e.Call (Some f) (x ∷ y ∷ [])) ≡ (λ env. counted (call (Some f) (mean x ∷ mean y ∷ []) env))
of_call f x y = by_form (e.Call (Some f) (x ∷ y ∷ [])) (Expr-F.Call (Some f) (x ∷ y ∷ [])) (search (rules, the_lemmas))

-- a call whose function comes to that of the two values
module _ (f : Function) (made : Item → Item → M Item) (env : Environment) (same : (x y : Item) (run : Run) → (application f env ((x ∷ []) ∷ (y ∷ []) ∷ []) >>= and_count) run ≡ and_then (made y x run) alone) where
  abbrev called : List (List Item) → M (List Item)
  called values = application f env values

  abbrev and_value : ℕ → List (List Item) → Meaning → M (List (List Item))
  and_value _ given m = m env >>= (λ y. pure (given ++ y ∷ []))

  call_whole : (s : Subject) (x : Item) (a : Atom) (run : Run) → StandsFor s x env → IsLiteralValue a
      → mean (e.Call (Some f) (subject_expression s ∷ literal_expression a ∷ [])) env run ≡ and_then (and_then (sides s run) (λ _. made (item.Atomic a) x)) alone
  call_whole s x a run stands is =
      ap (λ m. m env run) (of_call f (subject_expression s) (literal_expression a))
      ∙ ap (λ r. and_then (and_then (and_then (and_then r (λ y. pure ([] ++ y ∷ []))) (each and_value 1 (mean (literal_expression a) ∷ []))) called) and_count) (subject_means s x env run stands)
      ∙ over (subject_work s run)
    where
      literal : (r : Result (Unit {0} × Run) Code)
          → and_then (and_then (and_then (and_then (and_then r (λ _. pure (one a))) (λ y. pure ((x ∷ []) ∷ y ∷ []))) (λ ys. pure ys)) called) and_count ≡ and_then (and_then r (λ _. made (item.Atomic a) x)) alone
      literal (Ok p) = same x (item.Atomic a) p.1
      literal (Err code) = refl

      over : (r : Result (Unit {0} × Run) Code)
          → and_then (and_then (and_then (and_then (and_then r (λ _. pure (x ∷ []))) (λ y. pure ([] ++ y ∷ []))) (each and_value 1 (mean (literal_expression a) ∷ []))) called) and_count
          ≡ and_then (and_then (and_then r (λ _. work 2)) (λ _. made (item.Atomic a) x)) alone
      over (Ok p) =
          ap (λ r. and_then (and_then (and_then (and_then r (λ y. pure ((x ∷ []) ∷ y ∷ []))) (λ ys. pure ys)) called) and_count) (literal_means a env p.1 is)
          ∙ literal (work 2 p.1)
      over (Err code) = refl

-- ---- `concat`
string_made : (text : List ℕ) (run : Run) → and_then (string text run) and_count ≡ and_then ((work (text_work text) >>= (λ _. work 2 >>= (λ _. pure (item.Atomic (atom.String text))))) run) alone
string_made text run = over (work (text_work text) run)
  where
    over : (r : Result (Unit {0} × Run) Code)
        → and_then (and_then r (λ _. alone (item.Atomic (atom.String text)))) and_count ≡ and_then (and_then r (λ _. work 2 >>= (λ _. pure (item.Atomic (atom.String text))))) alone
    over (Ok p) = counted_too (item.Atomic (atom.String text)) (work 2 p.1)
    over (Err code) = refl

-- two texts, of which the definition makes a list
joined_made : (s t : List ℕ) (run : Run) → and_then ((come_to (limited (s ++ (t ++ []))) >>= string) run) and_count ≡ and_then (joined s t run) alone
joined_made s t run = ap (λ u. and_then ((come_to (limited (s ++ u)) >>= string) run) and_count) (append-nil t) ∙ over (limited (s ++ t))
  where
    over : (o : Result (List ℕ) Code)
        → and_then (and_then (come_to o run) string) and_count ≡ and_then (and_then (come_to o run) (λ text. work (text_work text) >>= (λ _. work 2 >>= (λ _. pure (item.Atomic (atom.String text)))))) alone
    over (Ok text) = string_made text run
    over (Err code) = refl

module _ (env : Environment) where
  -- the texts of the values of all arguments, and what is made of them
  abbrev from_values : List (List Atom) → M (List Item)
  from_values values = at_most_one_each values >>= (λ texts. come_to (limited (concat texts)) >>= string)

  -- an argument more
  abbrev and_values : ℕ → List (List Atom) → List Item → M (List (List Atom))
  and_values _ given items = atoms items >>= (λ values. pure (given ++ values ∷ []))

  concat_means : (x y : Item) (run : Run) → (concatenated env ((x ∷ []) ∷ (y ∷ []) ∷ []) >>= and_count) run ≡ and_then (concatenated_with y x run) alone
  concat_means x y run =
      ap (λ r. and_then (and_then (and_then (and_then r (λ values. pure ([] ++ values ∷ []))) (each and_values 1 ((y ∷ []) ∷ []))) from_values) and_count) (item_atoms x run) ∙ over (atom_at x run)
    where
      other : (a : Atom) (r : Result (Atom × Run) Code)
          → and_then (and_then (and_then (and_then (and_then r (λ b. pure (b ∷ []))) (λ values. pure ((a ∷ []) ∷ values ∷ []))) (λ all. pure all)) from_values) and_count
          ≡ and_then (and_then (and_then r (λ b. pure (printed b))) (λ second. joined (printed a) second)) alone
      other a (Ok p) = joined_made (printed a) (printed p.0) p.1
      other a (Err code) = refl

      over : (r : Result (Atom × Run) Code)
          → and_then (and_then (and_then (and_then (and_then r (λ a. pure (a ∷ []))) (λ values. pure ([] ++ values ∷ []))) (each and_values 1 ((y ∷ []) ∷ []))) from_values) and_count
          ≡ and_then (and_then (and_then r (λ a. pure (printed a))) (λ first. printed_item y >>= (λ second. joined first second))) alone
      over (Ok p) =
          ap (λ r. and_then (and_then (and_then (and_then r (λ values. pure ((p.0 ∷ []) ∷ values ∷ []))) (λ all. pure all)) from_values) and_count) (item_atoms y p.1)
          ∙ other p.0 (atom_at y p.1)
      over (Err code) = refl

-- ---- `contains`, `starts-with` and `ends-with`
module _ (holds : List ℕ → List ℕ → Bool) (env : Environment) where
  abbrev judged : List ℕ → List ℕ → M (List Item)
  judged s t = alone (item.Atomic (atom.Boolean (holds s t)))

  abbrev then_judged : List ℕ → List ℕ → M Item
  then_judged s t = work 2 >>= (λ _. pure (item.Atomic (atom.Boolean (holds s t))))

  texts_judged : (a b : Atom) (run : Run) → and_then (of_texts holds (a ∷ []) (b ∷ []) run) and_count ≡ and_then ((come_to (text_in a) >>= (λ s. come_to (text_in b) >>= (λ t. then_judged s t))) run) alone
  texts_judged a b run = first (text_in a)
    where
      second : (s : List ℕ) (o : Result (List ℕ) Code) → and_then (and_then (come_to o run) (judged s)) and_count ≡ and_then (and_then (come_to o run) (then_judged s)) alone
      second s (Ok t) = counted_too (item.Atomic (atom.Boolean (holds s t))) (work 2 run)
      second s (Err code) = refl

      first : (o : Result (List ℕ) Code)
          → and_then (and_then (come_to o run) (λ s. come_to (text_in b) >>= judged s)) and_count ≡ and_then (and_then (come_to o run) (λ s. come_to (text_in b) >>= then_judged s)) alone
      first (Ok s) = second s (text_in b)
      first (Err code) = refl

  -- what is asked of the typed values
  abbrev tested_by : Item → Item → M Item
  tested_by y x = atom_at x >>= (λ a. atom_at y >>= (λ b. come_to (text_in a) >>= (λ s. come_to (text_in b) >>= (λ t. then_judged s t))))

  texts_mean : (x y : Item) (run : Run) → (of_two (of_texts holds) env ((x ∷ []) ∷ (y ∷ []) ∷ []) >>= and_count) run ≡ and_then (tested_by y x run) alone
  texts_mean x y run = ap (λ r. and_then (and_then r (λ xs. atoms (y ∷ []) >>= of_texts holds xs)) and_count) (item_atoms x run) ∙ over (atom_at x run)
    where
      other : (a : Atom) (r : Result (Atom × Run) Code)
          → and_then (and_then (and_then r (λ b. pure (b ∷ []))) (of_texts holds (a ∷ []))) and_count
          ≡ and_then (and_then r (λ b. come_to (text_in a) >>= (λ s. come_to (text_in b) >>= (λ t. then_judged s t)))) alone
      other a (Ok p) = texts_judged a p.0 p.1
      other a (Err code) = refl

      over : (r : Result (Atom × Run) Code)
          → and_then (and_then (and_then r (λ a. pure (a ∷ []))) (λ xs. atoms (y ∷ []) >>= of_texts holds xs)) and_count
          ≡ and_then (and_then r (λ a. atom_at y >>= (λ b. come_to (text_in a) >>= (λ s. come_to (text_in b) >>= (λ t. then_judged s t))))) alone
      over (Ok p) = ap (λ r. and_then (and_then r (of_texts holds (p.0 ∷ []))) and_count) (item_atoms y p.1) ∙ other p.0 (atom_at y p.1)
      over (Err code) = refl

-- ---- arithmetic
module _ (op : Operator) where
  -- the operator's item and the expression's, counted
  abbrev counted_twice : Result (List Item × Run) Code → Result (List Item × Run) Code
  counted_twice r = and_then (and_then (and_then r and_count) (λ items. pure items)) and_count

  abbrev then_counted : Result (ℤ × Run) Code → Result (List Item × Run) Code
  then_counted r = and_then (and_then r (λ z. work 2 >>= (λ _. work 2 >>= (λ _. pure (item.Atomic (atom.Integer z)))))) alone

  counted_last : (z : ℤ) (run : Run) → counted_twice (Ok (one (atom.Integer z), run)) ≡ then_counted (Ok (z, run))
  counted_last z run = first (work 2 run)
    where
      first : (r : Result (Unit {0} × Run) Code)
          → and_then (and_then (and_then r (λ _. alone (item.Atomic (atom.Integer z)))) (λ items. pure items)) and_count
          ≡ and_then (and_then r (λ _. work 2 >>= (λ _. pure (item.Atomic (atom.Integer z))))) alone
      first (Ok p) = counted_too (item.Atomic (atom.Integer z)) (work 2 p.1)
      first (Err code) = refl

  values_calculated : (a b : Atom) (run : Run) → counted_twice (calculated op (a ∷ []) (b ∷ []) run) ≡ then_counted (come_to (number_of op a b) run)
  values_calculated a b run = ap (λ o. counted_twice (and_then (come_to o run) (λ o. pure (integers o)))) (number_is op a b) ∙ over (number_of op a b)
    where
      over : (o : Result ℤ Code) → counted_twice (and_then (come_to (some o) run) (λ o. pure (integers o))) ≡ then_counted (come_to o run)
      over (Ok z) = counted_last z run
      over (Err code) = refl

  items_calculated : (x y : Item) (run : Run) → counted_twice (between_atoms (calculated op) (x ∷ []) (y ∷ []) run) ≡ and_then (calculated_with op y x run) alone
  items_calculated x y run = ap (λ r. counted_twice (and_then r (λ xs. atoms (y ∷ []) >>= calculated op xs))) (item_atoms x run) ∙ over (atom_at x run)
    where
      other : (a : Atom) (r : Result (Atom × Run) Code)
          → counted_twice (and_then (and_then r (λ b. pure (b ∷ []))) (calculated op (a ∷ [])))
          ≡ and_then (and_then r (λ b. come_to (number_of op a b) >>= (λ z. work 2 >>= (λ _. work 2 >>= (λ _. pure (item.Atomic (atom.Integer z))))))) alone
      other a (Ok p) = values_calculated a p.0 p.1
      other a (Err code) = refl

      over : (r : Result (Atom × Run) Code)
          → counted_twice (and_then (and_then r (λ a. pure (a ∷ []))) (λ xs. atoms (y ∷ []) >>= calculated op xs))
          ≡ and_then (and_then r (λ a. atom_at y >>= (λ b. come_to (number_of op a b) >>= (λ z. work 2 >>= (λ _. work 2 >>= (λ _. pure (item.Atomic (atom.Integer z)))))))) alone
      over (Ok p) = ap (λ r. counted_twice (and_then r (calculated op (p.0 ∷ [])))) (item_atoms y p.1) ∙ other p.0 (atom_at y p.1)
      over (Err code) = refl

  calculated_whole : (s : Subject) (x : Item) (a : Atom) (env : Environment) (run : Run) → StandsFor s x env → IsLiteralValue a
      → mean (function_expression s (made.Calculated op (item.Atomic a))) env run ≡ and_then (applied s (made.Calculated op (item.Atomic a)) x run) alone
  calculated_whole s x a env run stands is =
      ap (λ m. m env run) (of_chain (subject_expression s) (literal_expression a) (binary.Arithmetic op))
      ∙ ap (λ r. and_then (and_then r operated) and_count) (subject_means s x env run stands)
      ∙ over (subject_work s run)
    where
      operated : List Item → M (List Item)
      operated items = (mean (literal_expression a) env >>= between_atoms (calculated op) items) >>= and_count >>= (λ items. pure items)

      literal : (r : Result (Unit {0} × Run) Code)
          → counted_twice (and_then (and_then r (λ _. pure (one a))) (between_atoms (calculated op) (x ∷ []))) ≡ and_then (and_then r (λ _. calculated_with op (item.Atomic a) x)) alone
      literal (Ok p) = items_calculated x (item.Atomic a) p.1
      literal (Err code) = refl

      over : (r : Result (Unit {0} × Run) Code)
          → and_then (and_then (and_then r (λ _. pure (x ∷ []))) operated) and_count ≡ and_then (and_then (and_then r (λ _. work 2)) (λ _. calculated_with op (item.Atomic a) x)) alone
      over (Ok p) = ap (λ r. counted_twice (and_then r (between_atoms (calculated op) (x ∷ [])))) (literal_means a env p.1 is) ∙ literal (work 2 p.1)
      over (Err code) = refl

-- ---- with the literal as an item
pub concat_means_it : (s : Subject) (y x : Item) (env : Environment) (run : Run) → StandsFor s x env → IsLiteral y
    → mean (function_expression s (made.Concat y)) env run ≡ and_then (applied s (made.Concat y) x run) alone
concat_means_it s (item.Atomic a) x env run stands is = call_whole function.Concat concatenated_with env (concat_means env) s x a run stands is
concat_means_it s (item.Node i) x env run stands is = absurd is

pub tested_means_it : (t : TextTest) (s : Subject) (y x : Item) (env : Environment) (run : Run) → StandsFor s x env → IsLiteral y
    → mean (function_expression s (made.Tested t y)) env run ≡ and_then (applied s (made.Tested t y) x run) alone
tested_means_it test.Contains s (item.Atomic a) x env run stands is = call_whole function.Contains (tested_with test.Contains) env (texts_mean contains env) s x a run stands is
tested_means_it test.StartsWith s (item.Atomic a) x env run stands is = call_whole function.StartsWith (tested_with test.StartsWith) env (texts_mean (starts_with ◌==◌) env) s x a run stands is
tested_means_it test.EndsWith s (item.Atomic a) x env run stands is = call_whole function.EndsWith (tested_with test.EndsWith) env (texts_mean (ends_with ◌==◌) env) s x a run stands is
tested_means_it t s (item.Node i) x env run stands is = absurd is

pub calculated_means_it : (op : Operator) (s : Subject) (y x : Item) (env : Environment) (run : Run) → StandsFor s x env → IsLiteral y
    → mean (function_expression s (made.Calculated op y)) env run ≡ and_then (applied s (made.Calculated op y) x run) alone
calculated_means_it op s (item.Atomic a) x env run stands is = calculated_whole op s x a env run stands is
calculated_means_it op s (item.Node i) x env run stands is = absurd is
