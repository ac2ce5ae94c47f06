-- A comparison of an item with a literal comes to what its expression means.
use Rattle.std.proofs.Common.{◌≡◌, ◌∙◌, ℕ, zero, suc, unsigned_abs, Bool, List, [], ◌∷◌, Result, Ok, Err, refl, ap, rules, arith}
use Rattle.fault_codes.specs.declared.code.Code.{Code}
use Rattle.data_model.specs.Trees.{Trees}
use Rattle.values.specs.Items.{IsThere}
use Rattle.values.specs.Comparisons.{general_compared, pairs_compared, tried, tried_work}
use Rattle.values.specs.declared.atom.Atom.{Atom}
use Rattle.values.specs.declared.atom.Atom.TheVariants as atom
use Rattle.values.specs.declared.atom.Item.{Item}
use Rattle.values.specs.declared.atom.Item.TheVariants as item
use Rattle.values.specs.declared.compare.Comparison.{Comparison}
use Rattle.values.specs.declared.fault.ValueFault.{ValueFault}
use Rattle.values.specs.declared.fault.ValueFault.TheVariants as fault
use Rattle.query_grammar.specs.declared.ast.Binary.{Binary}
use Rattle.query_grammar.specs.declared.ast.Binary.TheVariants as binary
use Rattle.query_grammar.specs.declared.ast.Expr.{Expr}
use Rattle.query_grammar.specs.declared.ast.Expr.TheOpen.{Expr-F}
use Rattle.query_grammar.specs.declared.ast.Expr.TheViews.{the_lemmas}
use Rattle.query_grammar.specs.declared.ast.Expr.TheVariants as e
use Rattle.query_meaning.specs.Environment.{Environment}
use Rattle.query_meaning.specs.Meaning.{mean}
use Rattle.query_meaning.specs.Operators.{between_atoms, chain, compared_by_pairs}
use Rattle.query_meaning.specs.Running.{M, Run, and_then, ◌>>=◌, atom as atom_at, atoms, come_to, counted, pure, turns, work}
use Rattle.query_meaning.specs.Sequences.{number, one, string}
use Rattle.evaluation.specs.Gives.{Any, Gives, GivesIn, Stand}
use Rattle.read_items.specs.Pairs.{compared, items_compared}
use Rattle.evaluation.proofs.Alone.{item_atoms}
use Rattle.evaluation.proofs.Unfolded.{by_form}
use Rattle.item_expressions.specs.Compared.{IsLiteral, IsLiteralValue, comparison_expression, item_holds, literal_expression, literal_in, said}
use Rattle.item_expressions.specs.Subjects.{StandsFor, subject_expression, subject_work}
use Rattle.item_expressions.specs.declared.subject.Subject.{Subject}
use Rattle.item_expressions.proofs.Standing.{and_count, subject_means}

-- ---- by their forms
of_number : (n : ℕ) → mean (e.Integer n) ≡ (λ env. counted (number n env))
of_number n = by_form (e.Integer n) (Expr-F.Integer n) (search (rules, the_lemmas))

of_string : (text : List ℕ) → mean (e.String text) ≡ (λ env. counted (string text env))
of_string text = by_form (e.String text) (Expr-F.String text) (search (rules, the_lemmas))

pub of_chain : (x y : Expr) (b : Binary) → mean (e.Chain x (record { operator = b; operand = y } ∷ [])) ≡ (λ env. counted (chain (mean x) (record { operator = b; operand = mean y } ∷ []) env))
of_chain x y b = by_form (e.Chain x (record { operator = b; operand = y } ∷ [])) (Expr-F.Chain x (record { operator = b; operand = y } ∷ [])) (search (rules, the_lemmas))

-- ---- the literal
pub literal_means : (a : Atom) (env : Environment) (run : Run) → IsLiteralValue a → mean (literal_expression a) env run ≡ and_then (work 2 run) (λ _. pure (one a))
literal_means (atom.Integer z) env run is =
    ap (λ m. m env run) (of_number (unsigned_abs z)) ∙ ap (λ r. and_then (and_then (come_to r run) (λ y. pure (one (atom.Integer y)))) and_count) is
literal_means (atom.String text) env run is = ap (λ m. m env run) (of_string text)
literal_means (atom.Boolean b) env run is = absurd is
literal_means (atom.Untyped text) env run is = absurd is

pub literal_there : (ts : Trees) (y : Item) → IsLiteral y → IsThere ts y
literal_there ts (item.Atomic a) is = tt
literal_there ts (item.Node i) is = absurd is

-- ---- the comparison
module _ (op : Comparison) where
  abbrev boolean : Bool → M (List Item)
  boolean b = pure (one (atom.Boolean b))

  -- the operator's item and the expression's, counted
  abbrev pub counted_twice : Result (List Item × Run) Code → Result (List Item × Run) Code
  counted_twice r = and_then (and_then (and_then r and_count) (λ items. pure items)) and_count

  abbrev then_counted : Result (Bool × Run) Code → Result (List Item × Run) Code
  then_counted r = and_then (and_then r (λ b. work 2 >>= (λ _. work 2 >>= (λ _. pure b)))) boolean

  counted_last : (b : Bool) (run : Run) → counted_twice (Ok (one (atom.Boolean b), run)) ≡ then_counted (Ok (b, run))
  counted_last b run = first (work 2 run)
    where
      second : (r : Result (Unit {0} × Run) Code) → and_then r (λ _. boolean b) ≡ and_then (and_then r (λ _. pure b)) boolean
      second (Ok p) = refl
      second (Err code) = refl

      first : (r : Result (Unit {0} × Run) Code)
          → and_then (and_then (and_then r (λ _. boolean b)) (λ items. pure items)) and_count ≡ and_then (and_then r (λ _. work 2 >>= (λ _. pure b))) boolean
      first (Ok p) = second (work 2 p.1)
      first (Err code) = refl

  pair_compared : (a b : Atom) (run : Run) → counted_twice (compared_by_pairs op (a ∷ []) (b ∷ []) run) ≡ then_counted (compared op (a ∷ []) (b ∷ []) run)
  pair_compared a b run = over (general_compared op (a ∷ []) (b ∷ []) run.turns run.work)
    where
      last : (holds : Bool) (r : Result (Unit {0} × Run) Code) → counted_twice (and_then r (λ _. boolean holds)) ≡ then_counted (and_then r (λ _. pure holds))
      last holds (Ok p) = counted_last holds p.1
      last holds (Err code) = refl

      turned : (holds : Bool) (r : Result (Unit {0} × Run) Code)
          → counted_twice (and_then r (λ _. work (tried_work op (a ∷ []) (b ∷ [])) >>= (λ _. boolean holds))) ≡ then_counted (and_then r (λ _. work (tried_work op (a ∷ []) (b ∷ [])) >>= (λ _. pure holds)))
      turned holds (Ok p) = last holds (work (tried_work op (a ∷ []) (b ∷ [])) p.1)
      turned holds (Err code) = refl

      over : (o : Result Bool Code)
          → counted_twice (and_then (come_to o run) (λ holds. turns (tried (pairs_compared op (a ∷ []) (b ∷ []))) >>= (λ _. work (tried_work op (a ∷ []) (b ∷ [])) >>= (λ _. boolean holds))))
          ≡ then_counted (and_then (come_to o run) (λ holds. turns (tried (pairs_compared op (a ∷ []) (b ∷ []))) >>= (λ _. work (tried_work op (a ∷ []) (b ∷ [])) >>= (λ _. pure holds))))
      over (Ok holds) = turned holds (turns (tried (pairs_compared op (a ∷ []) (b ∷ []))) run)
      over (Err code) = refl

  -- the typed values
  pub item_compared : (x y : Item) (run : Run) → counted_twice (between_atoms (compared_by_pairs op) (x ∷ []) (y ∷ []) run) ≡ then_counted (items_compared op x y run)
  item_compared x y run = ap (λ r. counted_twice (and_then r (λ xs. atoms (y ∷ []) >>= compared_by_pairs op xs))) (item_atoms x run) ∙ over (atom_at x run)
    where
      other : (v : Atom) (r : Result (Atom × Run) Code) → counted_twice (and_then (and_then r (λ w. pure (w ∷ []))) (compared_by_pairs op (v ∷ []))) ≡ then_counted (and_then r (λ w. compared op (v ∷ []) (w ∷ [])))
      other v (Ok p) = pair_compared v p.0 p.1
      other v (Err code) = refl

      over : (r : Result (Atom × Run) Code)
          → counted_twice (and_then (and_then r (λ v. pure (v ∷ []))) (λ xs. atoms (y ∷ []) >>= compared_by_pairs op xs)) ≡ then_counted (and_then r (λ v. atom_at y >>= (λ w. compared op (v ∷ []) (w ∷ []))))
      over (Ok p) = ap (λ r. counted_twice (and_then r (compared_by_pairs op (p.0 ∷ [])))) (item_atoms y p.1) ∙ other p.0 (atom_at y p.1)
      over (Err code) = refl

  -- the operator after the value on its left
  abbrev operated : Atom → Environment → List Item → M (List Item)
  operated a env items = (mean (literal_expression a) env >>= between_atoms (compared_by_pairs op) items) >>= and_count >>= (λ items. pure items)

  -- both sides
  whole : (s : Subject) (x : Item) (a : Atom) (env : Environment) (run : Run) → StandsFor s x env → IsLiteralValue a
      → mean (comparison_expression s op a) env run ≡ and_then (item_holds s op x (item.Atomic a) run) boolean
  whole s x a env run stands is =
      ap (λ m. m env run) (of_chain (subject_expression s) (literal_expression a) (binary.General op))
      ∙ ap (λ r. and_then (and_then r (operated a env)) and_count) (subject_means s x env run stands)
      ∙ over (subject_work s run)
    where
      literal : (r : Result (Unit {0} × Run) Code)
          → counted_twice (and_then (and_then r (λ _. pure (one a))) (between_atoms (compared_by_pairs op) (x ∷ []))) ≡ then_counted (and_then r (λ _. items_compared op x (item.Atomic a)))
      literal (Ok p) = item_compared x (item.Atomic a) p.1
      literal (Err code) = refl

      turned : (r : Result (Unit {0} × Run) Code)
          → then_counted (and_then r (λ _. items_compared op x (item.Atomic a)))
          ≡ and_then (and_then r (λ _. items_compared op x (item.Atomic a) >>= (λ b. work 2 >>= (λ _. work 2 >>= (λ _. pure b))))) boolean
      turned (Ok p) = refl
      turned (Err code) = refl

      over : (r : Result (Unit {0} × Run) Code)
          → and_then (and_then (and_then r (λ _. pure (x ∷ []))) (operated a env)) and_count
          ≡ and_then (and_then (and_then r (λ _. work 2)) (λ _. items_compared op x (item.Atomic a) >>= (λ b. work 2 >>= (λ _. work 2 >>= (λ _. pure b))))) boolean
      over (Ok p) =
          ap (λ r. counted_twice (and_then r (between_atoms (compared_by_pairs op) (x ∷ [])))) (literal_means a env p.1 is)
          ∙ literal (work 2 p.1) ∙ turned (work 2 p.1)
      over (Err code) = refl

  whole_of : (s : Subject) (x y : Item) (env : Environment) (run : Run) → StandsFor s x env → IsLiteral y
      → mean (comparison_expression s op (literal_in y)) env run ≡ and_then (item_holds s op x y run) boolean
  whole_of s x (item.Atomic a) env run stands is = whole s x a env run stands is
  whole_of s x (item.Node i) env run stands is = absurd is

  -- so what holds of the item is what the expression gives
  pub as_meant : (s : Subject) (x y : Item) (env : Environment) (old new : Run) (r : Result Bool ValueFault) → StandsFor s x env → IsLiteral y
      → GivesIn Any (item_holds s op x y) old r new → Gives (mean (comparison_expression s op (literal_in y)) env) old (said r) new
  as_meant s x y env old new (Ok b) stands is given = (whole_of s x y env old stands is ∙ ap (λ r. and_then r boolean) given.0, (given.1.0, atomic_stands))
    where
      atomic_stands : Stand (one (atom.Boolean b)) new
      atomic_stands zero d h = tt
      atomic_stands (suc k) d h = absurd (omega (arith, h))
  as_meant s x y env old new (Err fault.Memory) stands is given = tt
  as_meant s x y env old new (Err (fault.Code code)) stands is given = whole_of s x y env old stands is ∙ ap (λ r. and_then r boolean) given
