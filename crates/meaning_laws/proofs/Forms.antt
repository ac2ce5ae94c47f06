-- Each form keeps what its parts keep.
use Rattle.std.proofs.Common.{ℕ, suc, ◌+◌, ◌-◌, ◌*◌, ℤ, pos, neg_ℤ, ◌+ℤ◌, Bool, true, false, not, ◌&&◌, ◌||◌, List, [], ◌∷◌, ◌++◌, length, map, reverse, filter, Option, Some, None, Result, Err}
use Rattle.std.specs.List.{starts_with, ends_with, concat}
use Rattle.std.specs.Prelude.{◌==◌, chars}
use Rattle.data_model.specs.Order.{identities, precedes}
use Rattle.data_model.specs.Axes.{is_in}
use Rattle.data_model.specs.Changes.{renumbered}
use Rattle.data_model.specs.Trees.{Trees, no_trees, tree, leaf, append, find, size}
use Rattle.data_model.specs.Walks.{root_of}
use Rattle.data_model.specs.declared.axis.Axis.{Axis}
use Rattle.data_model.specs.declared.node.Kind.{Kind}
use Rattle.data_model.specs.declared.node.Kind.TheVariants as kind
use Rattle.fault_codes.specs.declared.code.Code.{Code}
use Rattle.fault_codes.specs.declared.code.Code.TheVariants as code
use Rattle.values.specs.declared.compare.Comparison.{Comparison}
use Rattle.values.specs.declared.operators.Operator.{Operator}
use Rattle.values.specs.declared.atom.Atom.{Atom}
use Rattle.values.specs.declared.atom.Atom.TheVariants as atom
use Rattle.values.specs.declared.atom.Item.{Item}
use Rattle.values.specs.declared.atom.Item.TheVariants as item
use Rattle.values.specs.Arithmetic.{arithmetic, operand, operands, in_range}
use Rattle.values.specs.Atoms.{or_fault, truth}
use Rattle.values.specs.Comparisons.{value_compared, general_compared, pairs_compared, tried, tried_work}
use Rattle.values.specs.Work.{text_work}
use Rattle.query_grammar.specs.declared.ast.Binary.{Binary}
use Rattle.query_grammar.specs.declared.ast.Binary.TheVariants as binary
use Rattle.query_grammar.specs.declared.ast.Binding.{Binding}
use Rattle.query_grammar.specs.declared.ast.Clause.{Clause}
use Rattle.query_grammar.specs.declared.ast.Clause.TheVariants as clause
use Rattle.query_grammar.specs.declared.ast.Name.{Name}
use Rattle.query_grammar.specs.declared.ast.Name.TheVariants.{Written, Computed}
use Rattle.query_grammar.specs.declared.ast.NodeTest.{NodeTest}
use Rattle.query_grammar.specs.declared.ast.Operation.{Operation}
use Rattle.query_grammar.specs.declared.ast.Quantifier.{Quantifier}
use Rattle.query_grammar.specs.declared.ast.Sign.{Sign}
use Rattle.query_grammar.specs.declared.ast.Sign.TheVariants.{Plus, Minus}
use Rattle.query_grammar.specs.declared.ast.SortKey.{SortKey}
use Rattle.static_checks.specs.Parts.{source_of}
use Rattle.query_grammar.specs.declared.functions.Function.{Function}
use Rattle.query_grammar.specs.declared.functions.Function.TheVariants as function
use Rattle.query_meaning.specs.Running.{Run, M, pure, ◌>>=◌, come_to, atoms, each, turn, counted, joined, within}
use Rattle.query_meaning.specs.Environment.{Environment, Focus, looked_at, value_in, with_variable, with_focus}
use Rattle.query_meaning.specs.Sequences as sequences
use Rattle.query_meaning.specs.Sequences.{Meaning, one, focus_of, Tuple}
use Rattle.query_meaning.specs.Operators as operators
use Rattle.query_meaning.specs.Paths as paths
use Rattle.query_meaning.specs.Functions as functions
use Rattle.query_meaning.specs.Content as contents
use Rattle.query_meaning.specs.Constructors as constructors
use Rattle.query_meaning.specs.Strings.{limited, one_text, spaced, separated, text_in}
use Rattle.meaning_laws.proofs.Keeps.{Keeps, Each, IsQuiet, pure_keeps, fault_keeps, come_keeps, seen_keeps, atoms_keep, bind, each_keeps, turn_keeps, turns_keep, work_keeps, counted_keeps, copying_keeps, new_nodes_keep, standing_keeps, joined_keeps}

module _ (R : Run → Run → Type 0) (s : IsQuiet R) where
  abbrev K : {A : Type 0} → M A → Type 0
  K {A = A} m = Keeps R A m

  abbrev pub Good : Meaning → Type 0
  Good m = (env : Environment) → Keeps R (List Item) (m env)

  pure_ : {A : Type 0} (a : A) → Keeps R A (pure a)
  pure_ = pure_keeps R s

  come : {A : Type 0} (r : Result A Code) → Keeps R A (come_to r)
  come = come_keeps R s

  step : {A B : Type 0} {m : M A} {g : A → M B} → Keeps R A m → ((a : A) → Keeps R B (g a)) → Keeps R B (m >>= g)
  step {A = A} {B = B} {m = m} {g = g} = bind R s {m = m} {f = g}

  pub counts : (m : Meaning) → Good m → Good (λ env. counted (m env))
  counts m g env = counted_keeps R s {m = m env} (g env)

  -- Sequences.

  pub number : (n : ℕ) → Good (sequences.number n)
  number n env = step (come (in_range (pos n))) (λ z. pure_ (one (atom.Integer z)))

  pub string : (text : List ℕ) → Good (sequences.string text)
  string text env = pure_ (one (atom.String text))

  pub variable : (x : List ℕ) → Good (sequences.variable x)
  variable x env = step (work_keeps R s (looked_at x env.variables)) (λ _. come (or_fault code.XPST0008 (value_in x env.variables)))

  pub context_item : Good sequences.context_item
  context_item env = step (come (focus_of env)) (λ (focus : Focus). pure_ (focus.item ∷ []))

  and_items : (env : Environment) (given : List Item) (m : Meaning) → Good m → K (sequences.and_items env given m)
  and_items env given m g = step (g env) (λ items. joined_keeps R s given items)

  sequence_from : (env : Environment) (n : ℕ) (ms : List Meaning) → Each Good ms → (given : List Item) → K (each (λ _. sequences.and_items env) n ms given)
  sequence_from env n [] g given = pure_ given
  sequence_from env n (m ∷ ms) g given = step (and_items env given m g.0) (λ items. sequence_from env (suc n) ms g.1 items)

  pub sequence : (ms : List Meaning) → Each Good ms → Good (sequences.sequence ms)
  sequence ms g env = sequence_from env 0 ms g []

  branch : (b : Bool) (x y : Meaning) → Good x → Good y → Good (sequences.branch b x y)
  branch true x y gx gy = gx
  branch false x y gx gy = gy

  pub conditional : (c x y : Meaning) → Good c → Good x → Good y → Good (sequences.conditional c x y)
  conditional c x y gc gx gy env = step (gc env) (λ items. step (come (truth items)) (λ b. branch b x y gx gy env))

  go_on : (b r : Bool) (m : M Bool) → K m → K (sequences.go_on b r m)
  go_on true r m g = pure_ r
  go_on false r m g = g

  until_decided : (w : Quantifier) (f : Item → M Bool) → ((x : Item) → K (f x)) → (xs : List Item) → K (sequences.until_decided w f xs)
  until_decided w f g [] = pure_ (sequences.undecided w)
  until_decided w f g (x ∷ xs) = step (g x) (λ b. go_on (sequences.decides w b) b (sequences.until_decided w f xs) (until_decided w f g xs))

  abbrev pub GoodBinding : Binding Meaning → Type 0
  GoodBinding b = Good b.source

  satisfied : (w : Quantifier) (bs : List (Binding Meaning)) (m : Meaning) → Each GoodBinding bs → Good m → (env : Environment) → K (sequences.satisfied w bs m env)
  satisfied w [] m gs g env = step (g env) (λ items. come (truth items))
  satisfied w (b ∷ bs) m gs g env =
      step (gs.0 env) (λ items. until_decided w (λ x. turn (sequences.satisfied w bs m (with_variable b.variable (x ∷ []) env)))
      (λ x. turn_keeps R s {m = sequences.satisfied w bs m (with_variable b.variable (x ∷ []) env)} (satisfied w bs m gs.1 g (with_variable b.variable (x ∷ []) env))) items)

  pub quantified : (w : Quantifier) (bs : List (Binding Meaning)) (m : Meaning) → Each GoodBinding bs → Good m → Good (sequences.quantified w bs m)
  quantified w bs m gs g env = step (satisfied w bs m gs g env) (λ b. pure_ (one (atom.Boolean b)))

  abbrev pub GoodClause : Clause Meaning → Type 0
  GoodClause c = Good (source_of c)

  tuples : {S : Type 0} (cs : List (Clause Meaning)) (g : Environment → S → M S) → Each GoodClause cs → ((env : Environment) (t : S) → Keeps R S (g env t)) → (env : Environment) (t : S) → Keeps R S (sequences.tuples cs g env t)
  tuples [] g gs k env t = k env t
  tuples {S = S} (clause.For b ∷ cs) g gs k env t =
      step (gs.0 env) (λ items. each_keeps R s {f = λ _ t x. turn (sequences.tuples cs g (with_variable b.variable (x ∷ []) env) t)}
      (λ n t x. turn_keeps R s {m = sequences.tuples cs g (with_variable b.variable (x ∷ []) env) t} (tuples cs g gs.1 k (with_variable b.variable (x ∷ []) env) t)) 0 items t)
  tuples {S = S} (clause.ForAt b at ∷ cs) g gs k env t =
      step (gs.0 env) (λ items. each_keeps R s {f = λ i t x. turn (sequences.tuples cs g (with_variable at (one (atom.Integer (pos (i + 1)))) (with_variable b.variable (x ∷ []) env)) t)}
      (λ i t x. turn_keeps R s {m = sequences.tuples cs g (with_variable at (one (atom.Integer (pos (i + 1)))) (with_variable b.variable (x ∷ []) env)) t} (tuples cs g gs.1 k (with_variable at (one (atom.Integer (pos (i + 1)))) (with_variable b.variable (x ∷ []) env)) t)) 0 items t)
  tuples (clause.Let b ∷ cs) g gs k env t = step (gs.0 env) (λ items. tuples cs g gs.1 k (with_variable b.variable items env) t)

  abbrev pub GoodTest : Option Meaning → Type 0
  GoodTest None = Unit {0}
  GoodTest (Some m) = Good m

  tested : (test : Option Meaning) → GoodTest test → (env : Environment) → K (sequences.tested test env)
  tested None g env = pure_ true
  tested (Some m) g env = step (g env) (λ items. come (truth items))

  if_so : {S : Type 0} (b : Bool) (m : M S) (given : S) → Keeps R S m → Keeps R S (sequences.if_so b m given)
  if_so true m given k = k
  if_so false m given k = pure_ given

  returned : (test : Option Meaning) (m : Meaning) → GoodTest test → Good m → (env : Environment) (given : List Item) → K (sequences.returned test m env given)
  returned test m gt g env given = step (tested test gt env) (λ b. if_so b (m env >>= joined given) given (step (g env) (λ items. joined_keeps R s given items)))

  abbrev pub GoodKey : SortKey Meaning → Type 0
  GoodKey key = Good key.key

  keys_in : (env : Environment) (n : ℕ) (keys : List (SortKey Meaning)) → Each GoodKey keys → (given : List (Option Atom)) → K (each (λ _. sequences.key_in env) n keys given)
  keys_in env n [] gs given = pure_ given
  keys_in env n (key ∷ keys) gs given =
      step (step (gs.0 env) (λ items. step (atoms_keep R s items) (λ values. step (come (sequences.key_of values)) (λ k. pure_ (given ++ k ∷ []))))) (λ more. keys_in env (suc n) keys gs.1 more)

  kept_tuple : (test : Option Meaning) (keys : List (SortKey Meaning)) → GoodTest test → Each GoodKey keys → (env : Environment) (given : List Tuple) → K (sequences.kept_tuple test keys env given)
  kept_tuple test keys gt gs env given =
      step (tested test gt env) (λ b. if_so b (sequences.keys_in keys env >>= (λ ks. come_to (sequences.and_tuple env given ks))) given (step (keys_in env 0 keys gs []) (λ ks. come (sequences.and_tuple env given ks))))

  pub flwor : (cs : List (Clause Meaning)) (test : Option Meaning) (keys : List (SortKey Meaning)) (m : Meaning) → Each GoodClause cs → GoodTest test → Each GoodKey keys → Good m → Good (sequences.flwor cs test keys m)
  flwor cs test [] m gc gt gk g env = tuples cs (sequences.returned test m) gc (returned test m gt g) env []
  flwor cs test (key ∷ keys) m gc gt gk g env =
      step (tuples cs (sequences.kept_tuple test (key ∷ keys)) gc (kept_tuple test (key ∷ keys) gt gk) env [])
      (λ found. step (come (sequences.in_sorted_order (key ∷ keys) found))
      (λ ts. each_keeps R s {f = λ _ given (t : Tuple). m t.environment >>= joined given} (λ n given (t : Tuple). step (g t.environment) (λ items. joined_keeps R s given items)) 0 ts []))

  -- Operators.

  abbrev KeepsBoth : (List Atom → List Atom → M (List Item)) → Type 0
  KeepsBoth g = (xs ys : List Atom) → Keeps R (List Item) (g xs ys)

  between_atoms : (g : List Atom → List Atom → M (List Item)) → KeepsBoth g → (left right : List Item) → K (operators.between_atoms g left right)
  between_atoms g k left right = step (atoms_keep R s left) (λ xs. step (atoms_keep R s right) (λ ys. k xs ys))

  compared_by_pairs : (op : Comparison) → KeepsBoth (operators.compared_by_pairs op)
  compared_by_pairs op xs ys = record {
    kept = λ run p h. (step (come (general_compared op xs ys run.turns run.work)) (λ b. step (turns_keep R s (tried (pairs_compared op xs ys))) (λ _.
        step (work_keeps R s (tried_work op xs ys)) (λ _. pure_ (one (atom.Boolean b)))))).kept run p h;
  }

  compared_by_value : (op : Comparison) → KeepsBoth (operators.compared_by_value op)
  compared_by_value op xs ys = step (come (value_compared op xs ys)) (λ r. pure_ (operators.booleans r))

  calculated : (op : Operator) → KeepsBoth (operators.calculated op)
  calculated op xs ys = step (come (arithmetic op xs ys)) (λ r. pure_ (operators.integers r))

  ranged : KeepsBoth operators.ranged
  ranged xs ys = step (come (operands xs ys)) (λ r. come (operators.integers_to r))

  between_nodes : (holds : ℕ → ℕ → Trees → Bool) (left right : List Item) → K (operators.between_nodes holds left right)
  between_nodes holds left right = step (come (operators.one_node left)) (λ a. step (come (operators.one_node right)) (λ b.
      step (work_keeps R s (32 * (length left + length right - 1))) (λ _. seen_keeps R s (λ ts. operators.booleans (operators.of_both holds a b ts)))))

  set_of : (belongs : Bool → Bool → Bool) (left right : List Item) → K (operators.set_of belongs left right)
  set_of belongs left right =
      step (come (operators.all_nodes code.XPTY0004 left)) (λ xs. step (come (operators.all_nodes code.XPTY0004 right)) (λ ys.
      step (work_keeps R s (32 * (length xs + length ys - 1))) (λ _. step (seen_keeps R s (λ ts. filter (λ i. belongs (is_in i xs) (is_in i ys)) (identities ts))) (λ is. come (within (operators.nodes is))))))

  truth_of : (m : M (List Item)) → K m → K (operators.truth_of m)
  truth_of m k = step k (λ items. step (come (truth items)) (λ b. pure_ (one (atom.Boolean b))))

  unless : (deciding b : Bool) (m : M (List Item)) → K m → K (operators.unless deciding b m)
  unless true true m k = pure_ (one (atom.Boolean true))
  unless true false m k = truth_of m k
  unless false true m k = truth_of m k
  unless false false m k = pure_ (one (atom.Boolean false))

  either_side : (deciding : Bool) (left : List Item) (m : M (List Item)) → K m → K (operators.either_side deciding left m)
  either_side deciding left m k = step (come (truth left)) (λ b. unless deciding b m k)

  operated : (op : Binary) (left : List Item) (m : M (List Item)) → K m → K (operators.operated op left m)
  operated binary.Or left m k = either_side true left m k
  operated binary.And left m k = either_side false left m k
  operated (binary.General op) left m k = step k (λ right. between_atoms (operators.compared_by_pairs op) (compared_by_pairs op) left right)
  operated (binary.Value op) left m k = step k (λ right. between_atoms (operators.compared_by_value op) (compared_by_value op) left right)
  operated binary.Is left m k = step k (λ right. between_nodes operators.is_same left right)
  operated binary.Precedes left m k = step k (λ right. between_nodes precedes left right)
  operated binary.Follows left m k = step k (λ right. between_nodes operators.follows left right)
  operated binary.To left m k = step k (λ right. between_atoms operators.ranged ranged left right)
  operated (binary.Arithmetic op) left m k = step k (λ right. between_atoms (operators.calculated op) (calculated op) left right)
  operated binary.Union left m k = step k (λ right. set_of ◌||◌ left right)
  operated binary.Intersect left m k = step k (λ right. set_of ◌&&◌ left right)
  operated binary.Except left m k = step k (λ right. set_of (λ a b. a && not b) left right)

  abbrev pub GoodOperation : Operation Meaning → Type 0
  GoodOperation x = Good x.operand

  operations : (env : Environment) (n : ℕ) (xs : List (Operation Meaning)) → Each GoodOperation xs → (given : List Item) → K (each (λ _ given (x : Operation Meaning). counted (operators.operated x.operator given (x.operand env))) n xs given)
  operations env n [] gs given = pure_ given
  operations env n (x ∷ xs) gs given = step (counted_keeps R s (operated x.operator given (x.operand env) (gs.0 env))) (λ items. operations env (suc n) xs gs.1 items)

  pub chain : (m : Meaning) (xs : List (Operation Meaning)) → Good m → Each GoodOperation xs → Good (operators.chain m xs)
  chain m xs g gs env = step (g env) (λ items. operations env 0 xs gs items)

  with_sign : (n : ℕ) (z : ℤ) (sign : Sign) → K (operators.with_sign n z sign)
  with_sign n z Plus = pure_ z
  with_sign n z Minus = come (in_range (neg_ℤ z))

  with_signs : (signs : List Sign) (xs : List Atom) → K (operators.with_signs signs xs)
  with_signs signs [] = pure_ []
  with_signs signs (a ∷ []) = step (come (operand a)) (λ z. step (each_keeps R s {f = operators.with_sign} with_sign 0 (reverse signs) z) (λ n. pure_ (one (atom.Integer n))))
  with_signs signs (a ∷ b ∷ rest) = come (Err code.XPTY0004)

  pub signed : (signs : List Sign) (m : Meaning) → Good m → Good (operators.signed signs m)
  signed signs m g env = step (step (g env) (λ items. atoms_keep R s items)) (λ values. with_signs signs values)

  -- Paths.

  kept : (m : Meaning) → Good m → (env : Environment) (size n : ℕ) (given : List Item) (x : Item) → K (paths.kept m env size n given x)
  kept m g env size n given x = turn_keeps R s (step (g (with_focus x (n + 1) size env)) (λ items. step (come (paths.selects (n + 1) items)) (λ b. pure_ (paths.and_if b given x))))

  filtered : (m : Meaning) → Good m → (env : Environment) (items : List Item) → K (paths.filtered env items m)
  filtered m g env items = each_keeps R s {f = paths.kept m env (length items)} (kept m g env (length items)) 0 items []

  predicates_from : (env : Environment) (n : ℕ) (ms : List Meaning) → Each Good ms → (items : List Item) → K (each (λ _. paths.filtered env) n ms items)
  predicates_from env n [] gs items = pure_ items
  predicates_from env n (m ∷ ms) gs items = step (filtered m gs.0 env items) (λ left. predicates_from env (suc n) ms gs.1 left)

  pub filter_of : (m : Meaning) (ms : List Meaning) → Good m → Each Good ms → Good (paths.filter_of m ms)
  filter_of m ms g gs env = step (g env) (λ items. predicates_from env 0 ms gs items)

  pub axis_step : (a : Axis) (t : NodeTest) (ms : List Meaning) → Each Good ms → Good (paths.step a t ms)
  axis_step a t ms gs env =
      step (come (focus_of env)) (λ (focus : Focus). step (come (paths.node_of focus.item)) (λ i. step (step (seen_keeps R s (paths.looked_at a i)) (λ n. work_keeps R s n)) (λ _. step (seen_keeps R s (paths.tested_nodes a t i))
      (λ is. step (predicates_from env 0 ms gs (paths.in_direction a (operators.nodes is))) (λ left. come (within (paths.in_direction a left)))))))

  all_found : (found : paths.Found) (xs : List Item) → K (paths.all_found found xs)
  all_found found xs = each_keeps R s {f = λ _ given x. come_to (paths.found_within (paths.and_found given x))} (λ n given x. come (paths.found_within (paths.and_found given x))) 0 xs found

  concluded : (mixed : Code) (is : List ℕ) (values : List Atom) → K (paths.concluded mixed is values)
  concluded mixed is [] = step (work_keeps R s (32 * (length is - 1))) (λ _. seen_keeps R s (λ ts. operators.nodes (filter (λ i. is_in i is) (identities ts))))
  concluded mixed [] (a ∷ more) = pure_ (map (λ x. item.Atomic x) (a ∷ more))
  concluded mixed (i ∷ is) (a ∷ more) = come (Err mixed)

  segment : (mixed : Code) (m : Meaning) → Good m → (env : Environment) (items : List Item) → K (paths.segment mixed env items m)
  segment mixed m g env items =
      step (come (operators.all_nodes code.XPTY0019 items)) (λ _.
      step (each_keeps R s {f = λ i found x. turn (m (with_focus x (i + 1) (length items) env) >>= paths.all_found found)}
      (λ i found x. turn_keeps R s (step (g (with_focus x (i + 1) (length items) env)) (λ xs. all_found found xs))) 0 items (record { nodes = []; atoms = [] }))
      (λ (found : paths.Found). concluded mixed found.nodes found.atoms))

  segments : (steps : ℕ) (env : Environment) (n : ℕ) (ms : List Meaning) → Each Good ms → (items : List Item) → K (each (λ i given m. counted (paths.segment (paths.mixed_code steps i) env given m)) n ms items)
  segments steps env n [] gs items = pure_ items
  segments steps env n (m ∷ ms) gs items = step (counted_keeps R s (segment (paths.mixed_code steps n) m gs.0 env items)) (λ more. segments steps env (suc n) ms gs.1 more)

  pub path : (m : Meaning) (ms : List Meaning) → Good m → Each Good ms → Good (paths.path m ms)
  path m ms g gs env = step (g env) (λ items. segments (length ms) env 0 ms gs items)

  -- Functions.

  KeepsAll : functions.Application → Type 0
  KeepsAll g = (env : Environment) (values : List (List Item)) → Keeps R (List Item) (g env values)

  abbrev KeepsOne : (List Item → M (List Item)) → Type 0
  KeepsOne g = (x : List Item) → Keeps R (List Item) (g x)

  of_none : (g : Environment → M (List Item)) → ((env : Environment) → Keeps R (List Item) (g env)) → KeepsAll (functions.of_none g)
  unfolding KeepsAll
  of_none g k env [] = k env
  of_none g k env (x ∷ xs) = fault_keeps R s code.XPST0017

  of_one : (g : List Item → M (List Item)) → KeepsOne g → KeepsAll (functions.of_one g)
  unfolding KeepsAll
  of_one g k env [] = fault_keeps R s code.XPST0017
  of_one g k env (x ∷ []) = k x
  of_one g k env (x ∷ y ∷ xs) = fault_keeps R s code.XPST0017

  of_one_or_context : (g : List Item → M (List Item)) → KeepsOne g → KeepsAll (functions.of_one_or_context g)
  unfolding KeepsAll
  of_one_or_context g k env [] = step (come (focus_of env)) (λ (focus : Focus). k (focus.item ∷ []))
  of_one_or_context g k env (x ∷ []) = k x
  of_one_or_context g k env (x ∷ y ∷ xs) = fault_keeps R s code.XPST0017

  of_two : (g : List Atom → List Atom → M (List Item)) → KeepsBoth g → KeepsAll (functions.of_two g)
  unfolding KeepsAll
  of_two g k env [] = fault_keeps R s code.XPST0017
  of_two g k env (x ∷ []) = fault_keeps R s code.XPST0017
  of_two g k env (x ∷ y ∷ []) = step (atoms_keep R s x) (λ xs. step (atoms_keep R s y) (λ ys. k xs ys))
  of_two g k env (x ∷ y ∷ z ∷ xs) = fault_keeps R s code.XPST0017

  made_string : (text : List ℕ) → K (functions.string text)
  made_string text = step (work_keeps R s (text_work text)) (λ _. pure_ (one (atom.String text)))

  document : (name : List ℕ) → K (functions.document name)
  document name = record { kept = λ run p h. (step (come (or_fault code.FODC0002 (functions.document_in name run.shelf.lent.documents))) (λ i. pure_ (item.Node i ∷ []))).kept run p h }

  doc_of : (xs : List Atom) → K (functions.doc_of xs)
  doc_of [] = pure_ []
  doc_of (a ∷ more) = step (come (one_text (a ∷ more))) (λ name. document name)

  doc : KeepsOne functions.doc
  doc x = step (atoms_keep R s x) (λ xs. doc_of xs)

  root : KeepsOne functions.root
  root [] = pure_ []
  root (item.Node i ∷ []) = seen_keeps R s (λ ts. operators.nodes (root_of i ts ∷ []))
  root (item.Node i ∷ x ∷ xs) = fault_keeps R s code.XPTY0004
  root (item.Atomic a ∷ xs) = fault_keeps R s code.XPTY0004

  name : KeepsOne functions.name
  name [] = made_string []
  name (item.Node i ∷ []) = step (seen_keeps R s (λ ts. functions.name_at (find i ts))) (λ text. made_string text)
  name (item.Node i ∷ x ∷ xs) = fault_keeps R s code.XPTY0004
  name (item.Atomic a ∷ xs) = fault_keeps R s code.XPTY0004

  string_of : KeepsOne functions.string_of
  string_of [] = made_string []
  string_of (x ∷ []) = step (atoms_keep R s (x ∷ [])) (λ values. made_string (functions.first_printed values))
  string_of (x ∷ y ∷ xs) = fault_keeps R s code.XPTY0004

  data_of : KeepsOne functions.data_of
  data_of x = step (atoms_keep R s x) (λ values. pure_ (functions.items_of values))

  count : KeepsOne functions.count
  count x = pure_ (one (atom.Integer (pos (length x))))

  empty : KeepsOne functions.empty
  empty x = pure_ (one (atom.Boolean (functions.is_none x)))

  exists : KeepsOne functions.exists
  exists x = pure_ (one (atom.Boolean (not (functions.is_none x))))

  reversed : KeepsOne functions.reversed
  reversed x = pure_ (reverse x)

  untruth : KeepsOne functions.untruth_of
  untruth x = step (come (truth x)) (λ b. pure_ (one (atom.Boolean (not b))))

  truth_value : KeepsOne functions.truth_of
  truth_value x = step (come (truth x)) (λ b. pure_ (one (atom.Boolean b)))

  position : (env : Environment) → K (functions.position env)
  position env = step (come (focus_of env)) (λ (focus : Focus). pure_ (one (atom.Integer (pos focus.position))))

  last : (env : Environment) → K (functions.last env)
  last env = step (come (focus_of env)) (λ (focus : Focus). pure_ (one (atom.Integer (pos focus.size))))

  concatenated : KeepsAll functions.concatenated
  unfolding KeepsAll
  concatenated env xs =
      step (each_keeps R s {f = λ _ given x. atoms x >>= (λ values. pure (given ++ values ∷ []))} (λ n given x. step (atoms_keep R s x) (λ values. pure_ (given ++ values ∷ []))) 0 xs [])
      (λ values. step (each_keeps R s {f = λ _ given values. come_to (functions.at_most_one values) >>= (λ text. pure (given ++ text ∷ []))} (λ n given values. step (come (functions.at_most_one values)) (λ text. pure_ (given ++ text ∷ []))) 0 values [])
      (λ texts. step (come (limited (concat texts))) (λ text. made_string text)))

  of_texts : (holds : List ℕ → List ℕ → Bool) → KeepsBoth (functions.of_texts holds)
  of_texts holds xs ys = step (come (functions.string_argument xs)) (λ a. step (come (functions.string_argument ys)) (λ b. pure_ (one (atom.Boolean (holds a b)))))

  string_length : KeepsOne functions.string_length
  string_length x = step (atoms_keep R s x) (λ values. step (come (functions.string_argument values)) (λ text. pure_ (one (atom.Integer (pos (length (chars text)))))))

  string_join : KeepsBoth functions.string_join
  string_join xs ys =
      step (each_keeps R s {f = λ _ given a. come_to (text_in a) >>= (λ text. pure (given ++ text ∷ []))} (λ n given a. step (come (text_in a)) (λ text. pure_ (given ++ text ∷ []))) 0 xs [])
      (λ texts. step (come (one_text ys)) (λ separator. step (come (limited (separated separator texts))) (λ text. made_string text)))

  sum : KeepsOne functions.sum
  sum x =
      step (atoms_keep R s x) (λ values. step (each_keeps R s {f = λ _. functions.and_addend} (λ n z a. step (come (functions.addend a)) (λ m. come (in_range (z +ℤ m)))) 0 values (pos 0)) (λ z. pure_ (one (atom.Integer z))))

  distinct_values : KeepsOne functions.distinct_values
  distinct_values x = step (atoms_keep R s x) (λ values. pure_ (functions.items_of (functions.distinct [] values)))

  of_two_or_more : (g : functions.Application) → KeepsAll g → KeepsAll (functions.of_two_or_more g)
  unfolding KeepsAll
  of_two_or_more g k env [] = fault_keeps R s code.XPST0017
  of_two_or_more g k env (x ∷ []) = fault_keeps R s code.XPST0017
  of_two_or_more g k env (x ∷ y ∷ more) = k env (x ∷ y ∷ more)

  application : (f : Function) → KeepsAll (functions.application f)
  application function.Doc = of_one functions.doc doc
  application function.Root = of_one_or_context functions.root root
  application function.Name = of_one_or_context functions.name name
  application function.String = of_one_or_context functions.string_of string_of
  application function.Data = of_one functions.data_of data_of
  application function.Count = of_one functions.count count
  application function.Empty = of_one functions.empty empty
  application function.Exists = of_one functions.exists exists
  application function.Reverse = of_one functions.reversed reversed
  application function.Not = of_one functions.untruth_of untruth
  application function.Boolean = of_one functions.truth_of truth_value
  application function.True = of_none (λ env. functions.boolean true) (λ env. pure_ (one (atom.Boolean true)))
  application function.False = of_none (λ env. functions.boolean false) (λ env. pure_ (one (atom.Boolean false)))
  application function.Position = of_none functions.position position
  application function.Last = of_none functions.last last
  application function.Concat = of_two_or_more functions.concatenated concatenated
  application function.Contains = of_two (functions.of_texts functions.contains) (of_texts functions.contains)
  application function.StartsWith = of_two (functions.of_texts (starts_with ◌==◌)) (of_texts (starts_with ◌==◌))
  application function.EndsWith = of_two (functions.of_texts (ends_with ◌==◌)) (of_texts (ends_with ◌==◌))
  application function.StringLength = of_one functions.string_length string_length
  application function.StringJoin = of_two functions.string_join string_join
  application function.Sum = of_one functions.sum sum
  application function.DistinctValues = of_one functions.distinct_values distinct_values

  applied : (f? : Option Function) (env : Environment) (values : List (List Item)) → K (functions.applied f? env values)
  unfolding KeepsAll
  applied None env values = fault_keeps R s code.XPST0017
  applied (Some f) env values = application f env values

  arguments : (env : Environment) (n : ℕ) (ms : List Meaning) → Each Good ms → (given : List (List Item)) → K (each (λ _ given (m : Meaning). m env >>= (λ x. pure (given ++ x ∷ []))) n ms given)
  arguments env n [] gs given = pure_ given
  arguments env n (m ∷ ms) gs given = step (step (gs.0 env) (λ x. pure_ (given ++ x ∷ []))) (λ more. arguments env (suc n) ms gs.1 more)

  pub call : (f? : Option Function) (ms : List Meaning) → Each Good ms → Good (functions.call f? ms)
  call f? ms gs env = step (arguments env 0 ms gs []) (λ values. applied f? env values)

  -- Constructors.

  pub new_text : (text : List ℕ) → K (contents.new_text text)
  new_text text = step (work_keeps R s (text_work text)) (λ _. step (new_nodes_keep R s 1) (λ i. pure_ (contents.text_node text i)))

  copied : (i : ℕ) → K (contents.copied i)
  copied i =
      step (copying_keeps R s i) (λ _. step (seen_keeps R s (λ ts. contents.source_at i ts (find i ts))) (λ us. step (new_nodes_keep R s (size us)) (λ n. pure_ (renumbered n us))))

  made : (x : contents.Part) → K (contents.made x)
  made (contents.values more) = step (come (spaced more)) (λ text. new_text text)
  made (contents.node i) = copied i

  pub content : (xs : List Item) → K (contents.content xs)
  content xs = each_keeps R s {f = λ _ given x. contents.made x >>= (λ us. pure (append given us))} (λ n given x. step (made x) (λ us. pure_ (append given us))) 0 (contents.parts_of xs) no_trees

  rooted : (i : ℕ) (t : Trees) → K (constructors.rooted i t)
  rooted i t = step (standing_keeps R s t) (λ _. pure_ (item.Node i ∷ []))

  pub named : (kind : Kind) (m : Meaning) → Good m → (env : Environment) → K (constructors.named kind m env)
  named kind m g env = step (g env) (λ items. step (atoms_keep R s items) (λ values. step (come (one_text values)) (λ text. come (constructors.name_for kind text))))

  abbrev pub GoodName : Name Meaning → Type 0
  GoodName (Written text) = Unit {0}
  GoodName (Computed m) = Good m

  name_of : (kind : Kind) (n : Name Meaning) → GoodName n → (env : Environment) → K (constructors.name_of kind n env)
  name_of kind (Written text) g env = come (constructors.name_for kind text)
  name_of kind (Computed m) g env = named kind m g env

  assembled : (kind : Kind) (text : List ℕ) (has_fault : Trees → Option Code) (items : List Item) → K (constructors.assembled kind text has_fault items)
  assembled kind text has_fault items =
      step (new_nodes_keep R s 1) (λ i. step (content items) (λ us. step (come (contents.without_adjacent_texts us)) (λ parts.
      step (come (contents.unless_fault (has_fault parts) (tree (record { identity = i; kind = kind; name = text; text = [] }) (contents.attributes parts) (contents.others parts) no_trees))) (λ t. rooted i t))))

  pub element : (n : Name Meaning) (m : Meaning) → GoodName n → Good m → Good (constructors.element n m)
  element n m gn g env = step (name_of kind.Element n gn env) (λ text. step (g env) (λ items. assembled kind.Element text contents.element_fault items))

  pub document_node : (m : Meaning) → Good m → Good (constructors.document m)
  document_node m g env = step (g env) (λ items. assembled kind.Document [] contents.document_fault items)

  with_text : (kind : Kind) (name text : List ℕ) → K (constructors.with_text kind name text)
  with_text kind name text = step (new_nodes_keep R s 1) (λ i. rooted i (leaf (record { identity = i; kind = kind; name = name; text = text })))

  text_of : (m : Meaning) → Good m → (env : Environment) → K (constructors.text_of m env)
  text_of m g env = step (g env) (λ items. step (atoms_keep R s items) (λ values. come (spaced values)))

  pub attribute : (n : Name Meaning) (m : Meaning) → GoodName n → Good m → Good (constructors.attribute n m)
  attribute n m gn g env = step (name_of kind.Attribute n gn env) (λ name. step (text_of m g env) (λ text. with_text kind.Attribute name text))

  text_of_values : (values : List Atom) → K (constructors.text_of_values values)
  text_of_values [] = pure_ []
  text_of_values (a ∷ more) = step (come (spaced (a ∷ more))) (λ text. with_text kind.Text [] text)

  pub text : (m : Meaning) → Good m → Good (constructors.text m)
  text m g env = step (g env) (λ items. step (atoms_keep R s items) (λ values. text_of_values values))

  pub comment : (m : Meaning) → Good m → Good (constructors.comment m)
  comment m g env = step (text_of m g env) (λ given. step (come (constructors.comment_text given)) (λ text. with_text kind.Comment [] text))

  pub instruction : (n : Name Meaning) (m : Meaning) → GoodName n → Good m → Good (constructors.instruction n m)
  instruction n m gn g env =
      step (name_of kind.Instruction n gn env) (λ name. step (text_of m g env) (λ given. step (come (constructors.instruction_text given)) (λ text. with_text kind.Instruction name text)))
