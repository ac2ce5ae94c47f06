-- Each form gives at most as many items as there may be, and nodes that stand, where its parts do.
use Rattle.std.proofs.Common.{◌≡◌, ℕ, suc, ◌+◌, ◌-◌, ◌*◌, ◌≤◌, ◌<◌, ℤ, pos, neg_ℤ, ◌+ℤ◌, Bool, true, false, not, ◌&&◌, ◌||◌, nat_le, nat_lt, if◌then◌else◌, Option, Some, None}
use Rattle.std.proofs.Common.{List, [], ◌∷◌, ◌++◌, length, map, reverse, filter, Option, Some, None, Ok, Err, refl, ap, subst, sym, arith}
use Rattle.std.proofs.lemmas.Bool.{ltb-false, leb-true}
use Rattle.std.proofs.lemmas.Grind.{reverse_onto}
use Rattle.std.proofs.lemmas.List.{length-append, length-map, length-reverse}
use Rattle.std.specs.List.{list_any}
use Rattle.values.specs.Comparisons.{as_string, same_type_cmp}
use Rattle.data_model.proofs.Firsts.{held-identities}
use Rattle.std.proofs.lemmas.List.FromFn.{length-map-range_with_len}
use Rattle.std.specs.Ordering.{is_lt}
use Rattle.std.specs.List.{range_with_len}
use Rattle.std.specs.Prelude.{int_lt, nat_abs, ◌-ℤ◌}
use Rattle.std.proofs.lemmas.Option.{none-some, same_Some}
use Rattle.std.specs.Str.{bytes_eq}
use Rattle.std.specs.List.{starts_with, ends_with, concat}
use Rattle.std.specs.Prelude.{◌==◌, chars}
use Rattle.data_model.specs.Order.{identities, precedes}
use Rattle.data_model.specs.Axes.{is_in, is_on, on_axis}
use Rattle.data_model.specs.Trees.{Trees, find, size, count as count_of}
use Rattle.data_model.specs.Walks.{root_of}
use Rattle.data_model.specs.declared.axis.Axis.{Axis}
use Rattle.data_model.specs.declared.node.Kind.{Kind}
use Rattle.data_model.specs.declared.node.Kind.TheVariants as kind
use Rattle.fault_codes.specs.declared.code.Code.{Code}
use Rattle.fault_codes.specs.declared.code.Code.TheVariants as code
use Rattle.values.specs.declared.compare.Comparison.{Comparison}
use Rattle.values.specs.declared.operators.Operator.{Operator}
use Rattle.values.specs.declared.atom.Atom.{Atom}
use Rattle.values.specs.declared.atom.Atom.TheVariants as atom
use Rattle.values.specs.declared.atom.Item.{Item}
use Rattle.values.specs.declared.atom.Item.TheVariants as item
use Rattle.values.specs.Arithmetic.{arithmetic, operand, operands, in_range}
use Rattle.values.specs.Atoms.{or_fault, truth, atom_of}
use Rattle.values.specs.Work.{text_of as text_in_atom, text_work}
use Rattle.values.specs.Comparisons.{value_compared, general_compared, pairs_compared, tried, tried_work}
use Rattle.query_grammar.specs.declared.ast.Binary.{Binary}
use Rattle.query_grammar.specs.declared.ast.Binary.TheVariants as binary
use Rattle.query_grammar.specs.declared.ast.Binding.{Binding}
use Rattle.query_grammar.specs.declared.ast.Clause.{Clause}
use Rattle.query_grammar.specs.declared.ast.Clause.TheVariants as clause
use Rattle.query_grammar.specs.declared.ast.Name.{Name}
use Rattle.query_grammar.specs.declared.ast.Name.TheVariants.{Written, Computed}
use Rattle.query_grammar.specs.declared.ast.NodeTest.{NodeTest}
use Rattle.query_grammar.specs.declared.ast.Operation.{Operation}
use Rattle.query_grammar.specs.declared.ast.Quantifier.{Quantifier}
use Rattle.query_grammar.specs.declared.ast.Sign.{Sign}
use Rattle.query_grammar.specs.declared.ast.Sign.TheVariants.{Plus, Minus}
use Rattle.query_grammar.specs.declared.ast.SortKey.{SortKey}
use Rattle.query_grammar.specs.declared.functions.Function.{Function}
use Rattle.query_grammar.specs.declared.functions.Function.TheVariants as function
use Rattle.query_meaning.specs.Running.{Run, M, trees_of, pure, ◌>>=◌, come_to, nodes_of, atom as typed, atoms, each, turn, counted as counted_, joined, most_items}
use Rattle.query_meaning.specs.Environment.{Environment, Focus, Bound, no_environment, looked_at, value_in, with_variable, with_focus}
use Rattle.query_meaning.specs.Sequences as sequences
use Rattle.query_meaning.specs.Sequences.{Meaning, one, focus_of, Tuple}
use Rattle.query_meaning.specs.Operators as operators
use Rattle.query_meaning.specs.Paths as paths
use Rattle.query_meaning.specs.Functions as functions
use Rattle.query_meaning.specs.Content as contents
use Rattle.query_meaning.specs.Constructors as constructors
use Rattle.query_meaning.specs.Strings.{limited, one_text, spaced, separated, text_in}
use Rattle.meaning_laws.specs.Given.{Stands, AllStand}
use Rattle.meaning_laws.proofs.Keeps.{Each, no_value}
use Rattle.static_checks.specs.Parts.{source_of}
use Rattle.meaning_laws.proofs.Nodes.{nodes_stand, listed, filtered as in_filter, members, root_stands}
use Rattle.meaning_laws.proofs.Sound.{same_value, fault_, both_stand, IsAbove, same_run, up, Holds, IsStable, Any, pure_, fault_, come, come_any, see}
use Rattle.meaning_laws.proofs.Sound.{bind, loop, turn_, turns_, work_, hold, both_counted, Upto, Given, stands_up, stand_up, upto_up, given_up, no_items, one_item, limit, join, AreThere}
use Rattle.meaning_laws.proofs.Fresh.{leaf_sound, assembled_sound}

abbrev pub FocusStands : Run → Option Focus → Type 0
FocusStands run None = Unit {0}
FocusStands run (Some f) = Stands (trees_of run) f.item

-- what an expression may name
pub record Knows (run : Run) (env : Environment) : Type 0 where
  pub focus : FocusStands run env.focus
  pub variables : Each (λ (b : Bound). Given run b.items) env.variables

pub knows_nothing : (run : Run) → Knows run no_environment
knows_nothing run = record { focus = tt; variables = tt }

pub knows_up : IsStable Environment Knows
knows_up a b env k h = record { focus = focus env.focus h.focus; variables = variables env.variables h.variables }
  where
    focus : (o : Option Focus) → FocusStands a o → FocusStands b o
    focus None g = tt
    focus (Some f) g = stands_up a b f.item k g

    variables : (bs : List Bound) → Each (λ (x : Bound). Given a x.items) bs → Each (λ (x : Bound). Given b x.items) bs
    variables [] g = tt
    variables (x ∷ xs) g = (given_up a b x.items k g.0, variables xs g.1)

knows_variable : {run : Run} {env : Environment} (x : List ℕ) (items : List Item) → Given run items → Knows run env → Knows run (with_variable x items env)
knows_variable x items g h = record { focus = h.focus; variables = (g, h.variables) }

knows_focus : {run : Run} {env : Environment} (x : Item) (i n : ℕ) → Stands (trees_of run) x → Knows run env → Knows run (with_focus x i n env)
knows_focus x i n g h = record { focus = g; variables = h.variables }

-- an expression whose values are so
abbrev pub Good : Meaning → Type 0
Good m = (r : Run) (env : Environment) → Knows r env → Holds r (List Item) Given (m env)

atom_given : {run : Run} (a : Atom) → Given run (one a)
atom_given a = one_item (item.Atomic a) tt

one_atom : {r : Run} (a : Atom) → Holds r (List Item) Given (pure (one a))
one_atom a = pure_ (one a) (λ b k. atom_given a)

-- the environment is known, and the item stands
abbrev Around : Environment → Run → Item → Type 0
Around env run x = Knows run env × Stands (trees_of run) x

around_up : (env : Environment) → IsStable Item (Around env)
around_up env a b x k h = (knows_up a b env k h.0, stands_up a b x k h.1)

around : (run : Run) (env : Environment) → Knows run env → (xs : List Item) → AllStand (trees_of run) xs → Each (Around env run) xs
around run env h [] g = tt
around run env h (x ∷ xs) g = ((h, g.0), around run env h xs g.1)

-- the environment is known, and the part is good
abbrev Among : {A : Type 0} → (A → Type 0) → Environment → Run → A → Type 0
Among P env run x = Knows run env × P x

among_up : {A : Type 0} (P : A → Type 0) (env : Environment) → IsStable A (Among P env)
among_up P env a b x k h = (knows_up a b env k h.0, h.1)

among : {A : Type 0} (P : A → Type 0) (run : Run) (env : Environment) → Knows run env → (xs : List A) → Each P xs → Each (Among P env run) xs
among P run env h [] g = tt
among P run env h (x ∷ xs) g = ((h, g.0), among P run env h xs g.1)

pub any_up : {A : Type 0} → IsStable A Any
any_up a b x k h = tt

pub all_any : {A : Type 0} (run : Run) (xs : List A) → Each (Any {A = A} run) xs
all_any run [] = tt
all_any run (x ∷ xs) = (tt, all_any run xs)

-- counting leaves what is given
pub counted : {r : Run} (m : M (List Item)) → Holds r (List Item) Given m → Holds r (List Item) Given (counted_ m)
counted m h = bind h (λ b _ items q. bind (work_ (1 + length items)) (λ c k _ _. pure_ items (λ d j. given_up b d items (up k j) q)))

pub counts : (m : Meaning) → Good m → Good (λ env. counted_ (m env))
counts m g r env h = counted (m env) (g r env h)

-- Sequences.

pub number : (n : ℕ) → Good (sequences.number n)
number n r env h = bind (come_any (in_range (pos n))) (λ b k z q. one_atom (atom.Integer z))

pub string : (text : List ℕ) → Good (sequences.string text)
string text r env h = one_atom (atom.String text)

named_items : (run : Run) (x : List ℕ) (bs : List Bound) (items : List Item) → Each (λ (b : Bound). Given run b.items) bs → value_in x bs ≡ Some items → Given run items
named_items run x [] items h e = absurd (none-some items e)
named_items run x (b ∷ bs) items h e = of (bytes_eq x b.variable) (named_items run x bs items h.1) e
  where
    of : (t : Bool) → (value_in x bs ≡ Some items → Given run items) → (if t then Some b.items else value_in x bs) ≡ Some items → Given run items
    of true k e = subst (Given run) (same_Some b.items items e) h.0
    of false k e = k e

found_value : {A : Type 0} (c : Code) (o : Option A) (a : A) → or_fault c o ≡ Ok a → o ≡ Some a
found_value c None a e = absurd (no_value c a e)
found_value c (Some x) a e = ap Some (same_value x a e)

pub variable : (x : List ℕ) → Good (sequences.variable x)
variable x r env h =
    bind (work_ (looked_at x env.variables)) (λ c j _ _. come (or_fault code.XPST0008 (value_in x env.variables))
    (λ items e b k. given_up r b items (up j k) (named_items r x env.variables items h.variables (found_value code.XPST0008 (value_in x env.variables) items e))))

-- the context item stands
focus_stands : (run : Run) (o : Option Focus) (f : Focus) → FocusStands run o → or_fault code.XPDY0002 o ≡ Ok f → Stands (trees_of run) f.item
focus_stands run None f h e = absurd (no_value code.XPDY0002 f e)
focus_stands run (Some g) f h e = subst (λ (x : Focus). Stands (trees_of run) x.item) (same_value g f e) h

in_focus : {r : Run} (env : Environment) → Knows r env → Holds r Focus (λ b f. Stands (trees_of b) f.item) (come_to (focus_of env))
in_focus {r = r} env h = come (focus_of env) (λ f e b k. stands_up r b f.item k (focus_stands r env.focus f h.focus e))

pub context_item : Good sequences.context_item
context_item r env h = bind (in_focus env h) (λ b k (f : Focus) q. pure_ (f.item ∷ []) (λ c j. one_item f.item (stands_up b c f.item j q)))

and_items : {r : Run} (env : Environment) (given : List Item) (m : Meaning) → Good m → Knows r env → Given r given → Holds r (List Item) Given (sequences.and_items env given m)
and_items {r = r} env given m g h q = bind (g r env h) (λ b k items p. join given items (stand_up r b given k q.stand) p.stand)

pub sequence : (ms : List Meaning) → Each Good ms → Good (sequences.sequence ms)
sequence ms g r env h =
    loop {f = λ _. sequences.and_items env} (among_up Good env) given_up (λ n b given m q p. and_items env given m p.1 p.0 q) 0 r ms (among Good r env h ms g) [] no_items

branch : (b : Bool) (x y : Meaning) → Good x → Good y → Good (sequences.branch b x y)
branch true x y gx gy = gx
branch false x y gx gy = gy

pub conditional : (c x y : Meaning) → Good c → Good x → Good y → Good (sequences.conditional c x y)
conditional c x y gc gx gy r env h = bind (gc r env h) (λ b k items q. bind (come_any (truth items)) (λ d j t _. branch t x y gx gy d env (knows_up r d env (up k j) h)))

go_on : {r : Run} (b t : Bool) (m : M Bool) → Holds r Bool Any m → Holds r Bool Any (sequences.go_on b t m)
go_on true t m g = pure_ t (λ b k. tt)
go_on false t m g = g

until_decided : (w : Quantifier) (f : Item → M Bool) (env : Environment) → ((b : Run) (x : Item) → Around env b x → Holds b Bool Any (f x)) → (r : Run) (xs : List Item) → Each (Around env r) xs → Holds r Bool Any (sequences.until_decided w f xs)
until_decided w f env g r [] h = pure_ (sequences.undecided w) (λ b k. tt)
until_decided w f env g r (x ∷ xs) h = bind (g r x h.0) (λ b k t _. go_on (sequences.decides w t) t (sequences.until_decided w f xs) (until_decided w f env g b xs (all_up r b xs k h.1)))
  where
    all_up : (r b : Run) (xs : List Item) → IsAbove r b → Each (Around env r) xs → Each (Around env b) xs
    all_up r b [] k h = tt
    all_up r b (x ∷ xs) k h = (around_up env r b x k h.0, all_up r b xs k h.1)

abbrev pub GoodBinding : Binding Meaning → Type 0
GoodBinding b = Good b.source

tested_truth : {r : Run} (m : Meaning) (env : Environment) → Good m → Knows r env → Holds r Bool Any (m env >>= (λ items. come_to (truth items)))
tested_truth {r = r} m env g h = bind (g r env h) (λ b k items q. come_any (truth items))

satisfied : (w : Quantifier) (bs : List (Binding Meaning)) (m : Meaning) → Each GoodBinding bs → Good m → (r : Run) (env : Environment) → Knows r env → Holds r Bool Any (sequences.satisfied w bs m env)
satisfied w [] m gs g r env h = tested_truth m env g h
satisfied w (b ∷ bs) m gs g r env h =
    bind (gs.0 r env h) (λ c k items q. until_decided w (λ x. turn (sequences.satisfied w bs m (with_variable b.variable (x ∷ []) env))) env
    (λ d x p. turn_ {m = sequences.satisfied w bs m (with_variable b.variable (x ∷ []) env)} (satisfied w bs m gs.1 g d (with_variable b.variable (x ∷ []) env) (knows_variable b.variable (x ∷ []) (one_item x p.1) p.0)))
    c items (around c env (knows_up r c env k h) items q.stand))

pub quantified : (w : Quantifier) (bs : List (Binding Meaning)) (m : Meaning) → Each GoodBinding bs → Good m → Good (sequences.quantified w bs m)
quantified w bs m gs g r env h = bind (satisfied w bs m gs g r env h) (λ b k t q. one_atom (atom.Boolean t))

abbrev pub GoodClause : Clause Meaning → Type 0
GoodClause c = Good (source_of c)

tuples : {T : Type 0} {Q : Run → T → Type 0} → IsStable T Q → (cs : List (Clause Meaning)) (g : Environment → T → M T) → Each GoodClause cs
    → ((b : Run) (env : Environment) (t : T) → Knows b env → Q b t → Holds b T Q (g env t)) → (r : Run) (env : Environment) (t : T) → Knows r env → Q r t → Holds r T Q (sequences.tuples cs g env t)
tuples qs [] g gs k r env t h q = k r env t h q
tuples qs (clause.For b ∷ cs) g gs k r env t h q =
    bind (gs.0 r env h) (λ c j items p. loop {f = λ _ t x. turn (sequences.tuples cs g (with_variable b.variable (x ∷ []) env) t)} (around_up env) qs
    (λ n d t x u a. turn_ {m = sequences.tuples cs g (with_variable b.variable (x ∷ []) env) t} (tuples qs cs g gs.1 k d (with_variable b.variable (x ∷ []) env) t (knows_variable b.variable (x ∷ []) (one_item x a.1) a.0) u))
    0 c items (around c env (knows_up r c env j h) items p.stand) t (qs r c t j q))
tuples qs (clause.ForAt b at ∷ cs) g gs k r env t h q =
    bind (gs.0 r env h) (λ c j items p. loop {f = λ i t x. turn (sequences.tuples cs g (with_variable at (one (atom.Integer (pos (i + 1)))) (with_variable b.variable (x ∷ []) env)) t)} (around_up env) qs
    (λ i d t x u a. turn_ {m = sequences.tuples cs g (with_variable at (one (atom.Integer (pos (i + 1)))) (with_variable b.variable (x ∷ []) env)) t}
    (tuples qs cs g gs.1 k d (with_variable at (one (atom.Integer (pos (i + 1)))) (with_variable b.variable (x ∷ []) env)) t
    (knows_variable at (one (atom.Integer (pos (i + 1)))) (atom_given (atom.Integer (pos (i + 1)))) (knows_variable b.variable (x ∷ []) (one_item x a.1) a.0)) u))
    0 c items (around c env (knows_up r c env j h) items p.stand) t (qs r c t j q))
tuples qs (clause.Let b ∷ cs) g gs k r env t h q =
    bind (gs.0 r env h) (λ c j items p. tuples qs cs g gs.1 k c (with_variable b.variable items env) t (knows_variable b.variable items p (knows_up r c env j h)) (qs r c t j q))

abbrev pub GoodTest : Option Meaning → Type 0
GoodTest None = Unit {0}
GoodTest (Some m) = Good m

tested : {r : Run} (test : Option Meaning) → GoodTest test → (env : Environment) → Knows r env → Holds r Bool Any (sequences.tested test env)
tested None g env h = pure_ true (λ b k. tt)
tested (Some m) g env h = tested_truth m env g h

if_so : {r : Run} {T : Type 0} {Q : Run → T → Type 0} (b : Bool) (m : M T) (given : T) → IsStable T Q → Holds r T Q m → Q r given → Holds r T Q (sequences.if_so b m given)
if_so true m given qs k q = k
if_so {r = r} false m given qs k q = pure_ given (λ b j. qs r b given j q)

returned : (test : Option Meaning) (m : Meaning) → GoodTest test → Good m → (r : Run) (env : Environment) (given : List Item) → Knows r env → Given r given → Holds r (List Item) Given (sequences.returned test m env given)
returned test m gt g r env given h q =
    bind (tested test gt env h) (λ b k t _. if_so t (m env >>= joined given) given given_up (and_items env given m g (knows_up r b env k h) (given_up r b given k q)) (given_up r b given k q))

abbrev pub GoodKey : SortKey Meaning → Type 0
GoodKey key = Good key.key

abbrev KnowsTuple : Run → Tuple → Type 0
KnowsTuple run t = Knows run t.environment

abbrev KnowsAll : Run → List Tuple → Type 0
KnowsAll run ts = Each (KnowsTuple run) ts

tuple_up : IsStable Tuple KnowsTuple
tuple_up a b t k h = knows_up a b t.environment k h

all_tuples_up : IsStable (List Tuple) KnowsAll
all_tuples_up a b [] k h = tt
all_tuples_up a b (t ∷ ts) k h = (tuple_up a b t k h.0, all_tuples_up a b ts k h.1)

one_more : (run : Run) (ts : List Tuple) (t : Tuple) → KnowsAll run ts → KnowsTuple run t → KnowsAll run (ts ++ t ∷ [])
one_more run [] t h g = (g, tt)
one_more run (u ∷ us) t h g = (h.0, one_more run us t h.1 g)

-- the typed value of an item
any_atom : {r : Run} (x : Item) → Holds r Atom Any (typed x)
any_atom {r = r} x = hold (λ aside run s k p e.
    ((bind {r = r} (work_ (nodes_of (trees_of run) x)) (λ b _ _ _. bind (come_any (atom_of (trees_of run) x)) (λ c _ a _.
    bind (work_ (text_work (text_in_atom a))) (λ d _ _ _. pure_ a (λ o j. tt))))).holds aside).passes run s k p e)

weaken : {r : Run} {A : Type 0} {Q S : Run → A → Type 0} {m : M A} → Holds r A Q m → ((b : Run) (a : A) → Q b a → S b a) → Holds r A S m
weaken h f = hold (λ aside run s k p e.
    (let z = (h.holds aside).passes run s k p e in record { sound = z.sound; above = z.above; value = f p.1 p.0 z.value }))

-- the typed values of items are no more than those
atoms_from : {r : Run} (n : ℕ) (items : List Item) (given : List Atom)
    → Holds r (List Atom) (λ b values. length values ≤ length given + length items) (each (λ _ given x. typed x >>= (λ a. pure (given ++ a ∷ []))) n items given)
atoms_from n [] given = pure_ given (λ b k. omega arith)
atoms_from n (x ∷ xs) given =
    bind {Q = λ b more. length more ≤ suc (length given)} (bind (any_atom x) (λ b _ a _. pure_ (given ++ a ∷ []) (λ c j. (let l = length-append given (a ∷ []) in omega (arith, l)))))
    (λ b _ more few. weaken (atoms_from (suc n) xs more) (λ c values z. omega (arith, z, few)))

few_atoms : {r : Run} (items : List Item) → Holds r (List Atom) (λ b values. length values ≤ length items) (atoms items)
few_atoms items = weaken (atoms_from 0 items []) (λ b values z. omega (arith, z))

pub any_atoms : {r : Run} (items : List Item) → Holds r (List Atom) Any (atoms items)
any_atoms items = weaken (few_atoms items) (λ b values few. tt)

key_in : {r : Run} (env : Environment) (given : List (Option Atom)) (key : SortKey Meaning) → GoodKey key → Knows r env → Holds r (List (Option Atom)) Any (sequences.key_in env given key)
key_in {r = r} env given key g h =
    bind (g r env h) (λ b k items q. bind (any_atoms items) (λ c j values _. bind (come_any (sequences.key_of values)) (λ d i x _. pure_ (given ++ x ∷ []) (λ e l. tt))))

keys_in : {r : Run} (env : Environment) (keys : List (SortKey Meaning)) → Each GoodKey keys → Knows r env → Holds r (List (Option Atom)) Any (sequences.keys_in keys env)
keys_in {r = r} env keys gs h = loop {f = λ _. sequences.key_in env} (among_up GoodKey env) any_up (λ n b given key q p. key_in env given key p.1 p.0) 0 r keys (among GoodKey r env h keys gs) [] tt

tuple_if : (run : Run) (env : Environment) (ts us : List Tuple) (ks : List (Option Atom)) (b : Bool) → Knows run env → KnowsAll run ts → (if b then Err code.PXQ0002 else Ok (ts ++ record { environment = env; keys = ks } ∷ [])) ≡ Ok us → KnowsAll run us
tuple_if run env ts us ks true h g e = absurd (no_value code.PXQ0002 us e)
tuple_if run env ts us ks false h g e = subst (KnowsAll run) (same_value (ts ++ record { environment = env; keys = ks } ∷ []) us e) (one_more run ts (record { environment = env; keys = ks }) g h)

kept_tuple : (test : Option Meaning) (keys : List (SortKey Meaning)) → GoodTest test → Each GoodKey keys → (r : Run) (env : Environment) (given : List Tuple) → Knows r env → KnowsAll r given → Holds r (List Tuple) KnowsAll (sequences.kept_tuple test keys env given)
kept_tuple test keys gt gs r env given h q =
    bind (tested test gt env h) (λ b k t _. if_so t (sequences.keys_in keys env >>= (λ ks. come_to (sequences.and_tuple env given ks))) given all_tuples_up
    (bind (keys_in env keys gs (knows_up r b env k h)) (λ c j ks _. come (sequences.and_tuple env given ks)
    (λ us e d i. tuple_if d env given us ks (nat_le most_items (length given)) (knows_up r d env (up k (up j i)) h) (all_tuples_up r d given (up k (up j i)) q) e)))
    (all_tuples_up r b given k q))

-- sorted tuples are the same ones
sorted_in_known : (run : Run) (keys : List (SortKey Meaning)) (t : Tuple) (us : List Tuple) → KnowsTuple run t → KnowsAll run us → KnowsAll run (sequences.sorted_in keys t us)
sorted_in_known run keys t [] h g = (h, tt)
sorted_in_known run keys t (u ∷ us) h g = of (is_lt (sequences.keys_cmp keys u.keys t.keys)) (sorted_in_known run keys t us h g.1)
  where
    of : (b : Bool) → KnowsAll run (sequences.sorted_in keys t us) → KnowsAll run (if b then u ∷ sequences.sorted_in keys t us else t ∷ u ∷ us)
    of true k = (g.0, k)
    of false k = (h, g)

sorted_known : (run : Run) (keys : List (SortKey Meaning)) (ts : List Tuple) → KnowsAll run ts → KnowsAll run (sequences.sorted keys ts)
sorted_known run keys [] h = tt
sorted_known run keys (t ∷ ts) h = sorted_in_known run keys t (sequences.sorted keys ts) h.0 (sorted_known run keys ts h.1)

order_if : (run : Run) (keys : List (SortKey Meaning)) (ts us : List Tuple) (b : Bool) → KnowsAll run ts → (if b then Ok (sequences.sorted keys ts) else Err code.XPTY0004) ≡ Ok us → KnowsAll run us
order_if run keys ts us true h e = subst (KnowsAll run) (same_value (sequences.sorted keys ts) us e) (sorted_known run keys ts h)
order_if run keys ts us false h e = absurd (no_value code.XPTY0004 us e)

pub flwor : (cs : List (Clause Meaning)) (test : Option Meaning) (keys : List (SortKey Meaning)) (m : Meaning) → Each GoodClause cs → GoodTest test → Each GoodKey keys → Good m → Good (sequences.flwor cs test keys m)
flwor cs test [] m gc gt gk g r env h = tuples given_up cs (sequences.returned test m) gc (returned test m gt g) r env [] h no_items
flwor cs test (key ∷ keys) m gc gt gk g r env h =
    bind (tuples all_tuples_up cs (sequences.kept_tuple test (key ∷ keys)) gc (kept_tuple test (key ∷ keys) gt gk) r env [] h tt)
    (λ b k found q. bind (come (sequences.in_sorted_order (key ∷ keys) found) (λ ts e c j. all_tuples_up b c ts j (order_if b (key ∷ keys) found ts (sequences.all_comparable found) q e)))
    (λ c j ts p. loop {f = λ _ given (t : Tuple). m t.environment >>= joined given} tuple_up given_up (λ n d given (t : Tuple) v w. and_items t.environment given m g w v) 0 c ts p [] no_items))

-- Operators.

abbrev GivesBoth : (List Atom → List Atom → M (List Item)) → Type 0
GivesBoth g = (r : Run) (xs ys : List Atom) → Holds r (List Item) Given (g xs ys)

between_atoms : {r : Run} (g : List Atom → List Atom → M (List Item)) → GivesBoth g → (left right : List Item) → Holds r (List Item) Given (operators.between_atoms g left right)
between_atoms g k left right = bind (any_atoms left) (λ b _ xs _. bind (any_atoms right) (λ c _ ys _. k c xs ys))

booleans_given : {run : Run} (o : Option Bool) → Given run (operators.booleans o)
booleans_given None = no_items
booleans_given (Some b) = atom_given (atom.Boolean b)

integers_given : {run : Run} (o : Option ℤ) → Given run (operators.integers o)
integers_given None = no_items
integers_given (Some z) = atom_given (atom.Integer z)

compared_by_pairs : (op : Comparison) → GivesBoth (operators.compared_by_pairs op)
compared_by_pairs op r xs ys = hold (λ aside run s k p e.
    ((bind {r = r} (come_any (general_compared op xs ys run.turns run.work)) (λ b _ t _.
    bind (turns_ (tried (pairs_compared op xs ys))) (λ c _ _ _.
    bind (work_ (tried_work op xs ys)) (λ d _ _ _. one_atom (atom.Boolean t))))).holds aside).passes run s k p e)

compared_by_value : (op : Comparison) → GivesBoth (operators.compared_by_value op)
compared_by_value op r xs ys = bind (come_any (value_compared op xs ys)) (λ b k o _. pure_ (operators.booleans o) (λ c j. booleans_given o))

calculated : (op : Operator) → GivesBoth (operators.calculated op)
calculated op r xs ys = bind (come_any (arithmetic op xs ys)) (λ b k o _. pure_ (operators.integers o) (λ c j. integers_given o))

-- a list of atomic values
atoms_stand : {A : Type 0} (ts : Trees) (f : A → Atom) (xs : List A) → AllStand ts (map (λ x. item.Atomic (f x)) xs)
atoms_stand ts f [] = tt
atoms_stand ts f (x ∷ xs) = (tt, atoms_stand ts f xs)

many_if : (run : Run) (x : ℤ) (n : ℕ) (items : List Item) (b : Bool) → nat_lt most_items n ≡ b → (if b then Err code.PXQ0002 else Ok (map (λ k. item.Atomic (atom.Integer (x +ℤ pos k))) (range_with_len 0 n))) ≡ Ok items → Given run items
many_if run x n items true w e = absurd (no_value code.PXQ0002 items e)
many_if run x n items false w e =
    subst (Given run) (same_value (map (λ k. item.Atomic (atom.Integer (x +ℤ pos k))) (range_with_len 0 n)) items e) (record {
      few = (let m = ltb-false most_items n w in let l = length-map-range_with_len (λ k. item.Atomic (atom.Integer (x +ℤ pos k))) 0 n in omega (arith, m, l));
      stand = atoms_stand (trees_of run) (λ k. atom.Integer (x +ℤ pos k)) (range_with_len 0 n);
    })

to_given : (run : Run) (o : Option (ℤ × ℤ)) (items : List Item) → operators.integers_to o ≡ Ok items → Given run items
to_given run None items e = subst (Given run) (same_value [] items e) no_items
to_given run (Some p) items e = of (int_lt p.1 p.0) e
  where
    of : (b : Bool) → (if b then Ok [] else operators.many_from p.0 (nat_abs (p.1 -ℤ p.0) + 1)) ≡ Ok items → Given run items
    of true e = subst (Given run) (same_value [] items e) no_items
    of false e = many_if run p.0 (nat_abs (p.1 -ℤ p.0) + 1) items (nat_lt most_items (nat_abs (p.1 -ℤ p.0) + 1)) refl e

ranged : GivesBoth operators.ranged
ranged r xs ys = bind (come_any (operands xs ys)) (λ b k o _. come (operators.integers_to o) (λ items e c j. to_given c o items e))

between_nodes : {r : Run} (holds : ℕ → ℕ → Trees → Bool) (left right : List Item) → Holds r (List Item) Given (operators.between_nodes holds left right)
between_nodes holds left right =
    bind (come_any (operators.one_node left)) (λ b _ x _. bind (come_any (operators.one_node right)) (λ c _ y _.
    bind (work_ (32 * (length left + length right - 1))) (λ e _ u _. see (λ ts. operators.booleans (operators.of_both holds x y ts)) (λ d s j. booleans_given (operators.of_both holds x y (trees_of d))))))

set_of : {r : Run} (belongs : Bool → Bool → Bool) (left right : List Item) → Holds r (List Item) Given (operators.set_of belongs left right)
set_of belongs left right =
    bind (come_any (operators.all_nodes code.XPTY0004 left)) (λ b _ xs _. bind (come_any (operators.all_nodes code.XPTY0004 right)) (λ c _ ys _.
    bind (work_ (32 * (length xs + length ys - 1))) (λ d _ u _. bind (see {Q = λ d is. AllStand (trees_of d) (operators.nodes is)} (λ ts. filter (λ i. belongs (is_in i xs) (is_in i ys)) (identities ts))
    (λ d s j. nodes_stand (trees_of d) _ (in_filter (trees_of d) (λ i. belongs (is_in i xs) (is_in i ys)) (identities (trees_of d)) (listed (trees_of d)))))
    (λ d _ is q. limit (operators.nodes is) q))))

truth_of : {r : Run} (m : M (List Item)) → Holds r (List Item) Given m → Holds r (List Item) Given (operators.truth_of m)
truth_of m k = bind k (λ b _ items _. bind (come_any (truth items)) (λ c _ t _. one_atom (atom.Boolean t)))

unless : {r : Run} (deciding b : Bool) (m : M (List Item)) → Holds r (List Item) Given m → Holds r (List Item) Given (operators.unless deciding b m)
unless true true m k = one_atom (atom.Boolean true)
unless true false m k = truth_of m k
unless false true m k = truth_of m k
unless false false m k = one_atom (atom.Boolean false)

abbrev Gives : M (List Item) → Run → Type 0
Gives m r = (b : Run) → IsAbove r b → Holds b (List Item) Given m

either_side : {r : Run} (deciding : Bool) (left : List Item) (m : M (List Item)) → Gives m r → Holds r (List Item) Given (operators.either_side deciding left m)
either_side deciding left m k = bind (come_any (truth left)) (λ b j t _. unless deciding t m (k b j))

operated : {r : Run} (op : Binary) (left : List Item) (m : M (List Item)) → Gives m r → Holds r (List Item) Given (operators.operated op left m)
operated binary.Or left m k = either_side true left m k
operated binary.And left m k = either_side false left m k
operated {r = r} (binary.General op) left m k = bind (k r same_run) (λ b _ right _. between_atoms (operators.compared_by_pairs op) (compared_by_pairs op) left right)
operated {r = r} (binary.Value op) left m k = bind (k r same_run) (λ b _ right _. between_atoms (operators.compared_by_value op) (compared_by_value op) left right)
operated {r = r} binary.Is left m k = bind (k r same_run) (λ b _ right _. between_nodes operators.is_same left right)
operated {r = r} binary.Precedes left m k = bind (k r same_run) (λ b _ right _. between_nodes precedes left right)
operated {r = r} binary.Follows left m k = bind (k r same_run) (λ b _ right _. between_nodes operators.follows left right)
operated {r = r} binary.To left m k = bind (k r same_run) (λ b _ right _. between_atoms operators.ranged ranged left right)
operated {r = r} (binary.Arithmetic op) left m k = bind (k r same_run) (λ b _ right _. between_atoms (operators.calculated op) (calculated op) left right)
operated {r = r} binary.Union left m k = bind (k r same_run) (λ b _ right _. set_of ◌||◌ left right)
operated {r = r} binary.Intersect left m k = bind (k r same_run) (λ b _ right _. set_of ◌&&◌ left right)
operated {r = r} binary.Except left m k = bind (k r same_run) (λ b _ right _. set_of (λ x y. x && not y) left right)

abbrev pub GoodOperation : Operation Meaning → Type 0
GoodOperation x = Good x.operand

pub chain : (m : Meaning) (xs : List (Operation Meaning)) → Good m → Each GoodOperation xs → Good (operators.chain m xs)
chain m xs g gs r env h =
    bind (g r env h) (λ b k items q. loop {f = λ _ given (o : Operation Meaning). counted_ (operators.operated o.operator given (o.operand env))} (among_up GoodOperation env) given_up
    (λ n c given (o : Operation Meaning) v w. counted (operators.operated o.operator given (o.operand env)) (operated o.operator given (o.operand env) (λ d j. w.1 d env (knows_up c d env j w.0)))) 0 b xs (among GoodOperation b env (knows_up r b env k h) xs gs) items q)

signs_any : {r : Run} (n : ℕ) (z : ℤ) (sign : Sign) → Holds r ℤ Any (operators.with_sign n z sign)
signs_any n z Plus = pure_ z (λ b k. tt)
signs_any n z Minus = come_any (in_range (neg_ℤ z))

with_signs : {r : Run} (signs : List Sign) (xs : List Atom) → Holds r (List Item) Given (operators.with_signs signs xs)
with_signs signs [] = pure_ [] (λ b k. no_items)
with_signs {r = r} signs (a ∷ []) =
    bind (come_any (operand a)) (λ b _ z _. bind (loop {P = Any} {f = operators.with_sign} any_up any_up (λ n c z sign v w. signs_any n z sign) 0 b (reverse signs) (all_any b (reverse signs)) z tt) (λ c _ n _. one_atom (atom.Integer n)))
with_signs signs (a ∷ b ∷ rest) = come (Err code.XPTY0004) (λ x e c k. absurd (no_value code.XPTY0004 x e))

pub signed : (signs : List Sign) (m : Meaning) → Good m → Good (operators.signed signs m)
signed signs m g r env h = bind (bind (g r env h) (λ b _ items _. any_atoms items)) (λ b _ values _. with_signs signs values)

-- Paths.

upto_more : (n m : ℕ) (b : Run) (items : List Item) → n ≤ m → Upto n b items → Upto m b items
upto_more n m b items le h = record { few = (let f = h.few in omega (arith, f, le)); stand = h.stand }

and_if_upto : (b : Bool) (n : ℕ) (run : Run) (given : List Item) (x : Item) → Upto n run given → Stands (trees_of run) x → Upto (n + 1) run (paths.and_if b given x)
and_if_upto true n run given x h g = record { few = (let f = h.few in let l = length-append given (x ∷ []) in omega (arith, f, l)); stand = both_stand (trees_of run) given (x ∷ []) h.stand (g, tt) }
and_if_upto false n run given x h g = upto_more n (n + 1) run given (omega arith) h

kept : (m : Meaning) → Good m → (env : Environment) (size n i : ℕ) (r : Run) (given : List Item) (x : Item) → Around env r x → Upto i r given → Holds r (List Item) (Upto (i + 1)) (paths.kept m env size n given x)
kept m g env size n i r given x h q =
    turn_ (bind (g r (with_focus x (n + 1) size env) (knows_focus x (n + 1) size h.1 h.0)) (λ b k items _. bind (come_any (paths.selects (n + 1) items))
    (λ c j t _. pure_ (paths.and_if t given x) (λ d l. and_if_upto t i d given x (upto_up i r d given (up k (up j l)) q) (stands_up r d x (up k (up j l)) h.1)))))

around_all_up : (env : Environment) (r b : Run) (xs : List Item) → IsAbove r b → Each (Around env r) xs → Each (Around env b) xs
around_all_up env r b [] k h = tt
around_all_up env r b (x ∷ xs) k h = (around_up env r b x k h.0, around_all_up env r b xs k h.1)

filtered_from : (m : Meaning) → Good m → (env : Environment) (size n i : ℕ) (r : Run) (xs given : List Item) → Each (Around env r) xs → Upto i r given → Holds r (List Item) (Upto (i + length xs)) (each (paths.kept m env size) n xs given)
filtered_from m g env size n i r [] given h q = pure_ given (λ b k. upto_more i (i + 0) b given (omega arith) (upto_up i r b given k q))
filtered_from m g env size n i r (x ∷ xs) given h q =
    bind (kept m g env size n i r given x h.0 q) (λ b k more p. weaken (filtered_from m g env size (suc n) (i + 1) b xs more (around_all_up env r b xs k h.1) p) (λ c items z. upto_more (i + 1 + length xs) (i + suc (length xs)) c items (omega arith) z))

filtered : (m : Meaning) → Good m → (r : Run) (env : Environment) (n : ℕ) (items : List Item) → Knows r env → Upto n r items → Holds r (List Item) (Upto n) (paths.filtered env items m)
filtered m g r env n items h q =
    weaken (filtered_from m g env (length items) 0 0 r items [] (around r env h items q.stand) (record { few = omega arith; stand = tt })) (λ c left z. upto_more (0 + length items) n c left (let f = q.few in omega (arith, f)) z)

predicates : (n : ℕ) (ms : List Meaning) → Each Good ms → (r : Run) (env : Environment) (items : List Item) → Knows r env → Upto n r items → Holds r (List Item) (Upto n) (paths.predicates ms env items)
predicates n ms gs r env items h q = loop {f = λ _. paths.filtered env} (among_up Good env) (upto_up n) (λ i b left m v w. filtered m w.1 b env n left w.0 v) 0 r ms (among Good r env h ms gs) items q

pub filter_of : (m : Meaning) (ms : List Meaning) → Good m → Each Good ms → Good (paths.filter_of m ms)
filter_of m ms g gs r env h = bind (g r env h) (λ b k items q. predicates most_items ms gs b env items (knows_up r b env k h) q)

reverse_stands : (ts : Trees) (xs : List Item) → AllStand ts xs → AllStand ts (reverse xs)
reverse_stands ts [] h = tt
reverse_stands ts (x ∷ xs) h = subst (AllStand ts) (sym (reverse_onto xs x [])) (both_stand ts (reverse xs) (x ∷ []) (reverse_stands ts xs h.1) (h.0, tt))

directed_stand : (a : Axis) (ts : Trees) (xs : List Item) → AllStand ts xs → AllStand ts (paths.in_direction a xs)
directed_stand a ts xs h = of (paths.is_reverse a)
  where
    of : (b : Bool) → AllStand ts (if b then reverse xs else xs)
    of true = reverse_stands ts xs h
    of false = h

pub axis_step : (a : Axis) (t : NodeTest) (ms : List Meaning) → Each Good ms → Good (paths.step a t ms)
axis_step a t ms gs r env h =
    bind (come_any (focus_of env)) (λ b k (focus : Focus) _. bind (come_any (paths.node_of focus.item)) (λ c j i _.
    bind (bind (see {Q = Any} (paths.looked_at a i) (λ d s l. tt)) (λ d _ n _. work_ n)) (λ o z _ _.
    bind (see {Q = λ d is. AllStand (trees_of d) (operators.nodes is)} (paths.tested_nodes a t i) (λ d s l. nodes_stand (trees_of d) _
    (in_filter (trees_of d) (λ x. paths.passes_at a t (find x (trees_of d))) (on_axis a (trees_of d) i) (in_filter (trees_of d) (is_on a (trees_of d) i) (identities (trees_of d)) (listed (trees_of d))))))
    (λ d l is q. bind (predicates (length (paths.in_direction a (operators.nodes is))) ms gs d env (paths.in_direction a (operators.nodes is)) (knows_up r d env (up k (up j (up z l))) h)
    (record { few = omega arith; stand = directed_stand a (trees_of d) (operators.nodes is) q }))
    (λ e _ left y. limit (paths.in_direction a left) (directed_stand a (trees_of e) left y.stand))))))

abbrev IsFound : Run → paths.Found → Type 0
IsFound run f = length f.nodes + length f.atoms ≤ most_items

found_up : IsStable paths.Found IsFound
found_up a b f k h = h

found_if : (f g : paths.Found) (b : Bool) → nat_le (length f.nodes + length f.atoms) most_items ≡ b → (if b then Ok f else Err code.PXQ0002) ≡ Ok g → length g.nodes + length g.atoms ≤ most_items
found_if f g true w e = subst (λ (x : paths.Found). length x.nodes + length x.atoms ≤ most_items) (same_value f g e) (leb-true (length f.nodes + length f.atoms) most_items w)
found_if f g false w e = absurd (no_value code.PXQ0002 g e)

all_found : {r : Run} (found : paths.Found) (xs : List Item) → IsFound r found → Holds r paths.Found IsFound (paths.all_found found xs)
all_found {r = r} found xs h =
    loop {P = Any} {f = λ _ given x. come_to (paths.found_within (paths.and_found given x))} any_up found_up
    (λ n b given x q p. come (paths.found_within (paths.and_found given x)) (λ g e c k. found_if (paths.and_found given x) g (nat_le (length (paths.and_found given x).nodes + length (paths.and_found given x).atoms) most_items) refl e)) 0 r xs (all_any r xs) found h

concluded : {r : Run} (mixed : Code) (is : List ℕ) (values : List Atom) → length is + length values ≤ most_items → Holds r (List Item) Given (paths.concluded mixed is values)
concluded mixed is [] h = bind (work_ (32 * (length is - 1))) (λ c _ u _. see (λ ts. operators.nodes (filter (λ i. is_in i is) (identities ts))) (λ b s k. record {
  few =
      (let m = members is (identities (trees_of b)) (λ i. subst (λ n. n ≤ 1) (sym (held-identities i (trees_of b))) (s i)) in
      let l = length-map (filter (λ i. is_in i is) (identities (trees_of b))) (λ i. item.Node i) in omega (arith, m, l, h));
  stand = nodes_stand (trees_of b) _ (in_filter (trees_of b) (λ i. is_in i is) (identities (trees_of b)) (listed (trees_of b)));
}))
concluded mixed [] (a ∷ more) h = pure_ (map (λ x. item.Atomic x) (a ∷ more)) (λ b k. record { few = (let l = length-map (a ∷ more) (λ x. item.Atomic x) in omega (arith, l, h)); stand = atoms_stand (trees_of b) (λ x. x) (a ∷ more) })
concluded mixed (i ∷ is) (a ∷ more) h = come (Err mixed) (λ x e c k. absurd (no_value mixed x e))

segment : (mixed : Code) (m : Meaning) → Good m → (r : Run) (env : Environment) (items : List Item) → Knows r env → Given r items → Holds r (List Item) Given (paths.segment mixed env items m)
segment mixed m g r env items h q =
    bind (come_any (operators.all_nodes code.XPTY0019 items)) (λ b k _ _.
    bind (loop {f = λ i found x. turn (m (with_focus x (i + 1) (length items) env) >>= paths.all_found found)} (around_up env) found_up
    (λ i c found x v w. turn_ (bind (g c (with_focus x (i + 1) (length items) env) (knows_focus x (i + 1) (length items) w.1 w.0)) (λ d j xs z. all_found found xs v)))
    0 b items (around b env (knows_up r b env k h) items (stand_up r b items k q.stand)) (record { nodes = []; atoms = [] }) (omega arith))
    (λ c j (found : paths.Found) v. concluded mixed found.nodes found.atoms v))

pub path : (m : Meaning) (ms : List Meaning) → Good m → Each Good ms → Good (paths.path m ms)
path m ms g gs r env h = bind (g r env h) (λ b k items q. loop {f = λ i given m. counted_ (paths.segment (paths.mixed_code (length ms) i) env given m)} (among_up Good env) given_up
    (λ n c given m v w. counted (paths.segment (paths.mixed_code (length ms) n) env given m) (segment (paths.mixed_code (length ms) n) m w.1 c env given w.0 v)) 0 b ms (among Good b env (knows_up r b env k h) ms gs) items q)

-- Functions.

GivesAll : functions.Application → Type 0
GivesAll g = (r : Run) (env : Environment) (values : List (List Item)) → Knows r env → Each (Given r) values → Holds r (List Item) Given (g env values)

abbrev GivesOne : (List Item → M (List Item)) → Type 0
GivesOne g = (r : Run) (x : List Item) → Given r x → Holds r (List Item) Given (g x)

of_none : (g : Environment → M (List Item)) → ((r : Run) (env : Environment) → Holds r (List Item) Given (g env)) → GivesAll (functions.of_none g)
unfolding GivesAll
of_none g k r env [] h q = k r env
of_none g k r env (x ∷ xs) h q = fault_ code.XPST0017

of_one : (g : List Item → M (List Item)) → GivesOne g → GivesAll (functions.of_one g)
unfolding GivesAll
of_one g k r env [] h q = fault_ code.XPST0017
of_one g k r env (x ∷ []) h q = k r x q.0
of_one g k r env (x ∷ y ∷ xs) h q = fault_ code.XPST0017

of_one_or_context : (g : List Item → M (List Item)) → GivesOne g → GivesAll (functions.of_one_or_context g)
unfolding GivesAll
of_one_or_context g k r env [] h q = bind (in_focus env h) (λ b _ (focus : Focus) s. k b (focus.item ∷ []) (one_item focus.item s))
of_one_or_context g k r env (x ∷ []) h q = k r x q.0
of_one_or_context g k r env (x ∷ y ∷ xs) h q = fault_ code.XPST0017

of_two : (g : List Atom → List Atom → M (List Item)) → GivesBoth g → GivesAll (functions.of_two g)
unfolding GivesAll
of_two g k r env [] h q = fault_ code.XPST0017
of_two g k r env (x ∷ []) h q = fault_ code.XPST0017
of_two g k r env (x ∷ y ∷ []) h q = bind (any_atoms x) (λ b _ xs _. bind (any_atoms y) (λ c _ ys _. k c xs ys))
of_two g k r env (x ∷ y ∷ z ∷ xs) h q = fault_ code.XPST0017

-- a document that is named stands
document_there : (ts : Trees) (name : List ℕ) (ds : List (List ℕ × ℕ)) (i : ℕ) → AreThere ts ds → functions.document_in name ds ≡ Some i → 0 < count_of i ts
document_there ts name [] i h e = absurd (none-some i e)
document_there ts name (d ∷ ds) i h e = of (bytes_eq name d.0) (document_there ts name ds i h.1) e
  where
    of : (b : Bool) → (functions.document_in name ds ≡ Some i → 0 < count_of i ts) → (if b then Some d.1 else functions.document_in name ds) ≡ Some i → 0 < count_of i ts
    of true k e = subst (λ j. 0 < count_of j ts) (same_Some d.1 i e) h.0
    of false k e = k e

-- the run's documents stand
documents_stand : (run : Run) (name : List ℕ) (i : ℕ) → AreThere run.shelf.lent.trees run.shelf.lent.documents
    → or_fault code.FODC0002 (functions.document_in name run.shelf.lent.documents) ≡ Ok i → 0 < count_of i (trees_of run)
documents_stand run name i there e =
    let found = found_value code.FODC0002 (functions.document_in name run.shelf.lent.documents) i e in
    let stands = document_there run.shelf.lent.trees name run.shelf.lent.documents i there found in
    omega (arith, both_counted i run.shelf.lent.trees run.shelf.own.trees, stands)

document : {r : Run} (name : List ℕ) → Holds r (List Item) Given (functions.document name)
document name = hold (λ aside run s k p e.
    ((bind {r = run} (come {Q = λ b i. 0 < count_of i (trees_of b)} (or_fault code.FODC0002 (functions.document_in name run.shelf.lent.documents))
    (λ i w b j. j.stand i (documents_stand run name i s.documents w)))
    (λ b j i there. pure_ (item.Node i ∷ []) (λ c l. one_item (item.Node i) (l.stand i there)))).holds aside).passes run s same_run p e)

doc_of : {r : Run} (xs : List Atom) → Holds r (List Item) Given (functions.doc_of xs)
doc_of [] = pure_ [] (λ b k. no_items)
doc_of (a ∷ more) = bind (come_any (one_text (a ∷ more))) (λ b _ name _. document name)

doc : GivesOne functions.doc
doc r x q = bind (any_atoms x) (λ b _ xs _. doc_of xs)

root : GivesOne functions.root
root r [] q = pure_ [] (λ b k. no_items)
root r (item.Node i ∷ []) q = see (λ ts. operators.nodes (root_of i ts ∷ [])) (λ b s k. one_item (item.Node (root_of i (trees_of b))) (root_stands i (trees_of b) (k.stand i q.stand.0)))
root r (item.Node i ∷ x ∷ xs) q = fault_ code.XPTY0004
root r (item.Atomic a ∷ xs) q = fault_ code.XPTY0004

made_string : {r : Run} (text : List ℕ) → Holds r (List Item) Given (functions.string text)
made_string text = bind (work_ (text_work text)) (λ b _ _ _. one_atom (atom.String text))

name : GivesOne functions.name
name r [] q = made_string []
name r (item.Node i ∷ []) q = bind (see {Q = Any} (λ ts. functions.name_at (find i ts)) (λ b s k. tt)) (λ b _ text _. made_string text)
name r (item.Node i ∷ x ∷ xs) q = fault_ code.XPTY0004
name r (item.Atomic a ∷ xs) q = fault_ code.XPTY0004

string_of : GivesOne functions.string_of
string_of r [] q = made_string []
string_of r (x ∷ []) q = bind (any_atoms (x ∷ [])) (λ b _ values _. made_string (functions.first_printed values))
string_of r (x ∷ y ∷ xs) q = fault_ code.XPTY0004

items_given : (run : Run) (values : List Atom) → length values ≤ most_items → Given run (functions.items_of values)
items_given run values h = record { few = (let l = length-map values (λ a. item.Atomic a) in omega (arith, l, h)); stand = atoms_stand (trees_of run) (λ a. a) values }

data_of : GivesOne functions.data_of
data_of r x q = bind (few_atoms x) (λ b _ values few. pure_ (functions.items_of values) (λ c j. items_given c values (let f = q.few in omega (arith, f, few))))

count : GivesOne functions.count
count r x q = one_atom (atom.Integer (pos (length x)))

empty : GivesOne functions.empty
empty r x q = one_atom (atom.Boolean (functions.is_none x))

exists : GivesOne functions.exists
exists r x q = one_atom (atom.Boolean (not (functions.is_none x)))

reversed : GivesOne functions.reversed
reversed r x q = pure_ (reverse x) (λ b k. record { few = (let l = length-reverse x in let f = q.few in omega (arith, l, f)); stand = reverse_stands (trees_of b) x (stand_up r b x k q.stand) })

untruth : GivesOne functions.untruth_of
untruth r x q = bind (come_any (truth x)) (λ b _ t _. one_atom (atom.Boolean (not t)))

truth_value : GivesOne functions.truth_of
truth_value r x q = bind (come_any (truth x)) (λ b _ t _. one_atom (atom.Boolean t))

position : (r : Run) (env : Environment) → Holds r (List Item) Given (functions.position env)
position r env = bind (come_any (focus_of env)) (λ b _ (focus : Focus) _. one_atom (atom.Integer (pos focus.position)))

last : (r : Run) (env : Environment) → Holds r (List Item) Given (functions.last env)
last r env = bind (come_any (focus_of env)) (λ b _ (focus : Focus) _. one_atom (atom.Integer (pos focus.size)))

concatenated : GivesAll functions.concatenated
unfolding GivesAll
concatenated r env xs h q =
    bind (loop {P = Any} {Q = Any} {f = λ _ given x. atoms x >>= (λ values. pure (given ++ values ∷ []))} any_up any_up (λ n b given x _ _. bind (any_atoms x) (λ c _ values _. pure_ (given ++ values ∷ []) (λ d j. tt))) 0 r xs (all_any r xs) [] tt)
    (λ b _ values _. bind (loop {P = Any} {Q = Any} {f = λ _ given values. come_to (functions.at_most_one values) >>= (λ text. pure (given ++ text ∷ []))} any_up any_up
    (λ n c given x _ _. bind (come_any (functions.at_most_one x)) (λ d _ text _. pure_ (given ++ text ∷ []) (λ e j. tt))) 0 b values (all_any b values) [] tt)
    (λ c _ texts _. bind (come_any (limited (concat texts))) (λ d _ text _. made_string text)))

of_texts : (holds : List ℕ → List ℕ → Bool) → GivesBoth (functions.of_texts holds)
of_texts holds r xs ys = bind (come_any (functions.string_argument xs)) (λ b _ s _. bind (come_any (functions.string_argument ys)) (λ c _ t _. one_atom (atom.Boolean (holds s t))))

string_length : GivesOne functions.string_length
string_length r x q = bind (any_atoms x) (λ b _ values _. bind (come_any (functions.string_argument values)) (λ c _ text _. one_atom (atom.Integer (pos (length (chars text))))))

string_join : GivesBoth functions.string_join
string_join r xs ys =
    bind (loop {P = Any} {Q = Any} {f = λ _ given a. come_to (text_in a) >>= (λ text. pure (given ++ text ∷ []))} any_up any_up (λ n b given a _ _. bind (come_any (text_in a)) (λ c _ text _. pure_ (given ++ text ∷ []) (λ d j. tt))) 0 r xs (all_any r xs) [] tt)
    (λ b _ texts _. bind (come_any (one_text ys)) (λ c _ separator _. bind (come_any (limited (separated separator texts))) (λ d _ text _. made_string text)))

sum : GivesOne functions.sum
sum r x q =
    bind (any_atoms x) (λ b _ values _. bind (loop {P = Any} {Q = Any} {f = λ _. functions.and_addend} any_up any_up (λ n c z a _ _. bind (come_any (functions.addend a)) (λ d _ m _. come_any (in_range (z +ℤ m)))) 0 b values (all_any b values) (pos 0) tt)
    (λ c _ z _. one_atom (atom.Integer z)))

and_distinct_few : (given : List Atom) (a : Atom) → length (functions.and_distinct given a) ≤ suc (length given)
and_distinct_few given a = of (list_any (λ b. functions.are_equal (same_type_cmp a b)) given)
  where
    of : (b : Bool) → length (if b then given else given ++ a ∷ []) ≤ suc (length given)
    of true = omega arith
    of false = let l = length-append given (a ∷ []) in omega (arith, l)

distinct_few : (given values : List Atom) → length (functions.distinct given values) ≤ length given + length values
distinct_few given [] = omega arith
distinct_few given (a ∷ more) = let d = distinct_few (functions.and_distinct given (as_string a)) more in let f = and_distinct_few given (as_string a) in omega (arith, d, f)

distinct_values : GivesOne functions.distinct_values
distinct_values r x q =
    bind (few_atoms x) (λ b _ values few. pure_ (functions.items_of (functions.distinct [] values)) (λ c j. items_given c (functions.distinct [] values) (let d = distinct_few [] values in let f = q.few in omega (arith, d, few, f))))

of_two_or_more : (g : functions.Application) → GivesAll g → GivesAll (functions.of_two_or_more g)
unfolding GivesAll
of_two_or_more g k r env [] h q = fault_ code.XPST0017
of_two_or_more g k r env (x ∷ []) h q = fault_ code.XPST0017
of_two_or_more g k r env (x ∷ y ∷ more) h q = k r env (x ∷ y ∷ more) h q

application : (f : Function) → GivesAll (functions.application f)
application function.Doc = of_one functions.doc doc
application function.Root = of_one_or_context functions.root root
application function.Name = of_one_or_context functions.name name
application function.String = of_one_or_context functions.string_of string_of
application function.Data = of_one functions.data_of data_of
application function.Count = of_one functions.count count
application function.Empty = of_one functions.empty empty
application function.Exists = of_one functions.exists exists
application function.Reverse = of_one functions.reversed reversed
application function.Not = of_one functions.untruth_of untruth
application function.Boolean = of_one functions.truth_of truth_value
application function.True = of_none (λ env. functions.boolean true) (λ r env. one_atom (atom.Boolean true))
application function.False = of_none (λ env. functions.boolean false) (λ r env. one_atom (atom.Boolean false))
application function.Position = of_none functions.position position
application function.Last = of_none functions.last last
application function.Concat = of_two_or_more functions.concatenated concatenated
application function.Contains = of_two (functions.of_texts functions.contains) (of_texts functions.contains)
application function.StartsWith = of_two (functions.of_texts (starts_with ◌==◌)) (of_texts (starts_with ◌==◌))
application function.EndsWith = of_two (functions.of_texts (ends_with ◌==◌)) (of_texts (ends_with ◌==◌))
application function.StringLength = of_one functions.string_length string_length
application function.StringJoin = of_two functions.string_join string_join
application function.Sum = of_one functions.sum sum
application function.DistinctValues = of_one functions.distinct_values distinct_values

applied : (f? : Option Function) (r : Run) (env : Environment) (values : List (List Item)) → Knows r env → Each (Given r) values → Holds r (List Item) Given (functions.applied f? env values)
unfolding GivesAll
applied None r env values h q = fault_ code.XPST0017
applied (Some f) r env values h q = application f r env values h q

abbrev AllGiven : Run → List (List Item) → Type 0
AllGiven run xs = Each (Given run) xs

all_given_up : IsStable (List (List Item)) AllGiven
all_given_up a b [] k h = tt
all_given_up a b (x ∷ xs) k h = (given_up a b x k h.0, all_given_up a b xs k h.1)

given_more : (run : Run) (xs : List (List Item)) (x : List Item) → AllGiven run xs → Given run x → AllGiven run (xs ++ x ∷ [])
given_more run [] x h g = (g, tt)
given_more run (y ∷ ys) x h g = (h.0, given_more run ys x h.1 g)

pub call : (f? : Option Function) (ms : List Meaning) → Each Good ms → Good (functions.call f? ms)
call f? ms gs r env h =
    bind (loop {f = λ _ given (m : Meaning). m env >>= (λ x. pure (given ++ x ∷ []))} (among_up Good env) all_given_up
    (λ n b given m v w. bind (w.1 b env w.0) (λ c j x q. pure_ (given ++ x ∷ []) (λ d l. given_more d given x (all_given_up b d given (up j l) v) (given_up c d x l q)))) 0 r ms (among Good r env h ms gs) [] tt)
    (λ b k values q. applied f? b env values (knows_up r b env k h) q)

-- Constructors.

pub named : {r : Run} (kind : Kind) (m : Meaning) → Good m → (env : Environment) → Knows r env → Holds r (List ℕ) Any (constructors.named kind m env)
named {r = r} kind m g env h = bind (g r env h) (λ b _ items _. bind (any_atoms items) (λ c _ values _. bind (come_any (one_text values)) (λ d _ text _. come_any (constructors.name_for kind text))))

abbrev pub GoodName : Name Meaning → Type 0
GoodName (Written text) = Unit {0}
GoodName (Computed m) = Good m

name_of : {r : Run} (kind : Kind) (n : Name Meaning) → GoodName n → (env : Environment) → Knows r env → Holds r (List ℕ) Any (constructors.name_of kind n env)
name_of kind (Written text) g env h = come_any (constructors.name_for kind text)
name_of kind (Computed m) g env h = named kind m g env h

pub element : (n : Name Meaning) (m : Meaning) → GoodName n → Good m → Good (constructors.element n m)
element n m gn g r env h = bind (name_of kind.Element n gn env h) (λ b k text _. bind (g b env (knows_up r b env k h)) (λ c j items _. assembled_sound kind.Element text contents.element_fault items))

pub document_node : (m : Meaning) → Good m → Good (constructors.document m)
document_node m g r env h = bind (g r env h) (λ b k items _. assembled_sound kind.Document [] contents.document_fault items)

with_text : {r : Run} (kind : Kind) (name text : List ℕ) → Holds r (List Item) Given (constructors.with_text kind name text)
with_text kind name text = leaf_sound (λ i. record { identity = i; kind = kind; name = name; text = text }) (λ i. refl)

text_of : {r : Run} (m : Meaning) → Good m → (env : Environment) → Knows r env → Holds r (List ℕ) Any (constructors.text_of m env)
text_of {r = r} m g env h = bind (g r env h) (λ b _ items _. bind (any_atoms items) (λ c _ values _. come_any (spaced values)))

pub attribute : (n : Name Meaning) (m : Meaning) → GoodName n → Good m → Good (constructors.attribute n m)
attribute n m gn g r env h = bind (name_of kind.Attribute n gn env h) (λ b k name _. bind (text_of m g env (knows_up r b env k h)) (λ c _ text _. with_text kind.Attribute name text))

text_of_values : {r : Run} (values : List Atom) → Holds r (List Item) Given (constructors.text_of_values values)
text_of_values [] = pure_ [] (λ b k. no_items)
text_of_values (a ∷ more) = bind (come_any (spaced (a ∷ more))) (λ b _ text _. with_text kind.Text [] text)

pub text : (m : Meaning) → Good m → Good (constructors.text m)
text m g r env h = bind (g r env h) (λ b _ items _. bind (any_atoms items) (λ c _ values _. text_of_values values))

pub comment : (m : Meaning) → Good m → Good (constructors.comment m)
comment m g r env h = bind (text_of m g env h) (λ b _ given _. bind (come_any (constructors.comment_text given)) (λ c _ text _. with_text kind.Comment [] text))

pub instruction : (n : Name Meaning) (m : Meaning) → GoodName n → Good m → Good (constructors.instruction n m)
instruction n m gn g r env h =
    bind (name_of kind.Instruction n gn env h) (λ b k name _. bind (text_of m g env (knows_up r b env k h)) (λ c _ given _. bind (come_any (constructors.instruction_text given)) (λ d _ text _. with_text kind.Instruction name text)))
