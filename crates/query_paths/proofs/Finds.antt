-- What a segment of a path gives, by what is found in it.
use Rattle.std.proofs.Common.{◌≡◌, ℕ, zero, suc, ◌+◌, ◌-◌, ◌==◌, ◌≤◌, Bool, true, false, List, [], ◌∷◌, length, map, filter, refl, ap, sym, ◌∙◌, subst, arith, Result, Ok, Err, IfOk, IsOk}
use Rattle.std.proofs.lemmas.Bool.{eq-eqb, eqb-true}
use Rattle.std.proofs.lemmas.List.{length-map}
use Rattle.data_model.specs.Axes.{is_in}
use Rattle.data_model.specs.Order.{identities}
use Rattle.data_model.proofs.Climbs.{AreDistinct}
use Rattle.fault_codes.specs.declared.code.Code.{Code}
use Rattle.fault_codes.specs.declared.code.Code.TheVariants.{XPTY0019}
use Rattle.values.specs.declared.atom.Atom.{Atom}
use Rattle.values.specs.declared.atom.Item.{Item}
use Rattle.values.specs.declared.atom.Item.TheVariants as item
use Rattle.values.specs.declared.fault.ValueFault.{ValueFault}
use Rattle.values.specs.declared.fault.ValueFault.TheVariants as fault
use Rattle.query_meaning.specs.Environment.{Environment, with_focus}
use Rattle.query_meaning.specs.Operators.{all_nodes, nodes}
use Rattle.query_meaning.specs.Meaning.{mean}
use Rattle.query_meaning.specs.Paths.{Found, all_found, and_found, found_within, concluded, mixed_code, segment}
use Rattle.query_meaning.specs.Running.{M, Run, and_then, ◌>>=◌, come_to, counted, each, trees_of, turn, within, most_items}
use Rattle.query_meaning.specs.Sequences.{Meaning}
use Rattle.evaluation.specs.Gives.{Fails, Gives, GivesIn, Says, Stand, Turns}
use Rattle.evaluation.proofs.Each.{grows_refl, then_gives}
use Rattle.evaluation.proofs.Limits.{within_is}
use Rattle.query_steps.proofs.Ancestors.{held-once}
use Rattle.query_steps.proofs.Members.{filtered-stand, not-too-many}
use Rattle.query_paths.proofs.Counts.{members}
use Rattle.query_grammar.specs.declared.ast.Expr.{Expr}
use Rattle.query_paths.specs.Gathered.{IsFew, IsFewIn, followed, listed, one_found, found_in, gathered}

-- one item more
pub one_gives : (f : Found) (x : Item) (run : Run) (r : Result Found ValueFault) → Says (found_within (and_found f x)) r → IfOk r IsFew → GivesIn IsFewIn (one_found f x) run r run
one_gives f x run (Ok g) says few = (ap (λ o. come_to o run) says, (grows_refl run, few))
one_gives f x run (Err fault.Memory) says few = tt
one_gives f x run (Err (fault.Code code)) says few = ap (λ o. come_to o run) says

-- what comes to the same
same_gives : {A : Type 0} (P : A → Run → Type 0) (m n : M A) (old new : Run) (r : Result A ValueFault) → m old ≡ n old → GivesIn P n old r new → GivesIn P m old r new
same_gives P m n old new (Ok a) same g = (same ∙ g.0, g.1)
same_gives P m n old new (Err fault.Memory) same g = tt
same_gives P m n old new (Err (fault.Code code)) same g = same ∙ g

-- after a turn
pub turn_gives : {A : Type 0} (P : A → Run → Type 0) (m : M A) (old mid new : Run) (r : Result A ValueFault) → Turns (Ok tt) old mid → GivesIn P m mid r new → GivesIn P (turn m) old r new
turn_gives P m old mid new r turns g = given r (subst (λ run. GivesIn P m run r new) turns.0 g)
  where
    taken : turn m old ≡ m (record old { turns = old.turns - 1 })
    taken = rw turns.1 refl

    given : (r : Result _ ValueFault) → GivesIn P m (record old { turns = old.turns - 1 }) r new → GivesIn P (turn m) old r new
    given (Ok a) g = (taken ∙ g.0, (record { kept = g.1.0.kept }, g.1.1))
    given (Err fault.Memory) g = tt
    given (Err (fault.Code code)) g = taken ∙ g

-- what the right side gives for one item
pub found_gives : (m : Meaning) (env : Environment) (n i : ℕ) (f : Found) (x : Item) (old mid new : Run) (items seen : List Item) (r : Result Found ValueFault)
    → Turns (Ok tt) old mid → Gives (m (with_focus x (i + 1) n env)) mid (Ok items) new → seen ≡ items → ((run : Run) → GivesIn IsFewIn (all_found f seen) run r run) → GivesIn IsFewIn (found_in m env n i f x) old r new
found_gives m env n i f x old mid new items seen r turns value same all =
    let own = m (with_focus x (i + 1) n env) in
    let P : List Item → Type 0 = λ xs. GivesIn IsFewIn (all_found f xs) new r new in
    turn_gives IsFewIn (own >>= all_found f) old mid new r turns (then_gives Stand IsFewIn own (all_found f) mid new new items r value (subst P same (all new)))

-- the segment, by its two halves
module _ (mixed : Code) (env : Environment) (items : List Item) (m : Meaning) (old : Run) (all : IsOk (all_nodes XPTY0019 items)) where
  abbrev rest : M (List Item)
  rest = gathered env items m >>= (λ f. concluded mixed f.nodes f.atoms)

  same : segment mixed env items m old ≡ rest old
  same = by (all_nodes XPTY0019 items) all
    where
      by : (r : Result (List ℕ) Code) → IsOk r → (come_to r >>= (λ _. rest)) old ≡ rest old
      by (Ok is) h = refl
      by (Err code) h = cc

  pub segment_gives : (mid new : Run) (f : Found) (r : Result (List Item) ValueFault) → GivesIn IsFewIn (gathered env items m) old (Ok f) mid → Gives (concluded mixed f.nodes f.atoms) mid r new → Gives (segment mixed env items m) old r new
  segment_gives mid new f r found end =
      same_gives Stand (segment mixed env items m) rest old new r same (then_gives IsFewIn Stand (gathered env items m) (λ f. concluded mixed f.nodes f.atoms) old mid new f r found end)

  pub segment_fails : (e : ValueFault) → Fails (gathered env items m old) e → Fails (segment mixed env items m old) e
  segment_fails fault.Memory failed = tt
  segment_fails (fault.Code code) failed = same ∙ ap (λ o. and_then o (λ f. concluded mixed f.nodes f.atoms)) failed

-- items that are not too many are given
few_gives : (m : M (List Item)) (xs : List Item) (run : Run) (r : Result (List Item) ValueFault) → m run ≡ Ok (xs, run) → Stand xs run → length xs ≤ 10000 → Says (within xs) r → Gives m run r run
few_gives m xs run (Ok ys) to stand few says =
    let P : List Item → Type 0 = λ zs. Stand zs run in
    let is : xs ≡ ys = sym (within_is xs ys says) in
    (to ∙ ap (λ zs. Ok (zs, run)) is, (grows_refl run, subst P is stand))
few_gives m xs run (Err fault.Memory) to stand few says = tt
few_gives m xs run (Err (fault.Code code)) to stand few says = absurd (not-too-many xs code few says)

-- nodes that are found, in document order
abbrev in_order : List ℕ → Run → List ℕ
in_order ns run = filter (λ i. is_in i ns) (identities (trees_of run))

nodes_few : (ns : List ℕ) (vs : List Atom) (run : Run) → AreDistinct (trees_of run) → length ns + length vs ≤ most_items → length (nodes (in_order ns run)) ≤ 10000
unfolding most_items
nodes_few ns vs run d few =
    let fewer = members ns (identities (trees_of run)) (held-once (trees_of run) d) in
    let whole : length (nodes (in_order ns run)) ≡ length (in_order ns run) = length-map (in_order ns run) (λ i. item.Node i) in
    omega (arith, few, fewer, whole)

pub nodes_give : (mixed : Code) (ns : List ℕ) (vs : List Atom) (run : Run) (ordered seen : List ℕ) (xs : List Item) (r : Result (List Item) ValueFault)
    → AreDistinct (trees_of run) → vs ≡ [] → length ns + length vs ≤ most_items → ordered ≡ filter (λ i. is_in i ns) (identities (trees_of run)) → seen ≡ ordered → xs ≡ nodes seen → Says (within xs) r
    → Gives (listed mixed ns vs) run r run
nodes_give mixed ns vs run ordered seen xs r d none few found same items says =
    let P : List Item → Type 0 = λ ys. Says (within ys) r in
    few_gives (listed mixed ns vs) (nodes (in_order ns run)) run r (ap (λ bs. listed mixed ns bs run) none) (filtered-stand (λ i. is_in i ns) run) (nodes_few ns vs run d few) (subst P (items ∙ ap nodes (same ∙ found)) says)

-- atomic values that are found
abbrev values : List Atom → List Item
values vs = map (λ a. item.Atomic a) vs

values_there : (vs : List Atom) (run : Run) → Stand (values vs) run
values_there [] run k d h = absurd (omega (arith, h))
values_there (a ∷ vs) run zero d h = tt
values_there (a ∷ vs) run (suc k) d h = values_there vs run k d (omega (arith, h))

values_few : (ns : List ℕ) (vs : List Atom) → length ns + length vs ≤ most_items → length (values vs) ≤ 10000
unfolding most_items
values_few ns vs few = let whole : length (values vs) ≡ length vs = length-map vs (λ a. item.Atomic a) in omega (arith, few, whole)

some_values : (mixed : Code) (vs : List Atom) (run : Run) → (vs ≡ [] → ⊥) → listed mixed [] vs run ≡ Ok (values vs, run)
some_values mixed [] run some = absurd (some refl)
some_values mixed (a ∷ vs) run some = refl

pub values_give : (mixed : Code) (ns : List ℕ) (vs seen : List Atom) (run : Run) (xs : List Item) (r : Result (List Item) ValueFault)
    → ns ≡ [] → (vs ≡ [] → ⊥) → length ns + length vs ≤ most_items → seen ≡ vs → xs ≡ map (λ a. item.Atomic a) seen → Says (within xs) r → Gives (listed mixed ns vs) run r run
values_give mixed ns vs seen run xs r none some few same items says =
    let P : List Item → Type 0 = λ ys. Says (within ys) r in
    few_gives (listed mixed ns vs) (values vs) run r (ap (λ is. listed mixed is vs run) none ∙ some_values mixed vs run some) (values_there vs run) (values_few ns vs few) (subst P (items ∙ ap values same) says)

-- whether a list has items, by its length
pub no_items : {A : Type 0} (xs : List A) (n : ℕ) (b : Bool) → n ≡ length xs → b ≡ (n == 0) → b ≡ true → xs ≡ []
no_items [] n b long e h = refl
no_items (x ∷ xs) n b long e h = let z = eqb-true n 0 (sym e ∙ h) in absurd (omega (arith, long, z))

pub some_items : {A : Type 0} (xs : List A) (n : ℕ) (b : Bool) → n ≡ length xs → b ≡ (n == 0) → b ≡ false → xs ≡ [] → ⊥
some_items [] n b long e h none = let z : true ≡ false = sym (eq-eqb n 0 long) ∙ sym e ∙ h in cc
some_items (x ∷ xs) n b long e h none = cc

-- ---- the parts of a path are as many as their meanings
pub followed_gives : (parts : List Expr) (env : Environment) (items : List Item) (old new : Run) (r : Result (List Item) ValueFault)
    → Gives (each (λ i given m. counted (segment (mixed_code (length parts) i) env given m)) 0 (map mean parts) items) old r new → Gives (followed env items (map mean parts)) old r new
followed_gives parts env items old new r h = subst (λ k. Gives (each (λ i given m. counted (segment (mixed_code k i) env given m)) 0 (map mean parts) items) old r new) (sym (length-map parts mean)) h
