-- What a step gives, by what its predicates keep.
use Rattle.std.proofs.Common.{◌≡◌, ℕ, zero, suc, ◌==◌, List, [], ◌∷◌, length, map, reverse, Bool, true, false, ◌&&◌, cond, refl, ap, sym, ◌∙◌, subst, arith, Result, Ok, Err}
use Rattle.std.proofs.lemmas.Bool.Decides.{nat_tests}
use Rattle.std.proofs.lemmas.List.{reverse-append, reverse-reverse}
use Rattle.std.proofs.lemmas.List.Elements.{All-append}
use Rattle.data_model.specs.Axes.{is_on}
use Rattle.data_model.specs.Order.{identities}
use Rattle.data_model.specs.Trees.{Trees, find}
use Rattle.data_model.specs.declared.axis.Axis.{Axis}
use Rattle.values.specs.Items.{IsThere, AreThere}
use Rattle.values.specs.declared.atom.Item.{Item}
use Rattle.values.specs.declared.fault.ValueFault.{ValueFault}
use Rattle.values.specs.declared.fault.ValueFault.TheVariants as fault
use Rattle.query_grammar.specs.declared.ast.Expr.{Expr}
use Rattle.query_grammar.specs.declared.ast.NodeTest.{NodeTest}
use Rattle.query_meaning.specs.Environment.{Environment}
use Rattle.query_meaning.specs.Meaning.{mean}
use Rattle.query_meaning.specs.Operators.{nodes}
use Rattle.query_meaning.specs.Paths.{looked_at, tested_nodes, passes_at, filtered, predicates, in_direction, is_reverse}
use Rattle.query_meaning.specs.Running as running
use Rattle.query_meaning.specs.Running.{M, Run, ◌>>=◌, come_to, trees_of, within, work}
use Rattle.query_meaning.specs.Sequences.{Meaning}
use Rattle.evaluation.specs.Gives.{Any, Fails, Gives, GivesIn, Says, Stand}
use Rattle.evaluation.proofs.Each.{grows_refl, then_gives}
use Rattle.evaluation.proofs.Limits.{within_is}
use Rattle.query_steps.proofs.Lists.{filter-both}
use Rattle.query_steps.proofs.Members.{filtered-stand}
use Rattle.query_paths.specs.Steps.{chosen_from, step_at}
use Rattle.query_paths.proofs.Work.{fails_first}

-- the items of a list stand in any order
single_there : (ts : Trees) (x : Item) → IsThere ts x → AreThere ts (x ∷ [])
single_there ts x there zero d h = there
single_there ts x there (suc k) d h = absurd (omega (arith, h))

reversed_there : (ts : Trees) (xs : List Item) → AreThere ts xs → AreThere ts (reverse xs)
reversed_there ts [] all = all
reversed_there ts (x ∷ xs) all =
    let P : List Item → Type 0 = λ ys. AreThere ts ys in
    subst P (sym (reverse-append (x ∷ []) xs)) (All-append (IsThere ts) (reverse xs) (x ∷ []) (reversed_there ts xs (λ k d h. all (suc k) d (omega (arith, h)))) (single_there ts x (all zero x (omega arith))))

pub directed_stand : (a : Axis) (xs : List Item) (run : Run) → Stand xs run → Stand (in_direction a xs) run
directed_stand a xs run stand = at (is_reverse a)
  where
    at : (b : Bool) → Stand (cond b (reverse xs) xs) run
    at true = reversed_there (trees_of run) xs stand
    at false = stand

-- the nodes that a step finds stand
pub tested_stand : (a : Axis) (t : NodeTest) (i : ℕ) (run : Run) → Stand (nodes (tested_nodes a t i (trees_of run))) run
tested_stand a t i run =
    let ts = trees_of run in
    let P : List ℕ → Type 0 = λ is. Stand (nodes is) run in
    subst P (sym (filter-both (λ j. passes_at a t (find j ts)) (is_on a ts i) (identities ts))) (filtered-stand (λ j. is_on a ts i j && passes_at a t (find j ts)) run)

-- and so do they in a run whose trees are the same
pub found_stand : (a : Axis) (t : NodeTest) (i : ℕ) (old new : Run) (is seen : List ℕ) → new ≡ record old { work = new.work } → is ≡ tested_nodes a t i (trees_of old) → seen ≡ is → Stand (nodes seen) new
found_stand a t i old new is seen worked found same =
    let P : List ℕ → Type 0 = λ js. Stand (nodes js) new in
    subst P (ap (λ (run : Run). tested_nodes a t i (trees_of run)) worked ∙ sym (same ∙ found)) (tested_stand a t i new)

pub kept_stand : (a : Axis) (is : List ℕ) (xs : List Item) (run : Run) → Stand (nodes is) run → xs ≡ in_direction a (nodes is) → Stand xs run
kept_stand a is xs run stand directed = let P : List Item → Type 0 = λ ys. Stand ys run in subst P (sym directed) (directed_stand a (nodes is) run stand)

-- what is left is given, if it is not too much
within_gives : (xs : List Item) (run : Run) (r : Result (List Item) ValueFault) → Stand xs run → Says (within xs) r → Gives (come_to (within xs)) run r run
within_gives xs run (Ok ys) stand says = let P : List Item → Type 0 = λ zs. Stand zs run in (ap (λ o. come_to o run) says, (grows_refl run, subst P (sym (within_is xs ys says)) stand))
within_gives xs run (Err fault.Memory) stand says = tt
within_gives xs run (Err (fault.Code code)) stand says = ap (λ o. come_to o run) says

pub chosen_gives : (a : Axis) (ms : List Meaning) (is : List ℕ) (env : Environment) (old mid : Run) (xs left turned : List Item) (r : Result (List Item) ValueFault)
    → xs ≡ in_direction a (nodes is) → Gives (predicates ms env xs) old (Ok left) mid → turned ≡ in_direction a left → Says (within turned) r → Gives (chosen_from a ms is env) old r mid
chosen_gives a ms is env old mid xs left turned r directed kept back says =
    let P : List Item → Type 0 = λ ys. Gives (predicates ms env ys) old (Ok left) mid in
    let Q : List Item → Type 0 = λ ys. Says (within ys) r in
    then_gives Stand Stand (predicates ms env (in_direction a (nodes is))) (λ ys. come_to (within (in_direction a ys))) old mid mid left r
    (subst P directed kept) (within_gives (in_direction a left) mid r (directed_stand a left mid kept.1.1) (subst Q back says))

-- nothing is chosen from nothing
nothing_left : (env : Environment) (n : ℕ) (ms : List Meaning) (run : Run) → running.each (λ _. filtered env) n ms [] run ≡ Ok ([], run)
nothing_left env n [] run = refl
nothing_left env n (m ∷ ms) run = nothing_left env (suc n) ms run

nothing_turned : (a : Axis) → in_direction a [] ≡ []
nothing_turned a = at (is_reverse a)
  where
    at : (b : Bool) → cond b (reverse {A = Item} []) [] ≡ []
    at true = refl
    at false = refl

nothing_stands : (run : Run) → Stand [] run
nothing_stands run k d h = absurd (omega (arith, h))

none_of : {A : Type 0} (xs : List A) → (length xs == 0) ≡ true → xs ≡ []
none_of [] none = refl
none_of (x ∷ xs) none = absurd (grind (arith, nat_tests))

pub nothing_gives : (a : Axis) (ms : List Meaning) (is : List ℕ) (env : Environment) (run : Run) → (length is == 0) ≡ true → Gives (chosen_from a ms is env) run (Ok []) run
unfolding running.most_items
nothing_gives a ms is env run none = (
  ap (λ js. chosen_from a ms js env run) (none_of is none)
      ∙ ap (λ xs. (predicates ms env xs >>= (λ ys. come_to (within (in_direction a ys)))) run) (nothing_turned a)
      ∙ ap (λ r. running.and_then r (λ ys. come_to (within (in_direction a ys)))) (nothing_left env 0 ms run)
      ∙ ap (λ xs. come_to (within xs) run) (nothing_turned a),
  (grows_refl run, nothing_stands run),
)

-- all are chosen where there are no predicates
turned_twice : (a : Axis) (xs : List Item) → in_direction a (in_direction a xs) ≡ xs
turned_twice a xs = at (is_reverse a)
  where
    at : (b : Bool) → cond b (reverse (cond b (reverse xs) xs)) (cond b (reverse xs) xs) ≡ xs
    at true = reverse-reverse xs
    at false = refl

pub no_predicates : (a : Axis) (ps : List Expr) (is : List ℕ) (env : Environment) (run : Run) (r : Result (List Item) ValueFault) → (length ps == 0) ≡ true → Stand (nodes is) run → Says (within (nodes is)) r
    → Gives (chosen_from a (map mean ps) is env) run r run
no_predicates a ps is env run r none stand says =
    let P : List Expr → Type 0 = λ qs. Gives (chosen_from a (map mean qs) is env) run r run in
    let Q : List Item → Type 0 = λ xs. Gives (come_to (within xs)) run r run in
    subst P (sym (none_of ps none)) (subst Q (sym (turned_twice a (nodes is))) (within_gives (nodes is) run r stand says))

-- the step, by its work and what is chosen
pub step_gives : (a : Axis) (t : NodeTest) (ms : List Meaning) (i : ℕ) (env : Environment) (old mid new : Run) (looked : ℕ) (is seen : List ℕ) (r : Result (List Item) ValueFault)
    → looked ≡ looked_at a i (trees_of old) → is ≡ tested_nodes a t i (trees_of old) → seen ≡ is → GivesIn Any (work looked) old (Ok tt) mid → mid ≡ record old { work = mid.work }
    → Gives (chosen_from a ms seen env) mid r new → Gives (step_at a t ms i env) old r new
step_gives a t ms i env old mid new looked is seen r long found same paid worked given =
    let P : ℕ → Type 0 = λ n. GivesIn Any (work n) old (Ok tt) mid in
    let Q : List ℕ → Type 0 = λ js. Gives (chosen_from a ms js env) mid r new in
    then_gives Any Stand (seen_first) (λ _. rest) old mid new tt r (subst P long paid)
    (subst Q (same ∙ found ∙ ap (λ (run : Run). tested_nodes a t i (trees_of run)) (sym worked)) given)
  where
    seen_first : M (Unit {0})
    seen_first = running.seen (looked_at a i) >>= work

    rest : M (List Item)
    rest = running.seen (tested_nodes a t i) >>= (λ js. chosen_from a ms js env)

-- too little work
pub step_fails : (a : Axis) (t : NodeTest) (ms : List Meaning) (i : ℕ) (env : Environment) (old new : Run) (looked : ℕ) (e : ValueFault)
    → looked ≡ looked_at a i (trees_of old) → GivesIn Any (work looked) old (Err e) new → Fails (step_at a t ms i env old) e
step_fails a t ms i env old new looked e long failed =
    let P : ℕ → Type 0 = λ n. GivesIn Any (work n) old (Err e) new in
    fails_first Any (running.seen (looked_at a i) >>= work) (λ _. running.seen (tested_nodes a t i) >>= (λ js. chosen_from a ms js env)) old new e (subst P long failed)
