-- A whole evaluation.
use Rattle.std.specs.List.{All, AllByRecursion}
use Rattle.std.specs.Option.{ForSome}
use Rattle.std.proofs.Common.{◌≡◌, inl, inr, ◌≤◌, ◌<◌, ◌+◌, ℕ, List, [], ◌∷◌, length, Option, Some, None, IsSome, Result, Ok, Err, ap, subst, sym, refl, arith}
use Rattle.std.proofs.lemmas.List.Elements.{recursion_from_All}
use Rattle.trees.specs.Forest.{ForestTerm, IsForest, AreDocuments}
use Rattle.data_model.specs.Trees.{Trees, no_trees, tree, Place, append, count, find, roots, IsAt}
use Rattle.data_model.specs.declared.node.Kind.TheVariants.{Document}
use Rattle.data_model.proofs.Climbs.{there-counts}
use Rattle.data_model.proofs.Weights.{append-none}
use Rattle.fault_codes.specs.declared.code.Code.{Code}
use Rattle.values.specs.declared.atom.Item.{Item}
use Rattle.query_grammar.specs.declared.ast.Expr.{Expr}
use Rattle.shelves.specs.Shelf.{IsShelf}
use Rattle.query_meaning.specs.Environment.{Environment, Focus, Bound, no_environment}
use Rattle.query_meaning.specs.Meaning.{mean, evaluated, start, outcome, Outcome}
use Rattle.query_meaning.specs.Running.{Run, trees_of, most_nodes, most_items}
use Rattle.update_meaning.specs.Brought.{new_trees}
use Rattle.meaning_laws.proofs.Updating.{every}
use Rattle.meaning_laws.specs.Given.{Stands as StandsIn, AllStand, IsKnown}
use Rattle.meaning_laws.proofs.Giving.{FocusStands, Knows, knows_nothing}
use Rattle.meaning_laws.proofs.Bringing.{every as given}
use Rattle.meaning_laws.proofs.Sound.{IsSound, AreThere, Ends, Given, same_run, same_value, both_counted}
use Rattle.meaning_laws.proofs.Keeps.{no_value, Each}
use Rattle.meaning_laws.proofs.Steady.{Numbers, numbers, same_forest, SameForest, Beside, none_beside, StandFirst, stand_first}
use Rattle.meaning_laws.proofs.Changing.{IsRoot}

abbrev next_of : ℕ → Result Outcome Code → ℕ
next_of n (Ok o) = o.next
next_of n (Err e) = n

abbrev IsLimited : ForestTerm → ℕ → Type 0
IsLimited lent next = (lent.next ≤ next) × (next ≤ lent.next + most_nodes)

of_result : (x : Expr) (lent : ForestTerm) (o : Outcome) (r : Result (List Item × Run) Code) → mean x no_environment (start lent) ≡ r → outcome r ≡ Ok o → IsLimited lent o.next
of_result x lent o (Ok p) e h =
    let n = (every Numbers numbers x no_environment).kept (start lent) p e in
    let f = (every SameForest same_forest x no_environment).kept (start lent) p e in
    let top : p.1.shelf.own.next ≤ p.1.shelf.lent.next + most_nodes = n.1 (omega arith) in
    let same : p.1.shelf.own.next ≡ o.next = ap (next_of 0) h in
    subst (IsLimited lent) same (n.0, subst (λ (g : ForestTerm). p.1.shelf.own.next ≤ g.next + most_nodes) f top)
of_result x lent o (Err e) is h = absurd (no_value e o h)

pub limited : (x : Expr) (lent : ForestTerm) (o : Outcome) → evaluated x lent ≡ Ok o → IsLimited lent o.next
unfolding evaluated
limited x lent o h = of_result x lent o (mean x no_environment (start lent)) refl h

-- Over trees whose roots come before the next identity.

roots_before : (n : ℕ) (ts : Trees) → AllByRecursion (λ i. i < n) (roots ts) → (k : ℕ) → IsRoot k ts → k < n
roots_before n no_trees h k root = absurd root
roots_before n (tree c bs cs rest) h k (inl e) = subst (λ j. j < n) e h.0
roots_before n (tree c bs cs rest) h k (inr root) = roots_before n rest h.1 k root

pub first_stand : (x : Expr) (env : Environment) (run after : Run) (items : List Item) → All (λ i. i < run.shelf.own.next) (roots run.shelf.own.trees)
    → mean x env run ≡ Ok (items, after) → Beside run.shelf.own.trees after.shelf.own.trees
first_stand x env run after items low e =
    let n = run.shelf.own.next in
    let ts = run.shelf.own.trees in
    let before = roots_before n ts (recursion_from_All (λ i. i < n) (roots ts) low) in
    ((every (StandFirst n ts) (stand_first n ts before) x env).kept run (items, after) e (omega arith, none_beside ts)).1

-- Over a forest of distinct nodes.

all_there : (ts : Trees) (ds : List (List ℕ × ℕ)) → AreDocuments ts ds → AreThere ts ds
all_there ts [] h = tt
all_there ts (d ∷ ds) h = (there (find d.1 ts) refl h.0.1, all_there ts ds h.1)
  where
    there : (o : Option Place) → find d.1 ts ≡ o → IsAt o (λ c. c.kind ≡ Document) → 0 < count d.1 ts
    there None e k = absurd k
    there (Some x) e k = there-counts d.1 ts (subst IsSome (sym e) refl)

start_sound : (lent : ForestTerm) → IsForest lent → IsSound (λ i. 0) (start lent)
start_sound lent h = record {
  once = λ i. omega (arith, same i, h.distinct i);
  below = λ i there. h.below i (omega (arith, same i, there));
  fresh = λ i there. absurd (omega (arith, there));
  started = omega arith;
  documents = all_there lent.trees lent.documents h.standing;
}
  where
    same : (i : ℕ) → count i (append lent.trees no_trees) ≡ count i lent.trees
    same i = ap (count i) (append-none lent.trees)

-- what stands after an evaluation
pub record Stands (lent : ForestTerm) (o : Outcome) : Type 0 where
  pub few : length o.items ≤ most_items
  pub stand : AllStand (append lent.trees o.trees) o.items
  pub new : (i : ℕ) → (count i (append lent.trees (append o.trees (new_trees o.primitives))) ≤ 1)
      × (0 < count i (append o.trees (new_trees o.primitives)) → (lent.next ≤ i) × (i < o.next))

abbrev given_by : List Item × Run → Outcome
given_by p = record { items = p.0; primitives = p.1.primitives; trees = p.1.shelf.own.trees; next = p.1.shelf.own.next }

three_counted : (i : ℕ) (ts us vs : Trees) → count i (append ts (append us vs)) ≡ count i ts + count i us + count i vs
three_counted i ts us vs = omega (arith, both_counted i ts (append us vs), both_counted i us vs)

-- the new trees of a run, and those that its primitives bring
abbrev new_in : Run → Trees
new_in run = append run.shelf.own.trees (new_trees run.primitives)

once_each : (run : Run) → IsSound (λ i. 0) run → (i : ℕ) → count i (append run.shelf.lent.trees (new_in run)) ≤ 1
once_each run s i =
    let stood = both_counted i run.shelf.lent.trees run.shelf.own.trees in
    omega (arith, three_counted i run.shelf.lent.trees run.shelf.own.trees (new_trees run.primitives), stood, s.once i)

in_range : (run : Run) → IsSound (λ i. 0) run → (i : ℕ) → 0 < count i (new_in run) → (run.shelf.lent.next ≤ i) × (i < run.shelf.own.next)
in_range run s i there =
    let new = both_counted i run.shelf.own.trees (new_trees run.primitives) in
    let stood = both_counted i run.shelf.lent.trees run.shelf.own.trees in
    (s.fresh i (omega (arith, new, there)), s.below i (omega (arith, new, stood, there)))

of_run : (lent : ForestTerm) (p : List Item × Run) → p.1.shelf.lent ≡ lent → Ends (List Item) Given (λ _ i. 0) (start lent) p
    → Stands lent (given_by p)
of_run lent p same e = record {
  few = e.value.few;
  stand = subst (λ (f : ForestTerm). AllStand (append f.trees p.1.shelf.own.trees) p.0) same e.value.stand;
  new = λ i. (
    subst (λ (f : ForestTerm). count i (append f.trees (new_in p.1)) ≤ 1) same (once_each p.1 e.sound i),
    λ there. (let range = in_range p.1 e.sound i there in (subst (λ (f : ForestTerm). f.next ≤ i) same range.0, range.1)),
  );
}

standing_of : (x : Expr) (lent : ForestTerm) (o : Outcome) (r : Result (List Item × Run) Code) → IsForest lent → mean x no_environment (start lent) ≡ r → outcome r ≡ Ok o → Stands lent o
standing_of x lent o (Ok p) h e w =
    let knows = knows_nothing (start lent) in
    let ends = ((given x (start lent) no_environment knows).holds (λ i. 0)).passes (start lent) (start_sound lent h) same_run p e in
    let same = (every SameForest same_forest x no_environment).kept (start lent) p e in
    subst (Stands lent) (same_value (given_by p) o w) (of_run lent p same ends)
standing_of x lent o (Err c) h e w = absurd (no_value c o w)

pub standing : (x : Expr) (lent : ForestTerm) (o : Outcome) → IsForest lent → evaluated x lent ≡ Ok o → Stands lent o
unfolding evaluated
standing x lent o h w = standing_of x lent o (mean x no_environment (start lent)) h refl w

-- the new trees alone, without those that primitives bring
own_of_standing : (lent : ForestTerm) (o : Outcome) → Stands lent o
    → (i : ℕ) → (count i (append lent.trees o.trees) ≤ 1) × (0 < count i o.trees → (lent.next ≤ i) × (i < o.next))
own_of_standing lent o s i =
    let all = three_counted i lent.trees o.trees (new_trees o.primitives) in
    let more = both_counted i o.trees (new_trees o.primitives) in
    (omega (arith, both_counted i lent.trees o.trees, all, (s.new i).0), λ there. (s.new i).1 (omega (arith, more, there)))

pub own_trees : (x : Expr) (lent : ForestTerm) (o : Outcome) → IsForest lent → evaluated x lent ≡ Ok o
    → (i : ℕ) → (count i (append lent.trees o.trees) ≤ 1) × (0 < count i o.trees → (lent.next ≤ i) × (i < o.next))
own_trees x lent o h w = own_of_standing lent o (standing x lent o h w)

-- Over a shelf, with a list of its own.

shelf_sound : (run : Run) → IsShelf run.shelf → run.primitives ≡ [] → IsSound (λ i. 0) run
shelf_sound run s none = record {
  once = λ i. omega (arith, nothing i, s.distinct i);
  below = λ i there. s.below i (omega (arith, nothing i, there));
  fresh = λ i there. s.after.apart i (omega (arith, nothing i, there));
  started = s.after.later;
  documents = all_there run.shelf.lent.trees run.shelf.lent.documents s.lent.standing;
}
  where
    nothing : (i : ℕ) → count i (new_trees run.primitives) ≡ 0
    nothing i = ap (λ ps. count i (new_trees ps)) none

known : (run : Run) (env : Environment) → IsKnown (trees_of run) env → Knows run env
known run env k = record {
  focus = focus env.focus k.focus;
  variables = variables env.variables (recursion_from_All (λ b. length b.items ≤ most_items) env.variables k.few)
      (recursion_from_All (λ b. AllStand (trees_of run) b.items) env.variables k.variables);
}
  where
    focus : (o : Option Focus) → ForSome o (λ f. StandsIn (trees_of run) f.item) → FocusStands run o
    focus None h = tt
    focus (Some f) h = h f refl

    variables : (bs : List Bound) → AllByRecursion (λ b. length b.items ≤ most_items) bs → AllByRecursion (λ b. AllStand (trees_of run) b.items) bs
        → Each (λ (b : Bound). Given run b.items) bs
    variables [] h g = tt
    variables (b ∷ bs) h g = (record { few = h.0; stand = g.0 }, variables bs h.1 g.1)

pub brought : (x : Expr) (env : Environment) (run after : Run) (items : List Item) → IsShelf run.shelf → run.primitives ≡ [] → IsKnown (trees_of run) env
    → mean x env run ≡ Ok (items, after)
    → (i : ℕ) → (count i (append (trees_of after) (new_trees after.primitives)) ≤ 1)
    × (0 < count i (append after.shelf.own.trees (new_trees after.primitives)) → (run.shelf.lent.next ≤ i) × (i < after.shelf.own.next))
brought x env run after items s none k e i =
    let ends = ((given x run env (known run env k)).holds (λ j. 0)).passes run (shelf_sound run s none) same_run (items, after) e in
    let same : after.shelf.lent ≡ run.shelf.lent = (every SameForest same_forest x env).kept run (items, after) e in
    let all = both_counted i (trees_of after) (new_trees after.primitives) in
    (omega (arith, all, ends.sound.once i), λ there. (let range = in_range after ends.sound i there in (subst (λ (f : ForestTerm). f.next ≤ i) same range.0, range.1)))
