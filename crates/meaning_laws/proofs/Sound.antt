-- What an evaluation gives over trees of distinct nodes, and that it leaves such trees.
use Rattle.std.proofs.Common.{◌≡◌, ℕ, suc, ◌+◌, ◌-◌, ◌<◌, ◌≤◌, ◌==◌, Bool, true, false, nat_le, if◌then◌else◌}
use Rattle.std.proofs.Common.{List, [], ◌∷◌, ◌++◌, length, Result, Ok, Err, refl, ap, subst, arith}
use Rattle.std.proofs.lemmas.Bool.{leb-true}
use Rattle.data_model.specs.Trees.{Trees, count}
use Rattle.update_meaning.specs.Brought.{trees_of as brought_by, new_trees}
use Rattle.pending.specs.Compatible.{most_primitives}
use Rattle.pending.specs.Primitives.{PrimitiveTerm}
use Rattle.fault_codes.specs.declared.code.Code.{Code}
use Rattle.fault_codes.specs.declared.code.Code.TheVariants.{PXQ0002}
use Rattle.values.specs.declared.atom.Item.{Item}
use Rattle.values.specs.declared.atom.Item.TheVariants as item
use Rattle.query_meaning.specs.Running.{Run, M, trees_of, pure, fault, and_then, ◌>>=◌, come_to, seen, each, turn, turns, work, adding, within, joined, most_items}
use Rattle.meaning_laws.specs.Given.{Stands, AllStand}
use Rattle.meaning_laws.proofs.Keeps.{no_value, Each}
pub use Rattle.meaning_laws.proofs.Nodes.{both_counted}
use Rattle.meaning_laws.proofs.Steady.{Beside, none_beside, both_beside}

abbrev pub AreThere : Trees → List (List ℕ × ℕ) → Type 0
AreThere ts [] = Unit {0}
AreThere ts (d ∷ ds) = (0 < count d.1 ts) × AreThere ts ds

-- how often an identity is in a run: in its trees, and in those that its primitives bring
abbrev pub uses : ℕ → Run → ℕ
uses i run = count i (trees_of run) + count i (new_trees run.primitives)

-- Each node has its own identity, below the next one: those of the run's trees, those that its primitives bring, and those that were made but stand
-- nowhere yet, among which an identity is so often as `aside` says. Those of new nodes come after all of the lent forest's, whose documents stand.
pub record IsSound (aside : ℕ → ℕ) (run : Run) : Type 0 where
  pub once : (i : ℕ) → aside i + uses i run ≤ 1
  pub below : (i : ℕ) → 0 < aside i + uses i run → i < run.shelf.own.next
  pub fresh : (i : ℕ) → 0 < aside i + count i run.shelf.own.trees + count i (new_trees run.primitives) → run.shelf.lent.next ≤ i
  pub started : run.shelf.lent.next ≤ run.shelf.own.next
  pub documents : AreThere run.shelf.lent.trees run.shelf.lent.documents

-- what stands in the one's trees stands in the other's, which has the one's new trees and more
pub record IsAbove (a b : Run) : Type 0 where
  pub stand : (i : ℕ) → 0 < count i (trees_of a) → 0 < count i (trees_of b)
  pub more : Beside a.shelf.own.trees b.shelf.own.trees

pub same_run : {run : Run} → IsAbove run run
same_run {run} = record { stand = λ i h. h; more = none_beside run.shelf.own.trees }

pub up : {a b c : Run} → IsAbove a b → IsAbove b c → IsAbove a c
up {a} {b} {c} h g = record {
  stand = λ i there. g.stand i (h.stand i there);
  more = both_beside a.shelf.own.trees b.shelf.own.trees c.shelf.own.trees h.more g.more;
}

pub record Ends (A : Type 0) (Q : Run → A → Type 0) (aside : A → ℕ → ℕ) (run : Run) (p : A × Run) : Type 0 where
  pub sound : IsSound (aside p.0) p.1
  pub above : IsAbove run p.1
  pub value : Q p.1 p.0

-- from sound trees above those of r on: where it comes to a value, that is so, and the trees are sound; what is aside may change, by the value
pub record Passes (r : Run) (A : Type 0) (Q : Run → A → Type 0) (m : M A) (before : ℕ → ℕ) (aside : A → ℕ → ℕ) : Type 0 where
  pub passes : (run : Run) → IsSound before run → IsAbove r run → (p : A × Run) → m run ≡ Ok p → Ends A Q aside run p

-- whatever is aside, it stays there
pub record Holds (r : Run) (A : Type 0) (Q : Run → A → Type 0) (m : M A) : Type 0 where
  pub holds : (aside : ℕ → ℕ) → Passes r A Q m aside (λ _. aside)

-- it stays so
abbrev pub IsStable : (A : Type 0) → (Run → A → Type 0) → Type 0
IsStable A Q = (a b : Run) (x : A) → IsAbove a b → Q a x → Q b x

abbrev pub Any : {A : Type 0} → Run → A → Type 0
Any run a = Unit {0}

abbrev value_of : {A : Type 0} → A → Result A Code → A
value_of a (Ok b) = b
value_of a (Err e) = a

abbrev pub Comes : {A : Type 0} → Result A Code → A → Type 0
Comes x a = x ≡ Ok a

pub same_value : {A : Type 0} (a b : A) → Comes (Ok a) b → a ≡ b
same_value a b h = ap (value_of a) h

-- it is so from each such run, whatever is aside
pub hold : {r : Run} {A : Type 0} {Q : Run → A → Type 0} {m : M A}
    → ((aside : ℕ → ℕ) (run : Run) → IsSound aside run → IsAbove r run → (p : A × Run) → m run ≡ Ok p → Ends A Q (λ _. aside) run p)
    → Holds r A Q m
hold h = record { holds = λ aside. record { passes = h aside } }

here : {A : Type 0} {Q : Run → A → Type 0} {aside : ℕ → ℕ} (run : Run) (a : A) (p : A × Run)
    → IsSound aside run → Q run a → Comes (Ok (a, run)) p → Ends A Q (λ _. aside) run p
here {A = A} {Q = Q} {aside = aside} run a p s q h =
    subst (Ends A Q (λ _. aside) run) (same_value (a, run) p h) (record { sound = s; above = same_run; value = q })

pub pure_ : {r : Run} {A : Type 0} {Q : Run → A → Type 0} (a : A) → ((b : Run) → IsAbove r b → Q b a) → Holds r A Q (pure a)
pure_ a q = hold (λ aside run s k p h. here run a p s (q run k) h)

pub fault_ : {r : Run} {A : Type 0} {Q : Run → A → Type 0} (e : Code) → Holds r A Q (fault e)
fault_ e = hold (λ aside run s k p h. absurd (no_value e p h))

pub come : {r : Run} {A : Type 0} {Q : Run → A → Type 0} (x : Result A Code)
    → ((a : A) → x ≡ Ok a → (b : Run) → IsAbove r b → Q b a) → Holds r A Q (come_to x)
come (Ok a) q = pure_ a (q a refl)
come (Err e) q = fault_ e

pub come_any : {r : Run} {A : Type 0} (x : Result A Code) → Holds r A Any (come_to x)
come_any x = come x (λ a h b k. tt)

-- the trees that are seen have distinct nodes
pub see : {r : Run} {A : Type 0} {Q : Run → A → Type 0} (f : Trees → A)
    → ((b : Run) → ((i : ℕ) → count i (trees_of b) ≤ 1) → IsAbove r b → Q b (f (trees_of b))) → Holds r A Q (seen f)
see f q = hold (λ aside run s k p h. here run (f (trees_of run)) p s (q run (λ i. omega (arith, s.once i)) k) h)

further : {A B : Type 0} {Q : Run → A → Type 0} {S : Run → B → Type 0} {kept : A → ℕ → ℕ} {after : B → ℕ → ℕ}
    (r : Run) (f : A → M B) (run : Run) (p : B × Run) (x : Result (A × Run) Code) → IsAbove r run
    → ((q : A × Run) → x ≡ Ok q → Ends A Q kept run q)
    → ((b : Run) → IsAbove r b → (a : A) → Q b a → Passes b B S (f a) (kept a) after) → and_then x f ≡ Ok p → Ends B S after run p
further r f run p (Ok q) k first rest h =
    let one = first q refl in
    let two = (rest q.1 (up k one.above) q.0 one.value).passes q.1 one.sound same_run p h in
    record { sound = two.sound; above = up one.above two.above; value = two.value }
further r f run p (Err e) k first rest h = absurd (no_value e p h)

-- one after the other: what is aside after the first is so before the second
pub follow : {r : Run} {A B : Type 0} {Q : Run → A → Type 0} {S : Run → B → Type 0} {m : M A} {f : A → M B}
    {before : ℕ → ℕ} {kept : A → ℕ → ℕ} {after : B → ℕ → ℕ} → Passes r A Q m before kept
    → ((b : Run) → IsAbove r b → (a : A) → Q b a → Passes b B S (f a) (kept a) after) → Passes r B S (m >>= f) before after
follow {r = r} {m = m} {f = f} one rest = record { passes = λ run s k p h. further r f run p (m run) k (one.passes run s k) rest h }

pub bind : {r : Run} {A B : Type 0} {Q : Run → A → Type 0} {S : Run → B → Type 0} {m : M A} {f : A → M B}
    → Holds r A Q m → ((b : Run) → IsAbove r b → (a : A) → Q b a → Holds b B S (f a)) → Holds r B S (m >>= f)
bind {m = m} {f = f} one rest = record { holds = λ aside. follow {m = m} {f = f} (one.holds aside) (λ b k a q. (rest b k a q).holds aside) }

each_up : {A : Type 0} {P : Run → A → Type 0} {a b : Run} → IsStable A P → IsAbove a b → (xs : List A) → Each (P a) xs → Each (P b) xs
each_up stable k [] all = tt
each_up {a = a} {b = b} stable k (x ∷ xs) all = (stable a b x k all.0, each_up stable k xs all.1)

-- one step after the other, over items that are so, with a state that stays so
pub loop : {A T : Type 0} {P : Run → A → Type 0} {Q : Run → T → Type 0} {f : ℕ → T → A → M T} → IsStable A P → IsStable T Q
    → ((n : ℕ) (b : Run) (t : T) (a : A) → Q b t → P b a → Holds b T Q (f n t a)) → (n : ℕ) (r : Run) (xs : List A) → Each (P r) xs → (t : T) → Q r t → Holds r T Q (each f n xs t)
loop ps qs body n r [] all t q = pure_ t (λ b k. qs r b t k q)
loop ps qs body n r (x ∷ xs) all t q = bind (body n r t x q all.0) (λ b k u qu. loop ps qs body (suc n) b xs (each_up ps k xs all.1) u qu)

-- a run over the same trees, with the same next identity
resumed : {A : Type 0} {Q : Run → A → Type 0} {aside : ℕ → ℕ} (r : Run) (m : M A) (run : Run) (n u : ℕ) (p : A × Run)
    → Holds r A Q m → IsSound aside run → IsAbove r run → m (record run { turns = n; work = u }) ≡ Ok p → Ends A Q (λ _. aside) run p
resumed {aside = aside} r m run n u p h s k e =
    let same : IsSound aside (record run { turns = n; work = u }) =
    record { once = s.once; below = s.below; fresh = s.fresh; started = s.started; documents = s.documents } in
    let z = (h.holds aside).passes (record run { turns = n; work = u }) same (record { stand = k.stand; more = k.more }) p e in
    record { sound = z.sound; above = record { stand = z.above.stand; more = z.above.more }; value = z.value }

turn_if : {A : Type 0} {Q : Run → A → Type 0} {aside : ℕ → ℕ} (r : Run) (m : M A) (run : Run) (p : A × Run) (b : Bool)
    → Holds r A Q m → IsSound aside run → IsAbove r run
    → (if b then Err PXQ0002 else m (record run { turns = run.turns - 1 })) ≡ Ok p → Ends A Q (λ _. aside) run p
turn_if r m run p true h s k e = absurd (no_value PXQ0002 p e)
turn_if r m run p false h s k e = resumed r m run (run.turns - 1) run.work p h s k e

pub turn_ : {r : Run} {A : Type 0} {Q : Run → A → Type 0} {m : M A} → Holds r A Q m → Holds r A Q (turn m)
turn_ {r = r} {m = m} h = hold (λ aside run s k p e. turn_if r m run p (run.turns == 0) h s k e)

spent_if : {aside : ℕ → ℕ} (r : Run) (n : ℕ) (run : Run) (p : Unit {0} × Run) (b : Bool) → IsSound aside run → IsAbove r run
    → (if b then Ok (tt, record run { turns = run.turns - n }) else Err PXQ0002) ≡ Ok p → Ends (Unit {0}) Any (λ _. aside) run p
spent_if r n run p true s k e = resumed r (pure tt) run (run.turns - n) run.work p (pure_ tt (λ b j. tt)) s k e
spent_if r n run p false s k e = absurd (no_value PXQ0002 p e)

pub turns_ : {r : Run} (n : ℕ) → Holds r (Unit {0}) Any (turns n)
turns_ {r = r} n = hold (λ aside run s k p e. spent_if r n run p (nat_le n run.turns) s k e)

worked_if : {aside : ℕ → ℕ} (r : Run) (n : ℕ) (run : Run) (p : Unit {0} × Run) (b : Bool) → IsSound aside run → IsAbove r run
    → (if b then Ok (tt, record run { work = run.work - n }) else Err PXQ0002) ≡ Ok p → Ends (Unit {0}) Any (λ _. aside) run p
worked_if r n run p true s k e = resumed r (pure tt) run run.turns (run.work - n) p (pure_ tt (λ b j. tt)) s k e
worked_if r n run p false s k e = absurd (no_value PXQ0002 p e)

pub work_ : {r : Run} (n : ℕ) → Holds r (Unit {0}) Any (work n)
work_ {r = r} n = hold (λ aside run s k p e. worked_if r n run p (nat_le n run.work) s k e)

-- Update primitives.

-- one primitive more brings its trees
more_brought : (i : ℕ) (ps : List PrimitiveTerm) (q : PrimitiveTerm)
    → count i (new_trees (ps ++ q ∷ [])) ≡ count i (new_trees ps) + count i (brought_by q)
more_brought i [] q = omega (arith, both_counted i (brought_by q) (new_trees []))
more_brought i (p ∷ ps) q =
    let whole = both_counted i (brought_by p) (new_trees (ps ++ q ∷ [])) in
    omega (arith, whole, both_counted i (brought_by p) (new_trees ps), more_brought i ps q)

-- no more is aside than was before
less_aside : (before after : ℕ → ℕ) (run : Run) → ((i : ℕ) → after i ≤ before i) → IsSound before run → IsSound after run
less_aside before after run less s = record {
  once = λ i. omega (arith, less i, s.once i);
  below = λ i there. s.below i (omega (arith, less i, there));
  fresh = λ i there. s.fresh i (omega (arith, less i, there));
  started = s.started;
  documents = s.documents;
}

-- what a primitive brings was aside before, and is no longer
abbrev pub Brings : (before after : ℕ → ℕ) → PrimitiveTerm → Type 0
Brings before after q = (i : ℕ) → after i + count i (brought_by q) ≤ before i

added_sound : (before after : ℕ → ℕ) (q : PrimitiveTerm) (run : Run) → Brings before after q → IsSound before run
    → IsSound after (record run { primitives = run.primitives ++ q ∷ [] })
added_sound before after q run less s = record {
  once = λ i. omega (arith, more_brought i run.primitives q, less i, s.once i);
  below = λ i there. s.below i (omega (arith, more_brought i run.primitives q, less i, there));
  fresh = λ i there. s.fresh i (omega (arith, more_brought i run.primitives q, less i, there));
  started = s.started;
  documents = s.documents;
}

added_if : (before after : ℕ → ℕ) (q : PrimitiveTerm) (run : Run) (p : Unit {0} × Run) (b : Bool) → Brings before after q → IsSound before run
    → (if b then Err PXQ0002 else Ok (tt, record run { primitives = run.primitives ++ q ∷ [] })) ≡ Ok p
    → Ends (Unit {0}) Any (λ _. after) run p
added_if before after q run p true less s e = absurd (no_value PXQ0002 p e)
added_if before after q run p false less s e =
    subst (Ends (Unit {0}) Any (λ _. after) run) (same_value (tt, record run { primitives = run.primitives ++ q ∷ [] }) p e)
    (record { sound = added_sound before after q run less s; above = record { stand = λ i there. there; more = none_beside run.shelf.own.trees }; value = tt })

pub add_from : {r : Run} (before after : ℕ → ℕ) (q : PrimitiveTerm) → Brings before after q
    → Passes r (Unit {0}) Any (adding q) before (λ _. after)
add_from before after q less = record {
  passes = λ run s k p e. added_if before after q run p (nat_le most_primitives (length run.primitives)) less s e;
}

-- one that brings nothing
pub add : {r : Run} (q : PrimitiveTerm) → ((i : ℕ) → count i (brought_by q) ≤ 0) → Holds r (Unit {0}) Any (adding q)
add q none = record { holds = λ aside. add_from aside aside q (λ i. omega (arith, none i)) }

-- no step, after which no more is aside
pub leave : {r : Run} (before after : ℕ → ℕ) → ((i : ℕ) → after i ≤ before i) → Passes r (Unit {0}) Any (pure tt) before (λ _. after)
leave before after less = record {
  passes = λ run s k p e. subst (Ends (Unit {0}) Any (λ _. after) run) (same_value (tt, run) p e)
      (record { sound = less_aside before after run less s; above = same_run; value = tt });
}

-- Items.

-- so many at the most, and their nodes stand
pub record Upto (n : ℕ) (run : Run) (items : List Item) : Type 0 where
  pub few : length items ≤ n
  pub stand : AllStand (trees_of run) items

abbrev pub Given : Run → List Item → Type 0
Given run items = Upto most_items run items

pub stands_up : (a b : Run) (x : Item) → IsAbove a b → Stands (trees_of a) x → Stands (trees_of b) x
stands_up a b (item.Node i) k h = k.stand i h
stands_up a b (item.Atomic v) k h = tt

pub stand_up : (a b : Run) (xs : List Item) → IsAbove a b → AllStand (trees_of a) xs → AllStand (trees_of b) xs
stand_up a b [] k h = tt
stand_up a b (x ∷ xs) k h = (stands_up a b x k h.0, stand_up a b xs k h.1)

pub upto_up : (n : ℕ) → IsStable (List Item) (Upto n)
upto_up n a b xs k h = record { few = h.few; stand = stand_up a b xs k h.stand }

pub given_up : IsStable (List Item) Given
given_up = upto_up most_items

pub no_items : {run : Run} → Given run []
no_items = record { few = omega arith; stand = tt }

pub one_item : {run : Run} (x : Item) → Stands (trees_of run) x → Given run (x ∷ [])
unfolding most_items
one_item x h = record { few = omega arith; stand = (h, tt) }

pub both_stand : (ts : Trees) (xs ys : List Item) → AllStand ts xs → AllStand ts ys → AllStand ts (xs ++ ys)
both_stand ts [] ys h g = g
both_stand ts (x ∷ xs) ys h g = (h.0, both_stand ts xs ys h.1 g)

-- what is within the limit
within_if : (items a : List Item) (b : Bool) → nat_le (length items) most_items ≡ b → (if b then Ok items else Err PXQ0002) ≡ Ok a → (items ≡ a) × (length items ≤ most_items)
within_if items a true e h = (same_value items a h, leb-true (length items) most_items e)
within_if items a false e h = absurd (no_value PXQ0002 a h)

pub limit : {r : Run} (items : List Item) → AllStand (trees_of r) items → Holds r (List Item) Given (come_to (within items))
limit {r = r} items stand = come (within items) (λ a h b k.
    let is = within_if items a (nat_le (length items) most_items) refl h in
    subst (Given b) is.0 (record { few = is.1; stand = stand_up r b items k stand }))

pub join : {r : Run} (given items : List Item) → AllStand (trees_of r) given → AllStand (trees_of r) items → Holds r (List Item) Given (joined given items)
join {r = r} given items h g = limit (given ++ items) (both_stand (trees_of r) given items h g)
