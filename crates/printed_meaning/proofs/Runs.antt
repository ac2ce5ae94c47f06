-- Runs in which new trees stand.
use Rattle.std.proofs.Common.{◌≡◌, ◌⊎◌, ℕ, ◌+◌, ◌-◌, ◌<◌, ◌≤◌, Bool, cond, eqb, if◌then◌else◌, List, length, Some, None, IsSome, Result, Ok, Err, refl, ap, sym, ◌∙◌, subst, ⊎_elim, arith}
use Rattle.std.proofs.lemmas.Bool.{le-leb, lt-leb, cases_lt}
use Rattle.std.proofs.lemmas.Bool.Decides.{eqb_tells}
use Rattle.data_model.specs.Changes.{pick}
use Rattle.data_model.specs.Trees.{Trees, no_trees, tree, leaf, Content, append, count, find}
use Rattle.data_model.proofs.Climbs.{any-tells, there-counts}
use Rattle.data_model.proofs.Weights.{weigh-append, append-append, eqb-same}
use Rattle.trees.proofs.Lent.{find-lent, find-own, pick-lent, pick-own}
use Rattle.fault_codes.specs.declared.code.Code.{Code}
use Rattle.fault_codes.specs.declared.code.Code.TheVariants.{PXQ0002, PXQ0003}
use Rattle.values.specs.declared.atom.Item.{Item}
use Rattle.query_meaning.specs.Running.{Run, M, trees_of, pure, and_then, ◌>>=◌, come_to, new_nodes, work, counted, most_nodes}

-- after a step that came to a value
pub after : {A B : Type 0} {r : Result (A × Run) Code} {p : A × Run} (f : A → M B) → r ≡ Ok p → and_then r f ≡ f p.0 p.1
after f e = ap (λ x. and_then x f) e

-- after a step that came to a fault
pub after_fault : {A B : Type 0} {r : Result (A × Run) Code} {code : Code} (f : A → M B) → r ≡ Err code → and_then r f ≡ Err code
after_fault f e = ap (λ x. and_then x f) e

pub comes : {A : Type 0} {r : Result A Code} {a : A} (run : Run) → r ≡ Ok a → come_to r run ≡ Ok (a, run)
comes run e = ap (λ x. come_to x run) e

-- with those trees of its own, and that next identity
abbrev pub holding : Run → Trees → ℕ → Run
holding run ts n = record run { shelf = record run.shelf { own = record run.shelf.own { trees = ts; next = n } } }

-- with more trees
abbrev pub grown : Run → Trees → ℕ → Run
grown run us n = holding run (append run.shelf.own.trees us) n

-- with another next identity
abbrev pub numbered : Run → ℕ → Run
numbered run n = holding run run.shelf.own.trees n

pub trees_grown : (run : Run) (us : Trees) (n : ℕ) → trees_of (grown run us n) ≡ append (trees_of run) us
trees_grown run us n = sym (append-append run.shelf.lent.trees run.shelf.own.trees us)

-- there may be so many nodes more
abbrev pub HasRoom : Run → ℕ → Type 0
HasRoom run n = run.shelf.own.next + n ≤ run.shelf.lent.next + most_nodes

-- there may not
abbrev pub LacksRoom : Run → ℕ → Type 0
LacksRoom run n = run.shelf.lent.next + most_nodes < run.shelf.own.next + n

pub room_or_not : (run : Run) (n : ℕ) → LacksRoom run n ⊎ HasRoom run n
room_or_not run n = cases_lt (run.shelf.lent.next + most_nodes) (run.shelf.own.next + n)

abbrev if_room : ℕ → Run → Bool → Result (ℕ × Run) Code
if_room n run b = if b then Ok (run.shelf.own.next, numbered run (run.shelf.own.next + n)) else Err PXQ0003

pub new_nodes_come : (n : ℕ) (run : Run) → HasRoom run n → new_nodes n run ≡ Ok (run.shelf.own.next, numbered run (run.shelf.own.next + n))
new_nodes_come n run h = ap (if_room n run) (le-leb (run.shelf.own.next + n) (run.shelf.lent.next + most_nodes) h)

pub new_nodes_fail : (n : ℕ) (run : Run) → LacksRoom run n → new_nodes n run ≡ Err PXQ0003
new_nodes_fail n run h = ap (if_room n run) (lt-leb (run.shelf.own.next + n) (run.shelf.lent.next + most_nodes) h)

-- after so much work
abbrev pub spent : Run → ℕ → Run
spent run n = record run { work = run.work - n }

-- so much work may be done
abbrev pub HasWork : Run → ℕ → Type 0
HasWork run n = n ≤ run.work

-- it may not
abbrev pub LacksWork : Run → ℕ → Type 0
LacksWork run n = run.work < n

pub work_or_not : (run : Run) (n : ℕ) → LacksWork run n ⊎ HasWork run n
work_or_not run n = cases_lt run.work n

pub spent_twice : {A : Type 0} (a : A) (run : Run) (n m k : ℕ) → n + m ≡ k → (let r : Result (A × Run) Code = Ok (a, spent (spent run n) m) in r) ≡ Ok (a, spent run k)
spent_twice {A = A} a run n m k e =
    ap (λ w. let r : Result (A × Run) Code = Ok (a, record run { work = w }) in r) (let same : run.work - n - m ≡ run.work - k = omega (arith, e) in same)

abbrev if_work : ℕ → Run → Bool → Result (Unit {0} × Run) Code
if_work n run b = if b then Ok (tt, spent run n) else Err PXQ0002

pub work_comes : (n : ℕ) (run : Run) → HasWork run n → work n run ≡ Ok (tt, spent run n)
work_comes n run h = ap (if_work n run) (le-leb n run.work h)

pub work_fails : (n : ℕ) (run : Run) → LacksWork run n → work n run ≡ Err PXQ0002
work_fails n run h = ap (if_work n run) (lt-leb n run.work h)

-- what comes to items, and is counted
pub counted_comes : (m : M (List Item)) (items : List Item) (run last : Run) → m run ≡ Ok (items, last) → HasWork last (1 + length items)
    → counted m run ≡ Ok (items, spent last (1 + length items))
counted_comes m items run last e h = after (λ xs. work (1 + length xs) >>= (λ _. pure xs)) e ∙ after (λ _. pure items) (work_comes (1 + length items) last h)

-- for which there is no work
pub counted_dear : (m : M (List Item)) (items : List Item) (run last : Run) → m run ≡ Ok (items, last) → LacksWork last (1 + length items) → counted m run ≡ Err PXQ0002
counted_dear m items run last e h = after (λ xs. work (1 + length xs) >>= (λ _. pure xs)) e ∙ after_fault (λ _. pure items) (work_fails (1 + length items) last h)

pub counted_fails : {code : Code} (m : M (List Item)) (run : Run) → m run ≡ Err code → counted m run ≡ Err code
counted_fails m run e = after_fault (λ xs. work (1 + length xs) >>= (λ _. pure xs)) e

-- each node's identity is below the next one
pub record IsBelow (run : Run) : Type 0 where
  pub below : (i : ℕ) → 0 < count i (trees_of run) → i < run.shelf.own.next

pub spent_below : (run : Run) (n : ℕ) → IsBelow run → IsBelow (spent run n)
spent_below run n h = record { below = h.below }

-- the identities of the trees' nodes are from n on, and below m
pub record AreBetween (n m : ℕ) (us : Trees) : Type 0 where
  pub within : (i : ℕ) → 0 < count i us → (n ≤ i) × (i < m)

pub none_between : (n m : ℕ) → AreBetween n m no_trees
none_between n m = record { within = λ i h. absurd (omega (arith, h)) }

counts : (i : ℕ) (ts us : Trees) → count i (append ts us) ≡ count i ts + count i us
counts i ts us = weigh-append (λ j. cond (eqb i j) 1 0) ts us

pub both_between : (n m k : ℕ) (us vs : Trees) → n ≤ m → m ≤ k → AreBetween n m us → AreBetween m k vs → AreBetween n k (append us vs)
both_between n m k us vs h g a b = record { within = λ i there. of i (subst (λ x. 0 < x) (counts i us vs) there) }
  where
    of : (i : ℕ) → 0 < count i us + count i vs → (n ≤ i) × (i < k)
    of i there =
        ⊎_elim (λ t. (let w = a.within i t.1 in (w.0, omega (arith, w.1, g))))
        (λ t. (let w = b.within i (omega (arith, there, t.1)) in (omega (arith, w.0, h), w.1))) (any-tells (count i us))

pub leaf_between : (c : Content) → AreBetween c.identity (c.identity + 1) (leaf c)
leaf_between c = record { within = λ i there. of i there }
  where
    of : (i : ℕ) → 0 < cond (eqb i c.identity) 1 0 + 0 + 0 + 0 → (c.identity ≤ i) × (i < c.identity + 1)
    of i there = ⊎_elim (λ t. (omega (arith, t.1), omega (arith, t.1))) (λ t. (let z = rw t.0 at there in absurd (omega arith))) (eqb_tells i c.identity)

pub grown_below : (run : Run) (us : Trees) (n : ℕ) → run.shelf.own.next ≤ n → IsBelow run → AreBetween run.shelf.own.next n us → IsBelow (grown run us n)
grown_below run us n h old new = record { below = λ i there. of i (subst (λ x. 0 < x) (ap (count i) (trees_grown run us n) ∙ counts i (trees_of run) us) there) }
  where
    of : (i : ℕ) → 0 < count i (trees_of run) + count i us → i < n
    of i there = ⊎_elim (λ t. (new.within i t.1).1) (λ t. (let w = old.below i (omega (arith, there, t.1)) in omega (arith, w, h))) (any-tells (count i us))

-- the next identity is no node's
pub absent : (run : Run) → IsBelow run → count run.shelf.own.next (trees_of run) ≡ 0
absent run h = ⊎_elim (λ t. (let w = h.below run.shelf.own.next t.1 in absurd (omega (arith, w)))) (λ t. t.1) (any-tells (count run.shelf.own.next (trees_of run)))

pub absent_between : (n m i : ℕ) (us : Trees) → i < n → AreBetween n m us → count i us ≡ 0
absent_between n m i us h new = ⊎_elim (λ t. (let w = (new.within i t.1).0 in absurd (omega (arith, w, h)))) (λ t. t.1) (any-tells (count i us))

-- a node without a parent stands among trees
pub record StandsAlone (ts : Trees) (c : Content) (bs cs : Trees) : Type 0 where
  pub found : find c.identity ts ≡ Some (record { parent = None; content = c; attributes = bs; children = cs })
  pub picked : pick c.identity ts ≡ tree c bs cs no_trees

pub there : (ts : Trees) (c : Content) (bs cs : Trees) → StandsAlone ts c bs cs → 0 < count c.identity ts
there ts c bs cs h = there-counts c.identity ts (subst IsSome (sym h.found) refl)

found_first : (c : Content) (bs cs : Trees) → find c.identity (tree c bs cs no_trees) ≡ Some (record { parent = None; content = c; attributes = bs; children = cs })
found_first c bs cs = rw (eqb-same c.identity)

picked_first : (c : Content) (bs cs : Trees) → pick c.identity (tree c bs cs no_trees) ≡ tree c bs cs no_trees
picked_first c bs cs = rw (eqb-same c.identity)

-- after others
pub last_stands : (ts : Trees) (c : Content) (bs cs : Trees) → count c.identity ts ≡ 0 → StandsAlone (append ts (tree c bs cs no_trees)) c bs cs
last_stands ts c bs cs h = record {
  found = find-own c.identity ts (tree c bs cs no_trees) h ∙ found_first c bs cs;
  picked = pick-own c.identity ts (tree c bs cs no_trees) h ∙ picked_first c bs cs;
}

-- and still, once others stand after it
pub still_stands : (ts us : Trees) (c : Content) (bs cs : Trees) → StandsAlone ts c bs cs → count c.identity us ≡ 0 → StandsAlone (append ts us) c bs cs
still_stands ts us c bs cs h none = record {
  found = find-lent c.identity ts us (there ts c bs cs h) ∙ h.found;
  picked = pick-lent c.identity ts us none ∙ h.picked;
}

-- each of the trees stands among others by its root
abbrev pub AllStandAlone : Trees → Trees → Type 0
AllStandAlone ts no_trees = Unit {0}
AllStandAlone ts (tree c bs cs rest) = StandsAlone ts c bs cs × AllStandAlone ts rest
