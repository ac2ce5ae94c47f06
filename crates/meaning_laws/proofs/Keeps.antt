-- What every step of an evaluation leaves of a run.
use Rattle.std.proofs.Common.{◌≡◌, ℕ, suc, ◌+◌, ◌/◌, ◌≤◌, Bool, true, false, nat_le, if◌then◌else◌, ◌==◌, ◌-◌, List, [], ◌∷◌, ◌++◌, length, Result, Ok, Err, refl, ap, subst, sym}
use Rattle.data_model.specs.Changes.{pick}
use Rattle.data_model.specs.Trees.{Trees, append, bytes_in}
use Rattle.pending.specs.Compatible.{most_primitives}
use Rattle.pending.specs.Primitives.{PrimitiveTerm}
use Rattle.fault_codes.specs.declared.code.Code.{Code}
use Rattle.fault_codes.specs.declared.code.Code.TheVariants.{PXQ0002, PXQ0003}
use Rattle.values.specs.declared.atom.Atom.{Atom}
use Rattle.values.specs.declared.atom.Item.{Item}
use Rattle.values.specs.Atoms.{atom_of}
use Rattle.values.specs.Work.{text_of, text_work}
use Rattle.update_meaning.specs.Changed.{rooted_at, with_changed}
use Rattle.query_meaning.specs.Running.{Run, M, trees_of, pure, fault, and_then, ◌>>=◌, come_to, seen, nodes_of, atom, atoms, each, turn, turns, work, counted, copying, adding, new_nodes, standing, joined, within, most_nodes}

-- it holds of each
abbrev pub Each : {A : Type 0} → (A → Type 0) → List A → Type 0
Each Q [] = Unit {0}
Each Q (x ∷ xs) = Q x × Each Q xs

-- numbers from n on
abbrev pub AreFrom : ℕ → List ℕ → Type 0
AreFrom n is = Each (λ i. n ≤ i) is

-- where it comes to a value, the run after it stands so to the run before it
pub record Keeps (R : Run → Run → Type 0) (A : Type 0) (m : M A) : Type 0 where
  pub kept : (run : Run) (p : A × Run) → m run ≡ Ok p → R run p.1

-- a relation of runs that each single change keeps, but for those of the update primitives; trees that are changed have later identities
pub record IsQuiet (R : Run → Run → Type 0) : Type 0 where
  pub same : (run : Run) → R run run
  pub chained : (a b c : Run) → R a b → R b c → R a c
  pub turned : (run : Run) (n : ℕ) → R run (record run { turns = n })
  pub worked : (run : Run) (n : ℕ) → R run (record run { work = n })
  pub numbered : (run : Run) (n : ℕ) → nat_le (run.shelf.own.next + n) (run.shelf.lent.next + most_nodes) ≡ true
      → R run (record run { shelf = record run.shelf { own = record run.shelf.own { next = run.shelf.own.next + n } } })
  pub stood : (run : Run) (ts : Trees) → R run (record run { shelf = record run.shelf { own = record run.shelf.own { trees = append run.shelf.own.trees ts } } })
  pub changed : (a b : Run) (is : List ℕ) (ps : List PrimitiveTerm) → R a b → AreFrom a.shelf.own.next is
      → R a (record b { shelf = record b.shelf { own = record b.shelf.own { trees = with_changed (rooted_at is) ps b.shelf.own.trees } } })

-- a relation of runs that each single change keeps
pub record IsSteady (R : Run → Run → Type 0) : Type 0 where
  pub quiet : IsQuiet R
  pub added : (run : Run) (p : PrimitiveTerm) → R run (record run { primitives = run.primitives ++ p ∷ [] })
  pub owned : (run a : Run) → R (record run { primitives = [] }) a → R run (record a { primitives = run.primitives })

-- a value's run
abbrev run_of : {A : Type 0} → Run → Result (A × Run) Code → Run
run_of run (Ok p) = p.1
run_of run (Err code) = run

abbrev clash : {A : Type 0} → Result A Code → Type 0
clash (Ok a) = Unit {0}
clash (Err code) = ⊥

pub no_value : {A : Type 0} (code : Code) (a : A) → Err code ≡ Ok a → ⊥
no_value code a h = subst clash (sym h) tt

abbrev pub Comes : {A : Type 0} → Result (A × Run) Code → A × Run → Type 0
Comes r p = r ≡ Ok p

module _ (R : Run → Run → Type 0) (s : IsQuiet R) where
  ends : {A : Type 0} (run after : Run) (a : A) (p : A × Run) → R run after → Comes (Ok (a, after)) p → R run p.1
  ends run after a p r h = subst (R run) (ap (run_of run) h) r

  pub pure_keeps : {A : Type 0} (a : A) → Keeps R A (pure a)
  pure_keeps a = record { kept = λ run p h. ends run run a p (s.same run) h }

  pub fault_keeps : {A : Type 0} (code : Code) → Keeps R A (fault code)
  fault_keeps code = record { kept = λ run p h. absurd (no_value code p h) }

  pub come_keeps : {A : Type 0} (r : Result A Code) → Keeps R A (come_to r)
  come_keeps (Ok a) = pure_keeps a
  come_keeps (Err code) = fault_keeps code

  pub seen_keeps : {A : Type 0} (f : Trees → A) → Keeps R A (seen f)
  seen_keeps f = record { kept = λ run p h. ends run run (f (trees_of run)) p (s.same run) h }

  after : {A B : Type 0} (f : A → M B) (run : Run) (p : B × Run) (r : Result (A × Run) Code)
      → ((q : A × Run) → r ≡ Ok q → R run q.1) → ((a : A) → Keeps R B (f a)) → and_then r f ≡ Ok p → R run p.1
  after f run p (Ok q) first rest h = s.chained run q.1 p.1 (first q refl) ((rest q.0).kept q.1 p h)
  after f run p (Err code) first rest h = absurd (no_value code p h)

  pub bind : {A B : Type 0} {m : M A} {f : A → M B} → Keeps R A m → ((a : A) → Keeps R B (f a)) → Keeps R B (m >>= f)
  bind {A = A} {B = B} {m = m} {f = f} k rest = record { kept = λ run p h. after f run p (m run) (k.kept run) rest h }

  pub each_keeps : {A S : Type 0} {f : ℕ → S → A → M S} → ((n : ℕ) (t : S) (a : A) → Keeps R S (f n t a)) → (n : ℕ) (xs : List A) (t : S) → Keeps R S (each f n xs t)
  each_keeps k n [] t = pure_keeps t
  each_keeps {f = f} k n (x ∷ xs) t = bind (k n t x) (λ u. each_keeps {f = f} k (suc n) xs u)

  turned_if : {A : Type 0} (m : M A) (run : Run) (p : A × Run) (b : Bool) → Keeps R A m → (if b then Err PXQ0002 else m (record run { turns = run.turns - 1 })) ≡ Ok p → R run p.1
  turned_if m run p true k h = absurd (no_value PXQ0002 p h)
  turned_if m run p false k h = s.chained run _ p.1 (s.turned run (run.turns - 1)) (k.kept _ p h)

  pub turn_keeps : {A : Type 0} {m : M A} → Keeps R A m → Keeps R A (turn m)
  turn_keeps {m = m} k = record { kept = λ run p h. turned_if m run p (run.turns == 0) k h }

  spent_if : (n : ℕ) (run : Run) (p : Unit {0} × Run) (b : Bool) → (if b then Ok (tt, record run { turns = run.turns - n }) else Err PXQ0002) ≡ Ok p → R run p.1
  spent_if n run p true h = ends run (record run { turns = run.turns - n }) tt p (s.turned run (run.turns - n)) h
  spent_if n run p false h = absurd (no_value PXQ0002 p h)

  pub turns_keep : (n : ℕ) → Keeps R (Unit {0}) (turns n)
  turns_keep n = record { kept = λ run p h. spent_if n run p (nat_le n run.turns) h }

  worked_if : (n : ℕ) (run : Run) (p : Unit {0} × Run) (b : Bool) → (if b then Ok (tt, record run { work = run.work - n }) else Err PXQ0002) ≡ Ok p → R run p.1
  worked_if n run p true h = ends run (record run { work = run.work - n }) tt p (s.worked run (run.work - n)) h
  worked_if n run p false h = absurd (no_value PXQ0002 p h)

  pub work_keeps : (n : ℕ) → Keeps R (Unit {0}) (work n)
  work_keeps n = record { kept = λ run p h. worked_if n run p (nat_le n run.work) h }

  pub counted_keeps : {m : M (List Item)} → Keeps R (List Item) m → Keeps R (List Item) (counted m)
  counted_keeps k = bind k (λ items. bind (work_keeps (1 + length items)) (λ _. pure_keeps items))

  atom_keeps : (x : Item) → Keeps R Atom (atom x)
  atom_keeps x = record {
    kept = λ run p h. (bind (work_keeps (nodes_of (trees_of run) x)) (λ _.
        bind (come_keeps (atom_of (trees_of run) x)) (λ a. bind (work_keeps (text_work (text_of a))) (λ _. pure_keeps a)))).kept run p h;
  }

  pub atoms_keep : (items : List Item) → Keeps R (List Atom) (atoms items)
  atoms_keep items =
      each_keeps {f = λ _ given x. atom x >>= (λ a. pure (given ++ a ∷ []))} (λ n given x. bind (atom_keeps x) (λ a. pure_keeps (given ++ a ∷ []))) 0 items []

  pub copying_keeps : (i : ℕ) → Keeps R (Unit {0}) (copying i)
  copying_keeps i = bind (seen_keeps (λ ts. bytes_in (pick i ts) / 16)) (λ n. work_keeps n)

  numbered_if : (n : ℕ) (run : Run) (p : ℕ × Run) (b : Bool) → nat_le (run.shelf.own.next + n) (run.shelf.lent.next + most_nodes) ≡ b
      → (if b then Ok (run.shelf.own.next, record run { shelf = record run.shelf { own = record run.shelf.own { next = run.shelf.own.next + n } } }) else Err PXQ0003) ≡ Ok p → R run p.1
  numbered_if n run p true e h = ends run (record run { shelf = record run.shelf { own = record run.shelf.own { next = run.shelf.own.next + n } } }) run.shelf.own.next p (s.numbered run n e) h
  numbered_if n run p false e h = absurd (no_value PXQ0003 p h)

  pub new_nodes_keep : (n : ℕ) → Keeps R ℕ (new_nodes n)
  new_nodes_keep n = record { kept = λ run p h. numbered_if n run p (nat_le (run.shelf.own.next + n) (run.shelf.lent.next + most_nodes)) refl h }

  pub standing_keeps : (ts : Trees) → Keeps R (Unit {0}) (standing ts)
  standing_keeps ts = record { kept = λ run p h. ends run (record run { shelf = record run.shelf { own = record run.shelf.own { trees = append run.shelf.own.trees ts } } }) tt p (s.stood run ts) h }

  pub joined_keeps : (given items : List Item) → Keeps R (List Item) (joined given items)
  joined_keeps given items = come_keeps (within (given ++ items))

module _ (R : Run → Run → Type 0) (s : IsSteady R) where
  added_if : (q : PrimitiveTerm) (run : Run) (p : Unit {0} × Run) (b : Bool) → (if b then Err PXQ0002 else Ok (tt, record run { primitives = run.primitives ++ q ∷ [] })) ≡ Ok p → R run p.1
  added_if q run p true h = absurd (no_value PXQ0002 p h)
  added_if q run p false h = ends R s.quiet run (record run { primitives = run.primitives ++ q ∷ [] }) tt p (s.added run q) h

  pub adding_keeps : (q : PrimitiveTerm) → Keeps R (Unit {0}) (adding q)
  adding_keeps q = record { kept = λ run p h. added_if q run p (nat_le most_primitives (length run.primitives)) h }
