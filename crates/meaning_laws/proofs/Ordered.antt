-- What the last segment of a path gives, and what set operators give.
use Rattle.std.proofs.Common.{◌≡◌, ◌⊎◌, inl, inr, ℕ, suc, ◌+◌, ◌-◌, ◌*◌, Bool, true, false, nat_le, if◌then◌else◌, List, [], ◌∷◌, map, filter, length, Result, Ok, Err, refl, ap, sym, subst, ◌∙◌}
use Rattle.data_model.specs.Axes.{is_in}
use Rattle.data_model.specs.Order.{identities}
use Rattle.fault_codes.specs.declared.code.Code.{Code}
use Rattle.fault_codes.specs.declared.code.Code.TheVariants as code
use Rattle.values.specs.declared.atom.Atom.{Atom}
use Rattle.values.specs.declared.atom.Item.{Item}
use Rattle.values.specs.declared.atom.Item.TheVariants as item
use Rattle.query_meaning.specs.Running.{Run, M, trees_of, pure, and_then, ◌>>=◌, come_to, seen, each, turn, work, counted}
use Rattle.query_meaning.specs.Environment.{Environment, with_focus}
use Rattle.query_meaning.specs.Sequences.{Meaning}
use Rattle.query_meaning.specs.Operators as operators
use Rattle.query_meaning.specs.Paths as paths
use Rattle.meaning_laws.specs.Order.{IsInOrder, IsAtomic}
use Rattle.meaning_laws.proofs.Keeps.{no_value}

-- what it comes to is so
abbrev pub Gives : {A : Type 0} → (A × Run → Type 0) → M A → Type 0
Gives Q m = (run : Run) (p : _ × Run) → m run ≡ Ok p → Q p

abbrev value_of : {A : Type 0} → A → Result A Code → A
value_of a (Ok b) = b
value_of a (Err e) = a

-- a value, with its run
is_value : {A : Type 0} (Q : A × Run → Type 0) (a p : A × Run) (r : Result (A × Run) Code) → Q a → r ≡ Ok a → r ≡ Ok p → Q p
is_value Q a p r q here h = subst Q (sym (ap (value_of a) here) ∙ ap (value_of a) h) q

after_step : {A B : Type 0} (Q : B × Run → Type 0) (m : M A) (f : A → M B) → ((a : A) → Gives Q (f a)) → Gives Q (m >>= f)
after_step {A = A} {B = B} Q m f holds run p h = of (m run) h
  where
    of : (r : Result (A × Run) Code) → and_then r f ≡ Ok p → Q p
    of (Ok a) g = holds a.0 a.1 p g
    of (Err e) g = absurd (no_value e p g)

-- in document order, or atomic
abbrev pub IsConcluded : List Item × Run → Type 0
IsConcluded p = IsInOrder (trees_of p.1) p.0 ⊎ IsAtomic p.0

listed : (is : List ℕ) → Gives IsConcluded (seen (λ ts. operators.nodes (filter (λ i. is_in i is) (identities ts))))
listed is run q h = is_value IsConcluded (operators.nodes (filter (λ i. is_in i is) (identities (trees_of run))), run) q (Ok (operators.nodes (filter (λ i. is_in i is) (identities (trees_of run))), run)) (inl (is, refl)) refl h

concluded : (mixed : Code) (is : List ℕ) (values : List Atom) → Gives IsConcluded (paths.concluded mixed is values)
concluded mixed is [] run q h = after_step IsConcluded (work (32 * (length is - 1))) (λ _. seen (λ ts. operators.nodes (filter (λ i. is_in i is) (identities ts)))) (λ _. listed is) run q h
concluded mixed [] (a ∷ more) run q h = is_value IsConcluded (map (λ x. item.Atomic x) (a ∷ more), run) q (Ok (map (λ x. item.Atomic x) (a ∷ more), run)) (inr (a ∷ more, refl)) refl h
concluded mixed (i ∷ is) (a ∷ more) run q h = absurd (no_value mixed q h)

-- counting leaves the trees
counted_so : (m : M (List Item)) → Gives IsConcluded m → Gives IsConcluded (counted m)
counted_so m holds run p h = of (m run) (holds run) h
  where
    of_work : (q : List Item × Run) (b : Bool) → IsConcluded q
        → and_then (if b then Ok (tt, record q.1 { work = q.1.work - (1 + length q.0) }) else Err code.PXQ0002) (λ (_ : Unit {0}). pure q.0) ≡ Ok p → IsConcluded p
    of_work q true c e = subst IsConcluded (ap (value_of (q.0, record q.1 { work = q.1.work - (1 + length q.0) })) e) c
    of_work q false c e = absurd (no_value code.PXQ0002 p e)

    of : (r : Result (List Item × Run) Code) → ((q : List Item × Run) → r ≡ Ok q → IsConcluded q)
        → and_then r (λ items. work (1 + length items) >>= (λ _. pure items)) ≡ Ok p → IsConcluded p
    of (Ok q) c e = of_work q (nat_le (1 + length q.0) q.1.work) (c q refl) e
    of (Err x) c e = absurd (no_value x p e)

segment : (mixed : Code) (m : Meaning) (env : Environment) (items : List Item) → Gives IsConcluded (paths.segment mixed env items m)
segment mixed m env items =
    after_step IsConcluded (come_to (operators.all_nodes code.XPTY0019 items)) _ (λ _.
    after_step IsConcluded (each (λ i f x. turn (m (with_focus x (i + 1) (length items) env) >>= paths.all_found f)) 0 items (record { nodes = []; atoms = [] })) _ (λ (found : paths.Found). concluded mixed found.nodes found.atoms))

segments : (steps : ℕ) (env : Environment) (n : ℕ) (m : Meaning) (ms : List Meaning) (items : List Item) → Gives IsConcluded (each (λ i given k. counted (paths.segment (paths.mixed_code steps i) env given k)) n (m ∷ ms) items)
segments steps env n m [] items =
    last_of (counted (paths.segment (paths.mixed_code steps n) env items m)) (counted_so (paths.segment (paths.mixed_code steps n) env items m) (segment (paths.mixed_code steps n) m env items))
  where
    last_of : (m : M (List Item)) → Gives IsConcluded m → Gives IsConcluded (m >>= pure)
    last_of m holds run q h = of (m run) refl h
      where
        of : (r : Result (List Item × Run) Code) → m run ≡ r → and_then r pure ≡ Ok q → IsConcluded q
        of (Ok a) e g = is_value IsConcluded a q (Ok a) (holds run a e) refl g
        of (Err e) e' g = absurd (no_value e q g)
segments steps env n m (k ∷ ms) items = after_step IsConcluded (counted (paths.segment (paths.mixed_code steps n) env items m)) _ (λ more. segments steps env (suc n) k ms more)

pub path_in_order : (m n : Meaning) (ms : List Meaning) (env : Environment) → Gives IsConcluded (paths.path m (n ∷ ms) env)
path_in_order m n ms env = after_step IsConcluded (m env) _ (λ items. segments (length (n ∷ ms)) env 0 n ms items)
