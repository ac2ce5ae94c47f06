-- What an evaluation has come to, and steps that are taken one after the other: the first fault ends them (XQuery 1.0, section 2.3.4).
use Rattle.std.specs.Prelude.{ℕ, suc, ◌+◌, ◌-◌, ◌/◌, ◌==◌, nat_le, if◌then◌else◌, List, [], ◌∷◌, ◌++◌, length, Result, Ok, Err, refl}
use Rattle.std.specs.Coded.{Coded, code_by, coded×, coded_ℕ, coded_list}
use Rattle.data_model.specs.Changes.{pick}
use Rattle.data_model.specs.Limits.{most_nodes as most_stored}
use Rattle.data_model.specs.Trees.{Trees, append, bytes_in, size}
use Rattle.shelves.specs.Shelf.{ShelfTerm, shelf_trees, shelf_code}
use Rattle.pending.specs.Compatible.{most_primitives}
use Rattle.pending.specs.Primitives.{PrimitiveTerm, primitive_code}
use Rattle.fault_codes.specs.declared.code.Code.{Code}
use Rattle.fault_codes.specs.declared.code.Code.TheVariants.{PXQ0002, PXQ0003}
use Rattle.values.specs.declared.atom.Item.{Item}
use Rattle.values.specs.declared.atom.Item.TheVariants as item
use Rattle.values.specs.declared.atom.Atom.{Atom}
use Rattle.values.specs.Atoms.{atom_of}
use Rattle.values.specs.Work.{text_of, text_work}

-- the trees, how many turns and how much work are left, and the update primitives so far
pub record Run : Type 0 where
  pub shelf : ShelfTerm
  pub turns : ℕ
  pub work : ℕ
  pub primitives : List PrimitiveTerm

abbrev pub run_code : Coded Run
run_code =
    code_by
    (ShelfTerm × (ℕ × (ℕ × List PrimitiveTerm)))
    (coded× shelf_code (coded× coded_ℕ (coded× coded_ℕ (coded_list primitive_code))))
    (λ r. (r.shelf, (r.turns, (r.work, r.primitives))))
    (λ p. record { shelf = p.0; turns = p.1.0; work = p.1.1.0; primitives = p.1.1.1 })
    (λ _. refl)

abbrev pub trees_of : Run → Trees
trees_of run = shelf_trees run.shelf

-- what comes to a value, or to a code
abbrev pub M : Type 0 → Type 0
M A = Run → Result (A × Run) Code

abbrev pub pure : {A : Type 0} → A → M A
pure a = λ run. Ok (a, run)

abbrev pub fault : {A : Type 0} → Code → M A
fault code = λ run. Err code

abbrev pub and_then : {A B : Type 0} → Result (A × Run) Code → (A → M B) → Result (B × Run) Code
and_then (Ok p) f = f p.0 p.1
and_then (Err code) f = Err code

infixl 10 ◌>>=◌
-- one after the other
abbrev pub ◌>>=◌ : {A B : Type 0} → M A → (A → M B) → M B
m >>= f = λ run. and_then (m run) f

abbrev pub come_to : {A : Type 0} → Result A Code → M A
come_to (Ok a) = pure a
come_to (Err code) = fault code

-- what is seen in the trees
abbrev pub seen : {A : Type 0} → (Trees → A) → M A
seen f = λ run. Ok (f (trees_of run), run)

-- one after the other, each with its index; what the one comes to is given to the next
abbrev pub each : {A S : Type 0} → (ℕ → S → A → M S) → ℕ → List A → S → M S
each f n [] s = pure s
each f n (a ∷ more) s = f n s a >>= each f (suc n) more

-- Our own limits.

-- the most turns, work, items and nodes in an evaluation
unfoldable pub most_turns : ℕ
most_turns = 1000000

unfoldable pub most_work : ℕ
most_work = 100000000

unfoldable pub most_items : ℕ
most_items = 10000

unfoldable pub most_nodes : ℕ
most_nodes = most_stored

-- one turn more, before the rest
abbrev pub turn : {A : Type 0} → M A → M A
turn m = λ run. if run.turns == 0 then Err PXQ0002 else m (record run { turns = run.turns - 1 })

-- so many turns more
abbrev pub turns : ℕ → M (Unit {0})
turns n = λ run. if nat_le n run.turns then Ok (tt, record run { turns = run.turns - n }) else Err PXQ0002

-- so much more work
abbrev pub work : ℕ → M (Unit {0})
work n = λ run. if nat_le n run.work then Ok (tt, record run { work = run.work - n }) else Err PXQ0002

-- What is evaluated takes a unit of work, and one for each item of its value.
abbrev pub counted : M (List Item) → M (List Item)
counted m = do
  items ← m
  _ ← work (1 + length items)
  pure items

-- The typed value of an item takes a unit for each node of the tree of a node, and the work of its text.
abbrev pub nodes_of : Trees → Item → ℕ
nodes_of ts (item.Node i) = size (pick i ts)
nodes_of ts (item.Atomic a) = 0

abbrev pub atom : Item → M Atom
atom x = λ run. (do
  _ ← work (nodes_of (trees_of run) x)
  a ← come_to (atom_of (trees_of run) x)
  _ ← work (text_work (text_of a))
  pure a) run

abbrev pub atoms : List Item → M (List Atom)
atoms items = each (λ _ given x. atom x >>= (λ a. pure (given ++ a ∷ []))) 0 items []

-- A copy of the tree of a node takes the work of all of its texts.
abbrev pub copying : ℕ → M (Unit {0})
copying i = seen (λ ts. bytes_in (pick i ts) / 16) >>= work

-- one primitive more
abbrev pub adding : PrimitiveTerm → M (Unit {0})
adding p = λ run. if nat_le most_primitives (length run.primitives) then Err PXQ0002 else Ok (tt, record run { primitives = run.primitives ++ p ∷ [] })

-- not too many items
abbrev pub within : List Item → Result (List Item) Code
within items = if nat_le (length items) most_items then Ok items else Err PXQ0002

-- items after others
abbrev pub joined : List Item → List Item → M (List Item)
joined given items = come_to (within (given ++ items))

-- so many new nodes: they take the next identities, of which this is the first; none is used again
abbrev pub new_nodes : ℕ → M ℕ
new_nodes n = λ run.
    if nat_le (run.shelf.own.next + n) (run.shelf.lent.next + most_nodes)
    then Ok (run.shelf.own.next, record run { shelf = record run.shelf { own = record run.shelf.own { next = run.shelf.own.next + n } } })
    else Err PXQ0003

-- new trees stand among the others
abbrev pub standing : Trees → M (Unit {0})
standing ts = λ run. Ok (tt, record run { shelf = record run.shelf { own = record run.shelf.own { trees = append run.shelf.own.trees ts } } })
