-- A segment of a path in parts: what its right side gives for each item of its left side, and all that is found.
use Rattle.std.specs.Prelude.{ℕ, ◌+◌, ◌≤◌, List, [], ◌∷◌, filter, length, refl}
use Rattle.std.specs.Coded.{Coded, code_by, coded×, coded_ℕ, coded_list}
use Rattle.data_model.specs.Axes.{is_in}
use Rattle.data_model.specs.Order.{identities}
use Rattle.fault_codes.specs.declared.code.Code.{Code}
use Rattle.values.specs.contracts.atom.Atom as atom
use Rattle.values.specs.declared.atom.Atom.{Atom}
use Rattle.values.specs.declared.atom.Item.{Item}
use Rattle.query_meaning.specs.Environment.{Environment, with_focus}
use Rattle.query_meaning.specs.Operators.{nodes}
use Rattle.query_meaning.specs.Paths.{Found, all_found, and_found, concluded, found_within, segment, mixed_code}
use Rattle.query_meaning.specs.Running.{M, Run, ◌>>=◌, come_to, counted, each, seen, turn, most_items}
use Rattle.query_meaning.specs.Sequences.{Meaning}

-- how a proof tells what is found apart
abbrev pub found_code : Coded Found
found_code = code_by (List ℕ × List Atom) (coded× (coded_list coded_ℕ) (coded_list atom.the_row.coded)) (λ f. (f.nodes, f.atoms)) (λ p. record { nodes = p.0; atoms = p.1 }) (λ _. refl)

-- not more is found than there may be
abbrev pub IsFew : Found → Type 0
IsFew f = length f.nodes + length f.atoms ≤ most_items

-- the same, in any run
abbrev pub IsFewIn : Found → Run → Type 0
IsFewIn f run = IsFew f

-- one item more
abbrev pub one_found : Found → Item → M Found
one_found f x = come_to (found_within (and_found f x))

-- what the right side gives for one item, which takes a turn
abbrev pub found_in : Meaning → Environment → (size : ℕ) → ℕ → Found → Item → M Found
found_in m env n i f x = turn (m (with_focus x (i + 1) n env) >>= all_found f)

-- what it gives for all of them
abbrev pub gathered : Environment → List Item → Meaning → M Found
gathered env items m = each (found_in m env (length items)) 0 items (record { nodes = []; atoms = [] })

-- what is found, nodes in document order, but for the work of putting them so
abbrev pub listed : (mixed : Code) → List ℕ → List Atom → M (List Item)
listed mixed is [] = seen (λ ts. nodes (filter (λ i. is_in i is) (identities ts)))
listed mixed is (a ∷ more) = concluded mixed is (a ∷ more)

-- one segment after the other, each with its work
abbrev pub followed : Environment → List Item → List Meaning → M (List Item)
followed env items ms = each (λ i given m. counted (segment (mixed_code (length ms) i) env given m)) 0 ms items
