-- What paths give, in the words of XQuery 1.0, section 3.2.
use Rattle.std.specs.Prelude.{◌≡◌, ℕ, List, map, filter}
use Rattle.data_model.specs.Trees.{Trees}
use Rattle.data_model.specs.Axes.{is_in}
use Rattle.data_model.specs.Order.{identities}
use Rattle.values.specs.declared.atom.Atom.{Atom}
use Rattle.values.specs.declared.atom.Item.{Item}
use Rattle.values.specs.declared.atom.Item.TheVariants as item
use Rattle.query_meaning.specs.Operators.{nodes}

-- nodes of the trees in document order, each once
abbrev pub IsInOrder : Trees → List Item → Type 0
IsInOrder ts items = (is : List ℕ) × (items ≡ nodes (filter (λ i. is_in i is) (identities ts)))

abbrev pub IsAtomic : List Item → Type 0
IsAtomic items = (values : List Atom) × (items ≡ map (λ a. item.Atomic a) values)
