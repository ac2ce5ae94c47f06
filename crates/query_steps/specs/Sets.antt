-- Sets of nodes.
use Rattle.std.specs.Prelude.{ℕ, Bool, not, cond, List, filter}
use Rattle.data_model.specs.Axes.{is_in}
use Rattle.data_model.specs.Order.{identities}
use Rattle.values.specs.declared.atom.Item.{Item}
use Rattle.query_meaning.specs.Operators.{nodes}
use Rattle.query_meaning.specs.Running.{M, ◌>>=◌, come_to, seen, within}

-- whether a node is in a list, or whether it isn't
abbrev pub is_as_wanted : (wanted : Bool) → List ℕ → ℕ → Bool
is_as_wanted wanted others i = cond wanted (is_in i others) (not (is_in i others))

-- nodes in document order, each once, if they are not too many
abbrev pub in_order : List ℕ → M (List Item)
in_order ids = seen (λ ts. filter (λ i. is_in i ids) (identities ts)) >>= (λ is. come_to (within (nodes is)))
