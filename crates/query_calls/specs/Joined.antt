-- Texts that are joined where they lie.
use Rattle.std.specs.Prelude.{◌≡◌, ℕ, ◌+◌, List, [], ◌∷◌, ◌++◌, Option, Some, Ok}
use Rattle.std.specs.Option.{option_and_then}
use Rattle.data_model.specs.Trees.{Trees}
use Rattle.values.specs.Atoms.{atom_of}
use Rattle.values.specs.Paid.{nodes_in}
use Rattle.values.specs.Work.{text_work}
use Rattle.values.specs.declared.atom.Item.{Item}
use Rattle.query_meaning.specs.Functions.{string}
use Rattle.query_meaning.specs.Running.{M, ◌>>=◌, work}
use Rattle.query_meaning.specs.Strings.{limited, separated}
use Rattle.read_items.specs.Pairs.{text}
use Rattle.query_calls.specs.declared.joined.Joined.{Joined}

-- the texts of items after others, and the work of their values after that of those
abbrev pub texts_of : Trees → List Item → List (List ℕ) → ℕ → Option (List (List ℕ) × ℕ)
texts_of ts [] texts paid = Some (texts, paid)
texts_of ts (x ∷ xs) texts paid = option_and_then (λ t. texts_of ts xs (texts ++ t ∷ []) (paid + (nodes_in ts x + text_work t))) (text (atom_of ts x))

-- the texts of items with that of another one between each two, and the work of all values
pub record IsJoined (ts : Trees) (xs : List Item) (y : Item) (j : Joined) : Type 0 where
  pub texts : List (List ℕ)
  pub paid : ℕ
  pub separator : List ℕ
  pub are : texts_of ts xs [] 0 ≡ Some (texts, paid)
  pub divides : text (atom_of ts y) ≡ Some separator
  pub text : limited (separated separator texts) ≡ Ok j.text
  pub work : j.work ≡ paid + (nodes_in ts y + text_work separator)

-- such a text, once the values are paid
abbrev pub joined_paid : List ℕ → ℕ → M (List Item)
joined_paid text n = work n >>= (λ _. string text)
