-- Texts of typed values, where they lie.
use Rattle.std.specs.Prelude.{◌≡◌, ℕ, Ok}
use Rattle.data_model.specs.Trees.{Trees}
use Rattle.values.specs.Atoms.{◌>>=◌, atom_of}
use Rattle.values.specs.Comparisons.{as_string}
use Rattle.values.specs.Paid.{nodes_in}
use Rattle.values.specs.declared.atom.Atom.TheVariants.{String}
use Rattle.values.specs.declared.atom.Item.{Item}
use Rattle.values.specs.declared.lent.LentText.{LentText}

-- t has the text of the typed value of x, which is a string or untyped, and how many nodes are gone through for it
pub record IsLentText (ts : Trees) (x : Item) (t : LentText) : Type 0 where
  pub text : (atom_of ts x >>= (λ a. Ok (as_string a))) ≡ Ok (String t.text.now)
  pub nodes : t.nodes ≡ nodes_in ts x
