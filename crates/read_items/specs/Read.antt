-- Items, with the texts of their typed values at hand.
use Rattle.std.specs.Prelude.{◌≡◌, Ok}
use Rattle.std.specs.Option.{ForSome}
use Rattle.data_model.specs.Trees.{Trees}
use Rattle.values.specs.Atoms.{◌>>=◌, atom_of}
use Rattle.values.specs.Comparisons.{as_string}
use Rattle.values.specs.Items.{IsThere}
use Rattle.values.specs.Paid.{nodes_in}
use Rattle.values.specs.declared.atom.Atom.TheVariants.{String}
use Rattle.values.specs.declared.atom.Item.{Item}
use Rattle.read_items.specs.declared.read_item.ReadItem.{ReadItem}
use Rattle.read_items.specs.declared.read_item.TakenText.{TakenText}

-- t has the text of the typed value of x, which is a string or untyped, and how many nodes are gone through for it
pub record IsTaken (ts : Trees) (x : Item) (t : TakenText) : Type 0 where
  pub text : (atom_of ts x >>= (λ a. Ok (as_string a))) ≡ Ok (String t.text)
  pub nodes : t.nodes ≡ nodes_in ts x

-- the item stands in the trees, and what was taken is its text
pub record IsRead (ts : Trees) (r : ReadItem) : Type 0 where
  pub there : IsThere ts r.item.now
  pub text : ForSome r.text (IsTaken ts r.item.now)
