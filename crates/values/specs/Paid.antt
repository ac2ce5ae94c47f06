-- Typed values for their work (our own measure): a unit for each node of a node's tree, and the work of the text.
use Rattle.std.specs.Prelude.{ℕ, ◌-◌, nat_le, if◌then◌else◌, Result, Ok, Err}
use Rattle.data_model.specs.Changes.{pick}
use Rattle.data_model.specs.Trees.{Trees, size}
use Rattle.fault_codes.specs.declared.code.Code.{Code}
use Rattle.fault_codes.specs.declared.code.Code.TheVariants.{PXQ0002}
use Rattle.values.specs.Atoms.{◌>>=◌, atom_of}
use Rattle.values.specs.Work.{text_of, text_work}
use Rattle.values.specs.declared.atom.Atom.{Atom}
use Rattle.values.specs.declared.atom.Item.{Item}
use Rattle.values.specs.declared.atom.Item.TheVariants as item

-- the nodes of the tree of a node
abbrev pub nodes_in : Trees → Item → ℕ
nodes_in ts (item.Node i) = size (pick i ts)
nodes_in ts (item.Atomic a) = 0

-- so much work without n units of it
abbrev pub less : ℕ → ℕ → Result ℕ Code
less n work = if nat_le n work then Ok (work - n) else Err PXQ0002

-- a value that takes so many units, and then the work of its text; and what is left of so much work
abbrev pub paid : ℕ → Result Atom Code → ℕ → Result (Atom × ℕ) Code
paid n r work = do
  left ← less n work
  a ← r
  rest ← less (text_work (text_of a)) left
  Ok (a, rest)

-- the typed value of an item
abbrev pub paid_atom : Trees → Item → ℕ → Result (Atom × ℕ) Code
paid_atom ts x work = paid (nodes_in ts x) (atom_of ts x) work
