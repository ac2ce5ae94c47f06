-- Sums of values that are read where they lie.
use Rattle.std.specs.Prelude.{ℕ, ◌+◌, pos, ◌+ℤ◌, List, [], ◌∷◌, Result, Ok}
use Rattle.data_model.specs.Trees.{Trees}
use Rattle.fault_codes.specs.declared.code.Code.{Code}
use Rattle.values.specs.Arithmetic.{in_range}
use Rattle.values.specs.Atoms.{◌>>=◌, atom_of}
use Rattle.values.specs.Paid.{nodes_in}
use Rattle.values.specs.Work.{text_of, text_work}
use Rattle.values.specs.declared.atom.Atom.{Atom}
use Rattle.values.specs.declared.atom.Item.{Item}
use Rattle.query_meaning.specs.Functions.{addend, integer}
use Rattle.query_meaning.specs.Running as running
use Rattle.query_meaning.specs.Running.{M, work}
use Rattle.query_calls.specs.declared.sums.LentTotal.{LentTotal}

-- no values
abbrev pub no_total : LentTotal
no_total = record { sum = pos 0; work = 0 }

-- with a value more, for which n nodes are gone through
abbrev pub and_value : LentTotal → ℕ → Atom → Result LentTotal Code
and_value t n a = do
  z ← addend a
  y ← in_range (t.sum +ℤ z)
  Ok (record { sum = y; work = t.work + (n + text_work (text_of a)) })

-- with the value of an item more
abbrev pub and_item : Trees → LentTotal → Item → Result LentTotal Code
and_item ts t x = atom_of ts x >>= and_value t (nodes_in ts x)

-- with the values of items, from the left
abbrev pub total_of : Trees → List Item → LentTotal → Result LentTotal Code
total_of ts [] t = Ok t
total_of ts (x ∷ xs) t = and_item ts t x >>= total_of ts xs

-- the sum, once the values are paid
abbrev pub total_paid : LentTotal → M (List Item)
total_paid t = running.◌>>=◌ (work t.work) (λ _. integer t.sum)
