-- What an operand of a general comparison has read.
use Rattle.std.specs.Prelude.{◌≡◌, ℕ, List, Option, Some, None}
use Rattle.std.specs.Coded.{Coded}
use Rattle.values.specs.contracts.atom.Atom as atom
use Rattle.values.specs.declared.atom.Atom.{Atom}
use Rattle.values.specs.declared.atom.Atom.TheVariants.{Untyped}
use Rattle.values.specs.declared.operand.Operand.TheInside.{Inside}
use Rattle.values.specs.Readings.{integer_of, boolean_of}
use Rattle.values.specs.Work.{text_of, text_work}

-- how a proof tells atomic values apart
abbrev pub atom_code : Coded Atom
atom_code = atom.the_row.coded

-- a reading is there, and is that of the untyped text; or there is none
abbrev pub IsReading : {A : Type 0} → (List ℕ → Option A) → Atom → Option (Option A) → Type 0
IsReading reading a None = Unit {0}
IsReading reading (Untyped text) (Some found) = found ≡ reading text
IsReading reading _ (Some found) = ⊥

-- what was read is what the text reads as, and its work is counted
pub record IsRead (o : Inside) : Type 0 where
  pub integer : IsReading integer_of o.atom.now o.integer
  pub boolean : IsReading boolean_of o.atom.now o.boolean
  pub work : o.work ≡ text_work (text_of o.atom.now)
