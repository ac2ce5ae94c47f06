-- Texts of the typed values of items.
use Rattle.std.specs.Prelude.{◌≡◌, ℕ, List, chars, length, Option, None, Some, Result, Ok, Err}
use Rattle.values.specs.declared.atom.Item.{Item}
use Rattle.values.specs.declared.fault.ValueFault.{ValueFault}
use Rattle.evaluation.specs.Gives.{Any, Fails, GivesIn}
use Rattle.query_meaning.specs.Running.{M, Run, ◌>>=◌, atom, come_to, pure}
use Rattle.query_meaning.specs.Strings.{printed, text_in}

-- the typed value as a string
abbrev pub printed_item : Item → M (List ℕ)
printed_item x = atom x >>= (λ a. pure (printed a))

-- the text of a string, or of what is untyped
abbrev pub item_text : Item → M (List ℕ)
item_text x = atom x >>= (λ a. come_to (text_in a))

-- how many characters that has
abbrev pub item_length : Item → M ℕ
item_length x = item_text x >>= (λ text. pure (length (chars text)))

-- Where no length is given nothing has changed.
abbrev pub GivesLength : Item → Run → Result (Option ℕ) ValueFault → Run → Type 0
GivesLength x old (Ok (Some count)) new = GivesIn Any (item_length x) old (Ok count) new
GivesLength x old (Ok None) new = new ≡ old
GivesLength x old (Err f) new = Fails (item_length x old) f
