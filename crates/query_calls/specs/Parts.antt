-- Parts of what functions mean.
use Rattle.std.specs.Prelude.{ℕ, pos, List, [], ◌∷◌, Result, Ok, Err}
use Rattle.data_model.specs.Trees.{find}
use Rattle.fault_codes.specs.declared.code.Code.{Code}
use Rattle.values.specs.declared.atom.Atom.{Atom}
use Rattle.values.specs.declared.atom.Item.{Item}
use Rattle.query_meaning.specs.Environment.{Environment, Focus}
use Rattle.query_meaning.specs.Functions.{and_addend, integer, name_at, string}
use Rattle.query_meaning.specs.Running.{M, ◌>>=◌, come_to, each, seen}
use Rattle.query_meaning.specs.Sequences.{focus_of}

-- the sum of values
abbrev pub sum_of : List Atom → M (List Item)
sum_of values = each (λ _. and_addend) 0 values (pos 0) >>= integer

-- the name of a node
abbrev pub name_of : ℕ → M (List Item)
name_of i = seen (λ ts. name_at (find i ts)) >>= string

-- the context item as the only item
abbrev pub items_in : Result Focus Code → Result (List Item) Code
items_in (Ok f) = Ok (f.item ∷ [])
items_in (Err code) = Err code

abbrev pub context : Environment → Result (List Item) Code
context env = items_in (focus_of env)

-- what a function makes of the context item
abbrev pub of_context : Environment → (List Item → M (List Item)) → M (List Item)
of_context env f = come_to (focus_of env) >>= (λ (focus : Focus). f (focus.item ∷ []))
