-- General comparisons of items with another one (XQuery 1.0, section 3.5.2).
use Rattle.std.specs.Prelude.{ℕ, suc, ◌+◌, nat_le, if◌then◌else◌, Bool, false, List, [], ◌∷◌, length, Option, Some, None, Result, Ok}
use Rattle.std.specs.Option.{option_and_then}
use Rattle.data_model.specs.Trees.{Trees}
use Rattle.fault_codes.specs.declared.code.Code.{Code}
use Rattle.values.specs.declared.atom.Atom.{Atom}
use Rattle.values.specs.declared.atom.Atom.TheVariants.{String, Untyped}
use Rattle.values.specs.declared.atom.Item.{Item}
use Rattle.values.specs.declared.compare.Comparison.{Comparison}
use Rattle.values.specs.Atoms.{atom_of}
use Rattle.values.specs.Comparisons.{general_compared, holds, pairs_compared, string_cmp, tried, tried_work}
use Rattle.values.specs.Paid.{nodes_in}
use Rattle.values.specs.Work.{text_work}
use Rattle.query_meaning.specs.Running.{M, ◌>>=◌, atom as atom_at, atoms, come_to, pure, turns, work}
use Rattle.read_items.specs.declared.text_pairs.TextPairs.{TextPairs}

-- whether the comparison holds of some pair of values
abbrev pub compared : Comparison → List Atom → List Atom → M Bool
compared op vs ws = λ run. (do
  holds ← come_to (general_compared op vs ws run.turns run.work)
  _ ← turns (tried (pairs_compared op vs ws))
  _ ← work (tried_work op vs ws)
  pure holds) run

-- the typed values of two items, and whether the comparison holds of them
abbrev pub items_compared : Comparison → Item → Item → M Bool
items_compared op x y = do
  v ← atom_at x
  w ← atom_at y
  compared op (v ∷ []) (w ∷ [])

-- the typed values of items and of another one, and whether the comparison holds of some pair
abbrev pub each_compared : Comparison → List Item → Item → M Bool
each_compared op xs y = do
  vs ← atoms xs
  w ← atom_at y
  compared op vs (w ∷ [])

-- How the code tries pairs of texts.

-- the text of a value that is a string or untyped
abbrev pub text : Result Atom Code → Option (List ℕ)
text (Ok (String t)) = Some t
text (Ok (Untyped t)) = Some t
text _ = None

-- no pair yet, and the work of the text on the right, in a tree of n nodes
abbrev pub no_pairs : ℕ → List ℕ → TextPairs
no_pairs n other = record { holds = false; turns = 0; work = n + text_work other }

abbrev pub shorter : List ℕ → List ℕ → ℕ
shorter t other = if nat_le (length t) (length other) then text_work t else text_work other

-- one more text on the left, in a tree of n nodes
abbrev pub and_text : Comparison → (other : List ℕ) → (n : ℕ) → List ℕ → TextPairs → TextPairs
and_text op other n t p =
    if p.holds
    then record p { work = p.work + (n + text_work t) }
    else record { holds = holds op (string_cmp t other); turns = suc p.turns; work = p.work + (n + text_work t) + shorter t other }

-- those of items
abbrev pub and_texts : Trees → Comparison → (other : List ℕ) → List Item → TextPairs → Option TextPairs
and_texts ts op other [] p = Some p
and_texts ts op other (x ∷ xs) p = option_and_then (λ t. and_texts ts op other xs (and_text op other (nodes_in ts x) t p)) (text (atom_of ts x))

abbrev pub pairs_of : Trees → Comparison → List Item → Item → Option TextPairs
pairs_of ts op xs y = option_and_then (λ other. and_texts ts op other xs (no_pairs (nodes_in ts y) other)) (text (atom_of ts y))

-- what is taken for them
abbrev pub pairs_taken : TextPairs → M Bool
pairs_taken p = do
  _ ← turns p.turns
  _ ← work p.work
  pure p.holds
