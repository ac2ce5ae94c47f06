-- Functions of one item, whose value need not be listed.
use Rattle.std.proofs.Common.{◌≡◌, ◌≤◌, ◌<◌, ◌∙◌, ℕ, pos, chars, List, [], ◌∷◌, length, slice_index_or, Result, Ok, Err, refl, ap, sym, arith}
use Rattle.fault_codes.specs.declared.code.Code.{Code}
use Rattle.values.specs.declared.atom.Atom.{Atom}
use Rattle.values.specs.declared.atom.Item.{Item}
use Rattle.values.specs.declared.fault.ValueFault.{ValueFault}
use Rattle.values.specs.declared.fault.ValueFault.TheVariants as fault
use Rattle.query_meaning.specs.Functions.{first_printed, integer, string, string_argument, string_length, string_of}
use Rattle.query_meaning.specs.Running.{M, Run, and_then, ◌>>=◌, atom as atom_at, come_to, pure}
use Rattle.query_meaning.specs.Strings.{printed, text_in}
use Rattle.evaluation.specs.Gives.{Any, Fails, Gives, GivesIn, Stand}
use Rattle.evaluation.proofs.Alone.{item_atoms}
use Rattle.evaluation.proofs.Each.{then_gives}
use Rattle.query_strings.specs.ItemTexts.{item_text, printed_item}

-- a list of one
pub alone_is : (items seen : List Item) (x : Item) → seen ≡ items → 1 ≤ length seen → length seen < 2 → x ≡ slice_index_or seen 0 x → items ≡ x ∷ []
alone_is items [] x same some few here = absurd (omega (arith, some))
alone_is items (y ∷ []) x same some few here = sym same ∙ ap (λ z. z ∷ []) (sym here)
alone_is items (y ∷ z ∷ ys) x same some few here = absurd (omega (arith, few))

-- after a text, as it is defined
module _ (m : M (List Item)) (text : M (List ℕ)) (f : List ℕ → M (List Item)) (old : Run) (same : m old ≡ (text >>= f) old) where
  gives_as : (new : Run) (r : Result (List Item) ValueFault) → Gives (text >>= f) old r new → Gives m old r new
  gives_as new (Ok items) g = (same ∙ g.0, g.1)
  gives_as new (Err fault.Memory) g = tt
  gives_as new (Err (fault.Code code)) g = same ∙ g

  after_text : (mid new : Run) (t : List ℕ) (r : Result (List Item) ValueFault) → GivesIn Any text old (Ok t) mid → Gives (f t) mid r new → Gives m old r new
  after_text mid new t r g h = gives_as new r (then_gives Any Stand text f old mid new t r g h)

  without_text : (found : ValueFault) → Fails (text old) found → Fails (m old) found
  without_text fault.Memory g = tt
  without_text (fault.Code code) g = same ∙ ap (λ r. and_then r f) g

string_given : (x : Item) (run : Run) → string_of (x ∷ []) run ≡ (printed_item x >>= string) run
string_given x run = ap (λ r. and_then r (λ values. string (first_printed values))) (item_atoms x run) ∙ over (atom_at x run)
  where
    over : (r : Result (Atom × Run) Code) → and_then (and_then r (λ a. pure (a ∷ []))) (λ values. string (first_printed values)) ≡ and_then (and_then r (λ a. pure (printed a))) string
    over (Ok p) = refl
    over (Err code) = refl

pub string_gives : (x : Item) (old mid new : Run) (t : List ℕ) (r : Result (List Item) ValueFault) → GivesIn Any (printed_item x) old (Ok t) mid → Gives (string t) mid r new → Gives (string_of (x ∷ [])) old r new
string_gives x old = after_text (string_of (x ∷ [])) (printed_item x) string old (string_given x old)

pub string_fails : (x : Item) (old : Run) (found : ValueFault) → Fails (printed_item x old) found → Fails (string_of (x ∷ []) old) found
string_fails x old = without_text (string_of (x ∷ [])) (printed_item x) string old (string_given x old)

abbrev counted : List ℕ → M (List Item)
counted text = integer (pos (length (chars text)))

length_given : (x : Item) (run : Run) → string_length (x ∷ []) run ≡ (item_text x >>= counted) run
length_given x run = ap (λ r. and_then r (λ values. come_to (string_argument values) >>= counted)) (item_atoms x run) ∙ over (atom_at x run)
  where
    over : (r : Result (Atom × Run) Code)
        → and_then (and_then r (λ a. pure (a ∷ []))) (λ values. come_to (string_argument values) >>= counted) ≡ and_then (and_then r (λ a. come_to (text_in a))) counted
    over (Ok p) = refl
    over (Err code) = refl

pub length_gives : (x : Item) (old mid new : Run) (t : List ℕ) (r : Result (List Item) ValueFault) → GivesIn Any (item_text x) old (Ok t) mid → Gives (integer (pos (length (chars t)))) mid r new → Gives (string_length (x ∷ [])) old r new
length_gives x old = after_text (string_length (x ∷ [])) (item_text x) counted old (length_given x old)

pub length_fails : (x : Item) (old : Run) (found : ValueFault) → Fails (item_text x old) found → Fails (string_length (x ∷ []) old) found
length_fails x old = without_text (string_length (x ∷ [])) (item_text x) counted old (length_given x old)
