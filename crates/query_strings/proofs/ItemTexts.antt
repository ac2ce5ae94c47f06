-- Texts that lie somewhere are those of the typed values.
use Rattle.std.proofs.Common.{◌≡◌, ◌∙◌, ℕ, List, Result, Ok, Err, ap, chars, length, sym}
use Rattle.fault_codes.specs.declared.code.Code.{Code}
use Rattle.values.specs.Comparisons.{as_string}
use Rattle.values.specs.LentTexts.{IsLentText}
use Rattle.values.specs.Work.{text_work}
use Rattle.values.specs.declared.atom.Atom.{Atom}
use Rattle.values.specs.declared.atom.Atom.TheVariants.{String, Boolean, Untyped, Integer}
use Rattle.values.specs.declared.atom.Item.{Item}
use Rattle.values.specs.declared.fault.ValueFault.{ValueFault}
use Rattle.values.specs.declared.fault.ValueFault.TheVariants as fault
use Rattle.values.specs.declared.lent.LentText.{LentText}
use Rattle.query_meaning.specs.Running.{Run, and_then, atom as atom_at, come_to, pure, trees_of}
use Rattle.query_meaning.specs.Strings.{printed, text_in}
use Rattle.evaluation.specs.Gives.{Any, Fails, GivesIn}
use Rattle.read_items.specs.Texts.{string_at, text_paid}
use Rattle.read_items.proofs.TextPairs as pairs
use Rattle.query_strings.specs.ItemTexts.{item_length, item_text, printed_item}

abbrev beside : Atom → Run → Atom × Run
beside a run = (a, run)

module _ (text : List ℕ) (new : Run) where
  atom_same : (a : Atom) (run : Run) → pure a run ≡ Ok (String text, new) → a ≡ String text
  atom_same a run h = let both : beside a run ≡ beside (String text) new = cc in ap (λ p. p.0) both

  its_text : (s : List ℕ) (run : Run) → pure (String s) run ≡ Ok (String text, new) → pure s run ≡ Ok (text, new)
  its_text s run h =
      let both : beside (String s) run ≡ beside (String text) new = cc in
      let first : String s ≡ String text = atom_same (String s) run h in
      let e : s ≡ text = cc in
      ap (λ t. pure t run) e ∙ ap (λ p. pure text p.1) both

  printed_of : (a : Atom) (run : Run) → pure (as_string a) run ≡ Ok (String text, new) → pure (printed a) run ≡ Ok (text, new)
  printed_of (String s) run h = its_text s run h
  printed_of (Untyped s) run h = its_text s run h
  printed_of (Boolean b) run h = let same : Boolean b ≡ String text = atom_same (Boolean b) run h in absurd cc
  printed_of (Integer z) run h = let same : Integer z ≡ String text = atom_same (Integer z) run h in absurd cc

  text_of : (a : Atom) (run : Run) → pure (as_string a) run ≡ Ok (String text, new) → come_to (text_in a) run ≡ Ok (text, new)
  text_of (String s) run h = its_text s run h
  text_of (Untyped s) run h = its_text s run h
  text_of (Boolean b) run h = let same : Boolean b ≡ String text = atom_same (Boolean b) run h in absurd cc
  text_of (Integer z) run h = let same : Integer z ≡ String text = atom_same (Integer z) run h in absurd cc

  printed_after : (r : Result (Atom × Run) Code) → and_then r (λ a. pure (as_string a)) ≡ Ok (String text, new) → and_then r (λ a. pure (printed a)) ≡ Ok (text, new)
  printed_after (Ok p) h = printed_of p.0 p.1 h
  printed_after (Err code) h = absurd cc

  text_after : (r : Result (Atom × Run) Code) → and_then r (λ a. pure (as_string a)) ≡ Ok (String text, new) → and_then r (λ a. come_to (text_in a)) ≡ Ok (text, new)
  text_after (Ok p) h = text_of p.0 p.1 h
  text_after (Err code) h = absurd cc

  pub printed_gives : (x : Item) (old : Run) → GivesIn Any (string_at x) old (Ok (String text)) new → GivesIn Any (printed_item x) old (Ok text) new
  printed_gives x old g = (printed_after (atom_at x old) g.0, (g.1.0, tt))

  pub text_gives : (x : Item) (old : Run) → GivesIn Any (string_at x) old (Ok (String text)) new → GivesIn Any (item_text x) old (Ok text) new
  text_gives x old g = (text_after (atom_at x old) g.0, (g.1.0, tt))

pub printed_fails : (x : Item) (old : Run) (found : ValueFault) → Fails (atom_at x old) found → Fails (printed_item x old) found
printed_fails x old fault.Memory g = tt
printed_fails x old (fault.Code code) g = ap (λ r. and_then r (λ a. pure (printed a))) g

pub text_fails : (x : Item) (old : Run) (found : ValueFault) → Fails (atom_at x old) found → Fails (item_text x old) found
text_fails x old fault.Memory g = tt
text_fails x old (fault.Code code) g = ap (λ r. and_then r (λ a. come_to (text_in a))) g

-- ---- how many characters a text has
abbrev counted : List ℕ → Run → Result (ℕ × Run) Code
counted text = pure (length (chars text))

pub length_gives : (x : Item) (text : List ℕ) (count : ℕ) (old new : Run) → GivesIn Any (item_text x) old (Ok text) new → count ≡ length (chars text) → GivesIn Any (item_length x) old (Ok count) new
length_gives x text count old new g is = (ap (λ r. and_then r counted) g.0 ∙ ap (λ n. Ok (n, new)) (sym is), (g.1.0, tt))

pub length_fails : (x : Item) (old : Run) (found : ValueFault) → Fails (item_text x old) found → Fails (item_length x old) found
length_fails x old fault.Memory g = tt
length_fails x old (fault.Code code) g = ap (λ r. and_then r counted) g

module _ (x : Item) (t : LentText) (nodes units : ℕ) (old : Run) (lent : IsLentText (trees_of old) x t) (same : nodes ≡ t.nodes) (work : units ≡ text_work t.text.now) where
  pub lent_length : (count : ℕ) (new : Run) (u : Unit {0}) → GivesIn Any (text_paid nodes units) old (Ok u) new → count ≡ length (chars t.text.now) → GivesIn Any (item_length x) old (Ok count) new
  lent_length count new u g is =
      let paid : GivesIn Any (text_paid t.nodes (text_work t.text.now)) old (Ok u) new = rw (← same, ← work) g in
      length_gives x t.text.now count old new (text_gives t.text.now new x old (pairs.text_gives x t old lent new u paid)) is

  pub unpaid : (found : ValueFault) → Fails (text_paid nodes units old) found → Fails (item_length x old) found
  unpaid found g =
      let paid : Fails (text_paid t.nodes (text_work t.text.now) old) found = rw (← same, ← work) g in
      length_fails x old found (text_fails x old found (pairs.text_fails x t old lent found paid))
