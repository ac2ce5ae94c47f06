-- Texts that are joined where they lie come to what those of listed values do.
use Rattle.std.proofs.Common.{◌≡◌, ◌∙◌, ℕ, suc, ◌+◌, List, [], ◌∷◌, ◌++◌, Option, Some, None, Result, Ok, Err, refl, ap, sym, arith, append-nil, append_assoc}
use Rattle.std.specs.Option.{option_and_then, unwrap_or}
use Rattle.data_model.specs.Trees.{Trees}
use Rattle.fault_codes.specs.declared.code.Code.{Code}
use Rattle.values.specs.Atoms.{atom_of}
use Rattle.values.specs.Comparisons.{as_string}
use Rattle.values.specs.LentTexts.{IsLentText}
use Rattle.values.specs.Paid.{nodes_in}
use Rattle.values.specs.Work.{text_work}
use Rattle.values.specs.declared.atom.Atom.{Atom}
use Rattle.values.specs.declared.atom.Atom.TheVariants.{String, Boolean, Untyped, Integer}
use Rattle.values.specs.declared.atom.Item.{Item}
use Rattle.values.specs.declared.fault.ValueFault.{ValueFault}
use Rattle.values.specs.declared.fault.ValueFault.TheVariants as fault
use Rattle.values.specs.declared.lent.LentText.{LentText}
use Rattle.query_meaning.specs.Functions.{string, string_join}
use Rattle.query_meaning.specs.Operators.{between_atoms}
use Rattle.query_meaning.specs.Running.{Run, and_then, ◌>>=◌, atom, atoms, come_to, each, pure, trees_of, work}
use Rattle.query_meaning.specs.Strings.{limited, one_text, separated, text_in}
use Rattle.evaluation.specs.Gives.{Gives}
use Rattle.evaluation.proofs.Alone.{item_atoms}
use Rattle.read_items.specs.Pairs.{text}
use Rattle.read_items.proofs.Taking as taking
use Rattle.read_items.proofs.Taking.{atom_taken, its_text, text_is, then_same, then_same_after, together, works}
use Rattle.query_calls.specs.Joined.{IsJoined, joined_paid, texts_of}
use Rattle.query_calls.specs.declared.joined.Joined.{Joined}
use Rattle.query_calls.proofs.Joining.{and_text_in}
use Rattle.query_calls.proofs.Taken.{Taken, more_taken, none_taken}

its_string : (a : Atom) (t : List ℕ) → as_string a ≡ String t → text_in a ≡ Ok t
its_string (String s) t h = let p : s ≡ t = cc in ap Ok p
its_string (Untyped s) t h = let p : s ≡ t = cc in ap Ok p
its_string (Boolean b) t h = absurd cc
its_string (Integer z) t h = absurd cc

-- from some texts and what was paid for them to others: the values between, their texts and their work
record Texts (ts : Trees) (xs : List Item) (before : List (List ℕ)) (paid : ℕ) (after : List (List ℕ)) (total : ℕ) : Type 0 where
  pub values : List Atom
  pub texts : List (List ℕ)
  pub more : ℕ
  pub all : after ≡ before ++ texts
  pub sum : total ≡ paid + more
  pub given : Taken ts xs values more
  pub told : (n : ℕ) (before : List (List ℕ)) (run : Run) → each and_text_in n values before run ≡ Ok (before ++ texts, run)

none : (ts : Trees) (before after : List (List ℕ)) (paid total : ℕ) → before ≡ after → paid ≡ total → Texts ts [] before paid after total
none ts before after paid total same e = record {
  values = [];
  texts = [];
  more = 0;
  all = sym same ∙ sym (append-nil before);
  sum = omega (arith, e);
  given = none_taken ts;
  told = λ n before run. ap (λ xs. Ok (xs, run)) (sym (append-nil before));
}

module _ (ts : Trees) (x : Item) (xs : List Item) (t : List ℕ) (a : Atom) (found : atom_of ts x ≡ Ok a) (has : as_string a ≡ String t) where
  abbrev here : ℕ
  here = nodes_in ts x + text_work t

  module _ (before after : List (List ℕ)) (paid total : ℕ) (rest : Texts ts xs (before ++ t ∷ []) (paid + here) after total) where
    more : Texts ts (x ∷ xs) before paid after total
    more = record {
      values = a ∷ rest.values;
      texts = t ∷ rest.texts;
      more = here + rest.more;
      all = rest.all ∙ append_assoc before (t ∷ []) rest.texts;
      sum = let e : total ≡ paid + here + rest.more = rest.sum in omega (arith, e);
      given = more_taken ts x xs a (text_work t) rest.values rest.more found (ap text_work (taking.text_in a t has)) rest.given;
      told = λ n before run.
          ap (λ r. and_then (and_then (come_to r run) (λ text. pure (before ++ text ∷ []))) (each and_text_in (suc n) rest.values)) (its_string a t has)
          ∙ rest.told (suc n) (before ++ t ∷ []) run ∙ ap (λ xs. Ok (xs, run)) (append_assoc before (t ∷ []) rest.texts);
    }

listed : (ts : Trees) (xs : List Item) (before after : List (List ℕ)) (paid total : ℕ) → texts_of ts xs before paid ≡ Some (after, total) → Texts ts xs before paid after total
listed ts [] before after paid total h = none ts before after paid total (ap (λ (o : Option (List (List ℕ) × ℕ)). (unwrap_or o (before, paid)).0) h) (ap (λ (o : Option (List (List ℕ) × ℕ)). (unwrap_or o (before, paid)).1) h)
listed ts (x ∷ xs) before after paid total h = of (text (atom_of ts x)) refl h (λ t. listed ts xs (before ++ t ∷ []) after (paid + (nodes_in ts x + text_work t)) total)
  where
    of : (o : Option (List ℕ)) → text (atom_of ts x) ≡ o → option_and_then (λ t. texts_of ts xs (before ++ t ∷ []) (paid + (nodes_in ts x + text_work t))) o ≡ Some (after, total)
        → ((t : List ℕ) → texts_of ts xs (before ++ t ∷ []) (paid + (nodes_in ts x + text_work t)) ≡ Some (after, total) → Texts ts xs (before ++ t ∷ []) (paid + (nodes_in ts x + text_work t)) after total)
        → Texts ts (x ∷ xs) before paid after total
    of None e h rest = absurd cc
    of (Some t) e h rest = let a = text_is (atom_of ts x) t e in more ts x xs t a.0 a.1.0 a.1.1 before after paid total (rest t h)

-- ---- all of them
module _ (xs : List Item) (y : Item) (j : Joined) (run : Run) (h : IsJoined (trees_of run) xs y j) where
  its : Texts (trees_of run) xs [] 0 h.texts h.paid
  its = listed (trees_of run) xs [] h.texts 0 h.paid h.are

  other : (b : Atom) × ((atom_of (trees_of run) y ≡ Ok b) × (as_string b ≡ String h.separator))
  other = text_is (atom_of (trees_of run) y) h.separator h.divides

  abbrev b : Atom
  b = other.0

  abbrev there : ℕ
  there = nodes_in (trees_of run) y + text_work h.separator

  joined_now : (now : Run) → string_join its.values (b ∷ []) now ≡ string j.text now
  joined_now now =
      ap (λ r. and_then r (λ texts. come_to (one_text (b ∷ [])) >>= (λ separator. come_to (limited (separated separator texts)) >>= string))) (its.told 0 [] now)
      ∙ ap (λ r. and_then (come_to r now) (λ separator. come_to (limited (separated separator its.texts)) >>= string)) (its_string b h.separator other.1.1)
      ∙ ap (λ r. and_then (come_to r now) string) (ap (λ texts. limited (separated h.separator texts)) (sym its.all) ∙ h.text)

  second : (left : ℕ) → (atoms (y ∷ []) >>= string_join its.values) (record run { work = left }) ≡ (work there >>= (λ _. string j.text)) (record run { work = left })
  second left =
      ap (λ r. and_then r (string_join its.values)) (item_atoms y (record run { work = left }))
      ∙ together (atom y (record run { work = left })) (λ a. pure (a ∷ [])) (string_join its.values)
      ∙ ap (λ r. and_then r (λ a. string_join its.values (a ∷ [])))
      (atom_taken y b (nodes_in (trees_of run) y) (text_work h.separator) (record run { work = left }) other.1.0 (ap text_work (taking.text_in b h.separator other.1.1)) refl)
      ∙ together (work there (record run { work = left })) (λ _. pure b) (λ a. string_join its.values (a ∷ []))
      ∙ then_same (work there (record run { work = left })) (λ _. string_join its.values (b ∷ [])) (λ _. string j.text) (λ _ now. joined_now now)

  joined_is : between_atoms string_join xs (y ∷ []) run ≡ joined_paid j.text j.work run
  joined_is =
      ap (λ r. and_then r (λ vs. atoms (y ∷ []) >>= string_join vs)) (its.given 0 [] run refl)
      ∙ together (work its.more run) (λ _. pure its.values) (λ vs. atoms (y ∷ []) >>= string_join vs)
      ∙ then_same_after its.more (atoms (y ∷ []) >>= string_join its.values) (work there >>= (λ _. string j.text)) run second
      ∙ sym (together (work its.more run) (λ _. work there) (λ _. string j.text)) ∙ ap (λ r. and_then r (λ _. string j.text)) (works its.more there run)
      ∙ (let e : its.more + there ≡ j.work = let p : j.work ≡ h.paid + there = h.work in let q : h.paid ≡ 0 + its.more = its.sum in omega (arith, p, q) in ap (λ n. and_then (work n run) (λ _. string j.text)) e)

  pub joined_gives : (new : Run) (r : Result (List Item) ValueFault) → Gives (joined_paid j.text j.work) run r new → Gives (between_atoms string_join xs (y ∷ [])) run r new
  joined_gives new (Ok items) g = (joined_is ∙ g.0, g.1)
  joined_gives new (Err fault.Memory) g = tt
  joined_gives new (Err (fault.Code code)) g = joined_is ∙ g

-- a step over the first item
pub and_text : (ts : Trees) (x : Item) (xs ys : List Item) (s : LentText) (texts : List (List ℕ)) (paid total : ℕ) → ys ≡ x ∷ xs → IsLentText ts x s → total ≡ paid + (s.nodes + text_work s.text.now)
    → texts_of ts ys texts paid ≡ texts_of ts xs (texts ++ s.text.now ∷ []) total
and_text ts x xs ys s texts paid total all h is =
    ap (λ ys. texts_of ts ys texts paid) all
    ∙ ap (option_and_then (λ t. texts_of ts xs (texts ++ t ∷ []) (paid + (nodes_in ts x + text_work t)))) (its_text ts x s h)
    ∙ ap (λ n. texts_of ts xs (texts ++ s.text.now ∷ []) (paid + (n + text_work s.text.now))) (sym h.nodes) ∙ ap (texts_of ts xs (texts ++ s.text.now ∷ [])) (sym is)
