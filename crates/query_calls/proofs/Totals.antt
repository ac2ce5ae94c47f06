-- A sum of values that are read where they lie comes to what that of listed values does.
use Rattle.std.proofs.Common.{◌≡◌, ◌∙◌, ℕ, suc, ◌+◌, ℤ, pos, ◌+ℤ◌, List, [], ◌∷◌, Option, Some, None, Result, Ok, Err, refl, ap, sym, arith}
use Rattle.data_model.specs.Changes.{pick}
use Rattle.std.specs.Prelude.{IfSome}
use Rattle.data_model.specs.Trees.{IsAt, Place, Trees, find, size, string_value_of, value_at, value_of}
use Rattle.data_model.specs.declared.node.Kind.{Kind}
use Rattle.fault_codes.specs.declared.code.Code.{Code}
use Rattle.values.specs.Arithmetic.{in_range}
use Rattle.values.specs.Atoms as values
use Rattle.values.specs.Atoms.{atom_of, bounded, typed_at}
use Rattle.values.specs.Paid.{nodes_in}
use Rattle.values.specs.Work.{text_of, text_work}
use Rattle.values.specs.declared.atom.Atom.{Atom}
use Rattle.values.specs.declared.atom.Atom.TheVariants.{Untyped}
use Rattle.values.specs.declared.atom.Item.{Item}
use Rattle.values.specs.declared.atom.Item.TheVariants.{Node}
use Rattle.values.specs.declared.fault.ValueFault.{ValueFault}
use Rattle.query_meaning.specs.Functions.{addend, and_addend, integer, sum}
use Rattle.query_meaning.specs.Running.{Run, and_then, ◌>>=◌, come_to, each, pure, trees_of, work}
use Rattle.evaluation.specs.Gives.{Gives}
use Rattle.read_items.proofs.Taking.{then_same, together}
use Rattle.query_calls.specs.Totals.{and_item, and_value, no_total, total_of, total_paid}
use Rattle.query_calls.specs.declared.sums.LentTotal.{LentTotal}
use Rattle.query_calls.proofs.Giving.{gives_same}
use Rattle.query_calls.proofs.Taken.{Taken, more_taken, none_taken}

-- from one total to another: the values between, and their work
record Totalled (ts : Trees) (xs : List Item) (before after : LentTotal) : Type 0 where
  pub values : List Atom
  pub more : ℕ
  pub paid : after.work ≡ before.work + more
  pub taken : Taken ts xs values more
  pub summed : (n : ℕ) (run : Run) → each (λ _. and_addend) n values before.sum run ≡ Ok (after.sum, run)

none : (ts : Trees) (t u : LentTotal) → t ≡ u → Totalled ts [] t u
none ts t u e = record {
  values = [];
  more = 0;
  paid = let p : t.work ≡ u.work = ap (λ t. t.work) e in omega (arith, p);
  taken = none_taken ts;
  summed = λ n run. ap (λ t. Ok (t.sum, run)) e;
}

module _ (ts : Trees) (x : Item) (xs : List Item) (t u : LentTotal) where
  abbrev here : Atom → ℕ
  here a = nodes_in ts x + text_work (text_of a)

  -- with the value a, which comes to the sum y
  abbrev next : Atom → ℤ → LentTotal
  next a y = record { sum = y; work = t.work + here a }

  more : (a : Atom) (z y : ℤ) → atom_of ts x ≡ Ok a → addend a ≡ Ok z → in_range (t.sum +ℤ z) ≡ Ok y → Totalled ts xs (next a y) u → Totalled ts (x ∷ xs) t u
  more a z y found reads fits rest = record {
    values = a ∷ rest.values;
    more = here a + rest.more;
    paid = let e : u.work ≡ t.work + here a + rest.more = rest.paid in omega (arith, e);
    taken = more_taken ts x xs a (text_work (text_of a)) rest.values rest.more found refl rest.taken;
    summed = λ n run.
        ap (λ r. and_then (and_then (come_to r run) (λ z. come_to (in_range (t.sum +ℤ z)))) (each (λ _. and_addend) (suc n) rest.values)) reads
        ∙ ap (λ r. and_then (come_to r run) (each (λ _. and_addend) (suc n) rest.values)) fits ∙ rest.summed (suc n) run;
  }

  module _ (go : (v : LentTotal) → total_of ts xs v ≡ Ok u → Totalled ts xs v u) where
    abbrev after : Result LentTotal Code → Result LentTotal Code
    after r = values.◌>>=◌ r (total_of ts xs)

    fits : (a : Atom) (z : ℤ) → atom_of ts x ≡ Ok a → addend a ≡ Ok z → (r : Result ℤ Code) → in_range (t.sum +ℤ z) ≡ r → after (values.◌>>=◌ r (λ y. Ok (next a y))) ≡ Ok u → Totalled ts (x ∷ xs) t u
    fits a z found reads (Ok y) e h = more a z y found reads e (go (next a y) h)
    fits a z found reads (Err code) e h = absurd cc

    reads : (a : Atom) → atom_of ts x ≡ Ok a → (r : Result ℤ Code) → addend a ≡ r → after (values.◌>>=◌ r (λ z. values.◌>>=◌ (in_range (t.sum +ℤ z)) (λ y. Ok (next a y)))) ≡ Ok u → Totalled ts (x ∷ xs) t u
    reads a found (Ok z) e h = fits a z found e (in_range (t.sum +ℤ z)) refl h
    reads a found (Err code) e h = absurd cc

    found : (r : Result Atom Code) → atom_of ts x ≡ r → after (values.◌>>=◌ r (and_value t (nodes_in ts x))) ≡ Ok u → Totalled ts (x ∷ xs) t u
    found (Ok a) e h = reads a e (addend a) refl h
    found (Err code) e h = absurd cc

totalled : (ts : Trees) (xs : List Item) (t u : LentTotal) → total_of ts xs t ≡ Ok u → Totalled ts xs t u
totalled ts [] t u h = let e : t ≡ u = cc in none ts t u e
totalled ts (x ∷ xs) t u h = found ts x xs t u (λ v. totalled ts xs v u) (atom_of ts x) refl h

-- ---- all of them
module _ (xs : List Item) (t : LentTotal) (run : Run) (h : total_of (trees_of run) xs no_total ≡ Ok t) where
  its : Totalled (trees_of run) xs no_total t
  its = totalled (trees_of run) xs no_total t h

  sum_is : sum xs run ≡ total_paid t run
  sum_is =
      ap (λ r. and_then r (λ values. each (λ _. and_addend) 0 values (pos 0) >>= integer)) (its.taken 0 [] run refl)
      ∙ together (work its.more run) (λ _. pure its.values) (λ values. each (λ _. and_addend) 0 values (pos 0) >>= integer)
      ∙ then_same (work its.more run) (λ _. each (λ _. and_addend) 0 its.values (pos 0) >>= integer) (λ _. integer t.sum) (λ _ now. ap (λ r. and_then r integer) (its.summed 0 now))
      ∙ (let e : its.more ≡ t.work = let p : t.work ≡ 0 + its.more = its.paid in omega (arith, p) in ap (λ n. and_then (work n run) (λ _. integer t.sum)) e)

  pub total_gives : (new : Run) (r : Result (List Item) ValueFault) → Gives (total_paid t) run r new → Gives (sum xs) run r new
  total_gives new r g = gives_same (sum xs) (total_paid t) run new r sum_is g

-- ---- a step over the first item
pub first_added : (ts : Trees) (x : Item) (xs ys : List Item) (t u : LentTotal) → ys ≡ x ∷ xs → and_item ts t x ≡ Ok u → total_of ts ys t ≡ total_of ts xs u
first_added ts x xs ys t u all is = ap (λ ys. total_of ts ys t) all ∙ ap (λ r. values.◌>>=◌ r (total_of ts xs)) is

-- ---- the value of a node whose string value stands in one text
at_place : (o : Option Place) (k : Kind) (text : List ℕ) → IsAt o (λ c. k ≡ c.kind) → text ≡ value_at o → typed_at o ≡ bounded k text
at_place None k text is same = absurd is
at_place (Some x) k text is same = ap (λ k. bounded k (value_of x.content x.children)) (sym is) ∙ ap (bounded k) (sym same)

module _ (ts : Trees) (x : Item) (t : LentTotal) where
  -- of that kind, with that string value, and so many nodes in its tree
  module _ (i : ℕ) (k : Kind) (value text : List ℕ) (nodes : ℕ) (is : x ≡ Node i) (kind : IsAt (find i ts) (λ c. k ≡ c.kind)) (same : value ≡ string_value_of i ts) (sized : nodes ≡ size (pick i ts)) (short : bounded k value ≡ Ok (Untyped text)) where
    pub node_added : (o : Option LentTotal) → IfSome o (λ u. and_value t nodes (Untyped text) ≡ Ok u) → IfSome o (λ u. and_item ts t x ≡ Ok u)
    node_added None h = tt
    node_added (Some u) h =
        ap (and_item ts t) is ∙ ap (λ r. values.◌>>=◌ r (and_value t (size (pick i ts)))) (at_place (find i ts) k value kind same ∙ short)
        ∙ ap (λ n. and_value t n (Untyped text)) (sym sized) ∙ h
