-- New nodes take the next identities, each its own.
use Rattle.std.proofs.Common.{◌≡◌, ℕ, zero, suc, ◌+◌, ◌-◌, ◌/◌, ◌<◌, ◌≤◌, eqb, cond, Bool, true, false, nat_le, if◌then◌else◌, List, [], ◌∷◌, Result, Ok, Err, refl, subst, ◌∙◌, arith}
use Rattle.data_model.specs.Changes.{pick, renumbered}
use Rattle.data_model.specs.Trees.{Trees, no_trees, leaf, Content, append, bytes_in, count, size, find}
use Rattle.data_model.proofs.Weights.{weigh-append}
use Rattle.node_table.proofs.Copies.{in-renumbered, renumbered-within}
use Rattle.node_table.proofs.Ups.{same-ids}
use Rattle.fault_codes.specs.declared.code.Code.{Code}
use Rattle.fault_codes.specs.declared.code.Code.TheVariants.{PXQ0002, PXQ0003}
use Rattle.values.specs.declared.atom.Item.{Item}
use Rattle.values.specs.declared.fault.ValueFault.{ValueFault}
use Rattle.query_meaning.specs.Running.{M, Run, trees_of, pure, and_then, ◌>>=◌, come_to, each, new_nodes, most_nodes, work}
use Rattle.values.specs.Work.{text_work}
use Rattle.query_meaning.specs.Strings.{spaced}
use Rattle.query_meaning.specs.Content as meaning
use Rattle.evaluation.specs.Gives.{Any, GivesIn}
use Rattle.copied_content.specs.Copying.{copied_as_new}
use Rattle.copied_content.specs.New.{IsNew}

-- trees whose nodes have distinct identities, of those from n on up to m
record AreNew (n m : ℕ) (us : Trees) : Type 0 where
  once : (i : ℕ) → count i us ≤ 1
  within : (i : ℕ) → 0 < count i us → (n ≤ i) × (i < m)

copy_new : (n : ℕ) (us : Trees) → AreNew n (n + size us) (renumbered n us)
copy_new n us = record { once = λ i. of i (count i (renumbered n us)) refl; within = λ i. renumbered-within n i us }
  where
    of : (i k : ℕ) → count i (renumbered n us) ≡ k → count i (renumbered n us) ≤ 1
    of i zero e = omega (arith, e)
    of i (suc k) e = let w = renumbered-within n i us (omega (arith, e)) in let one = in-renumbered n i us w.0 w.1 in omega (arith, one)

leaf_new : (n : ℕ) (c : Content) → c.identity ≡ n → AreNew n (n + 1) (leaf c)
leaf_new n c h = record { once = λ i. once i (eqb i c.identity); within = λ i. of i (eqb i c.identity) refl }
  where
    once : (i : ℕ) (b : Bool) → cond b 1 0 + 0 + 0 + 0 ≤ 1
    once i true = omega arith
    once i false = omega arith

    of : (i : ℕ) (b : Bool) → eqb i c.identity ≡ b → 0 < cond b 1 0 + 0 + 0 + 0 → (n ≤ i) × (i < n + 1)
    of i true e there = let s = same-ids i c.identity e in (omega (arith, s, h), omega (arith, s, h))
    of i false e there = absurd (omega (arith, there))

none_new : (run : Run) → IsNew run no_trees run
none_new run = record { lent = refl; own = refl; next = omega arith; distinct = λ i. omega arith; later = λ i h. absurd (omega (arith, h)); below = λ i h. absurd (omega (arith, h)) }

-- those that come later are others
both_new : (a b c : Run) (us vs : Trees) → IsNew a us b → IsNew b vs c → IsNew a (append us vs) c
both_new a b c us vs h g = record {
  lent = g.lent ∙ h.lent;
  own = g.own ∙ h.own;
  next = (let x = h.next in let y = g.next in omega arith);
  distinct = λ i. one i (count i us) (count i vs) (weigh-append (λ j. cond (eqb i j) 1 0) us vs) (h.distinct i) (g.distinct i) (h.below i) (g.later i);
  later = λ i there. later i (count i us) (count i vs) (weigh-append (λ j. cond (eqb i j) 1 0) us vs) there (h.later i) (g.later i);
  below = λ i there. below i (count i us) (count i vs) (weigh-append (λ j. cond (eqb i j) 1 0) us vs) there (h.below i) (g.below i);
}
  where
    one : (i x y : ℕ) → count i (append us vs) ≡ x + y → x ≤ 1 → y ≤ 1 → (0 < x → i < b.shelf.own.next) → (0 < y → b.shelf.own.next ≤ i) → count i (append us vs) ≤ 1
    one i zero y e p q f l = omega (arith, e, q)
    one i (suc x) zero e p q f l = omega (arith, e, p)
    one i (suc x) (suc y) e p q f l = absurd (let u = f (omega arith) in let v = l (omega arith) in omega (arith, u, v))

    later : (i x y : ℕ) → count i (append us vs) ≡ x + y → 0 < count i (append us vs) → (0 < x → a.shelf.own.next ≤ i) → (0 < y → b.shelf.own.next ≤ i) → a.shelf.own.next ≤ i
    later i zero y e there f l = let v = l (omega (arith, e, there)) in let n = h.next in omega (arith, v, n)
    later i (suc x) y e there f l = f (omega arith)

    below : (i x y : ℕ) → count i (append us vs) ≡ x + y → 0 < count i (append us vs) → (0 < x → i < b.shelf.own.next) → (0 < y → i < c.shelf.own.next) → i < c.shelf.own.next
    below i zero y e there f l = l (omega (arith, e, there))
    below i (suc x) y e there f l = let u = f (omega arith) in let n = g.next in omega (arith, u, n)

-- what comes to a value
abbrev Comes : {A : Type 0} → Result A Code → A → Type 0
Comes r a = r ≡ Ok a

same_value : {A : Type 0} (a b : A) → Comes (Ok a) b → a ≡ b
same_value a b e = cc

no_value : {A : Type 0} (code : Code) (a : A) → Err code ≡ Ok a → ⊥
no_value code a e = cc

abbrev MakesNew : M Trees → Type 0
MakesNew m = (run : Run) (p : Trees × Run) → m run ≡ Ok p → IsNew run p.0 p.1

after_value : {A : Type 0} (x : Result A Code) (f : A → M Trees) → ((a : A) → MakesNew (f a)) → MakesNew (come_to x >>= f)
after_value (Ok a) f h run p e = h a run p e
after_value (Err c) f h run p e = absurd (no_value c p e)

new_if : (n : ℕ) (g : ℕ → Trees) (run : Run) (p : Trees × Run) (b : Bool) → AreNew run.shelf.own.next (run.shelf.own.next + n) (g run.shelf.own.next)
    → and_then (if b then Ok (run.shelf.own.next, record run { shelf = record run.shelf { own = record run.shelf.own { next = run.shelf.own.next + n } } }) else Err PXQ0003) (λ i. pure (g i)) ≡ Ok p → IsNew run p.0 p.1
new_if n g run p true h e =
    subst (λ (q : Trees × Run). IsNew run q.0 q.1) (same_value (g run.shelf.own.next, record run { shelf = record run.shelf { own = record run.shelf.own { next = run.shelf.own.next + n } } }) p e)
    (record { lent = refl; own = refl; next = omega arith; distinct = h.once; later = λ i there. (h.within i there).0; below = λ i there. (h.within i there).1 })
new_if n g run p false h e = absurd (no_value PXQ0003 p e)

taken_new : (n : ℕ) (g : ℕ → Trees) → ((i : ℕ) → AreNew i (i + n) (g i)) → MakesNew (new_nodes n >>= (λ i. pure (g i)))
taken_new n g h run p e = new_if n g run p (nat_le (run.shelf.own.next + n) (run.shelf.lent.next + most_nodes)) (h run.shelf.own.next) e

-- work changes no trees
after_work : (n : ℕ) (m : M Trees) → MakesNew m → MakesNew (work n >>= (λ _. m))
after_work n m h run p e = spent (nat_le n run.work) e
  where
    spent : (b : Bool) → and_then {A = Unit {0}} (if b then Ok (tt, record run { work = run.work - n }) else Err PXQ0002) (λ _. m) ≡ Ok p → IsNew run p.0 p.1
    spent true e = let k = h (record run { work = run.work - n }) p e in record { lent = k.lent; own = k.own; next = k.next; distinct = k.distinct; later = k.later; below = k.below }
    spent false e = absurd (no_value PXQ0002 p e)

pub text_new : (text : List ℕ) → MakesNew (meaning.new_text text)
text_new text = after_work (text_work text) (new_nodes 1 >>= (λ i. pure (meaning.text_node text i))) (taken_new 1 (meaning.text_node text) (λ i. leaf_new i _ refl))

as_new : (i : ℕ) → MakesNew (copied_as_new i)
as_new i run p e = let us = meaning.source_at i (trees_of run) (find i (trees_of run)) in taken_new (size us) (λ n. renumbered n us) (λ n. copy_new n us) run p e

copied_new : (i : ℕ) → MakesNew (meaning.copied i)
copied_new i run p e = after_work (bytes_in (pick i (trees_of run)) / 16) (copied_as_new i) (as_new i) run p e

part_new : (x : meaning.Part) → MakesNew (meaning.made x)
part_new (meaning.values more) = after_value (spaced more) meaning.new_text text_new
part_new (meaning.node i) = copied_new i

abbrev put : ℕ → Trees → meaning.Part → M Trees
put k given x = meaning.made x >>= (λ us. pure (append given us))

parts_new : (start : Run) (k : ℕ) (xs : List meaning.Part) (given : Trees) (run : Run) (p : Trees × Run) → IsNew start given run → each put k xs given run ≡ Ok p → IsNew start p.0 p.1
parts_new start k [] given run p h e = subst (λ (q : Trees × Run). IsNew start q.0 q.1) (same_value (given, run) p e) h
parts_new start k (x ∷ xs) given run p h e = of (meaning.made x run) (part_new x run) (λ us after. parts_new start (suc k) xs (append given us) after p) e
  where
    of : (r : Result (Trees × Run) Code) → ((q : Trees × Run) → r ≡ Ok q → IsNew run q.0 q.1)
        → ((us : Trees) (after : Run) → IsNew start (append given us) after → each put (suc k) xs (append given us) after ≡ Ok p → IsNew start p.0 p.1)
        → and_then (and_then r (λ us. pure (append given us))) (each put (suc k) xs) ≡ Ok p → IsNew start p.0 p.1
    of (Ok q) one rest e = rest q.0 q.1 (both_new start run q.1 given q.0 h (one q refl)) e
    of (Err c) one rest e = absurd (no_value c p e)

pub content_new : (items : List Item) → MakesNew (meaning.content items)
content_new items run p e = parts_new run 0 (meaning.parts_of items) no_trees run p (none_new run) e

-- what is given is new
pub gives_new : (m : M Trees) (old new : Run) (r : Result Trees ValueFault) → MakesNew m → GivesIn Any m old r new → GivesIn (IsNew old) m old r new
gives_new m old new (Ok us) makes g = (g.0, (g.1.0, makes old (us, new) g.0))
gives_new m old new (Err fault) makes g = g
